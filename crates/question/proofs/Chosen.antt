-- A value that is read or not, by a test.
use Rattle.std.proofs.Common.{◌≡◌, refl, ℕ, Bool, true, false, Some, None}
use Rattle.std.specs.Prelude.{Option, cond}

pub some-chosen : (b : Bool) (v x : ℕ) → ◌≡◌ {A = Option ℕ} (Some x) (cond b (Some v) None) → (b ≡ true) × (x ≡ v)
some-chosen true v x e = (refl, cc)
some-chosen false v x e = cc

pub none-chosen : (b : Bool) (v : ℕ) → ◌≡◌ {A = Option ℕ} None (cond b (Some v) None) → b ≡ false
none-chosen true v e = cc
none-chosen false v e = refl
