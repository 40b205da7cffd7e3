-- Steps with NaN and infinities need no rounding.
use mathlib.Core.Path.{◌≡◌, refl, ap, ◌∙◌}
use mathlib.Core.Bool.{Bool, true, false, beq, cond}
use Rattle.rounding_spec.specs.declared.Ties.{Ties}
use Rattle.rounding_spec.specs.Format.{Format}
use Rattle.rounding_spec.specs.Value.{Value, nan, infinite, finite, round}
use Rattle.pattern_spec.specs.Exact.{plus, finer}
use Rattle.binary32_spec.specs.Steps.{add_value}

-- a choice between an infinity and NaN is not rounded, nor counted in another unit
round-choice : (t : Ties) (F : Format) (b s : Bool) → round t F (cond b (infinite s) nan) ≡ cond b (infinite s) nan
unfolding round
round-choice t F true s = refl
round-choice t F false s = refl

finer-choice : (F : Format) (b s : Bool) → finer F (cond b (infinite s) nan) ≡ cond b (infinite s) nan
unfolding finer
finer-choice F true s = refl
finer-choice F false s = refl

module _ (F : Format) (s : Bool) where
  pub round-infinite-plus : (t : Ties) (v : Value) → round t F (plus (infinite s) v) ≡ plus (infinite s) v
  unfolding round plus
  round-infinite-plus t nan = refl
  round-infinite-plus t (infinite r) = round-choice t F (beq s r) s
  round-infinite-plus t (finite r a) = refl

  pub finer-infinite-plus : (v : Value) → finer F (plus (infinite s) v) ≡ plus (infinite s) v
  unfolding finer plus
  finer-infinite-plus nan = refl
  finer-infinite-plus (infinite r) = finer-choice F (beq s r) s
  finer-infinite-plus (finite r a) = refl

  pub infinite-plus-finer : (v : Value) → plus (infinite s) (finer F v) ≡ plus (infinite s) v
  unfolding finer plus
  infinite-plus-finer nan = refl
  infinite-plus-finer (infinite r) = refl
  infinite-plus-finer (finite r a) = refl

  pub add-infinite : (v : Value) → add_value F (infinite s) v ≡ plus (infinite s) v
  unfolding add_value
  add-infinite v = ap (round _ F) (finer-infinite-plus v) ∙ round-infinite-plus _ v
