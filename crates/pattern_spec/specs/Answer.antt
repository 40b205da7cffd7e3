-- What a call answers (R8): the number of its refusal, or a value where it is carried out.
use Rattle.std.specs.Prelude.{ℕ, Bool, true, false}

pub data Answer (A : Type 0) : Type 0 where
  refused : ℕ → Answer A
  done : A → Answer A

abbrev pub is_done : {A : Type 0} → Answer A → Bool
is_done (refused n) = false
is_done (done a) = true

-- the number of a refusal, and 0 where there is none
abbrev pub refusal_of : {A : Type 0} → Answer A → ℕ
refusal_of (refused n) = n
refusal_of (done a) = 0
