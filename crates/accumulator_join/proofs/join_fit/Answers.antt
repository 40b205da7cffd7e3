use mathlib.Core.Path.{◌≡◌, refl, ap, ◌∙◌}
use Prim.Native.Nat.{ℕ, zero, suc, ◌+◌, ◌≤◌}
use native.Mathlib.Omega.{arith}
use borrow.Author.Tests.{le-leb, lt-leb}
use lib.Bits.{bit_or}
use lib.IntN.{◌+ℤ◌}
use lib.ListN.{get_or}
use Rattle.accumulator_spec.specs.Totals.{number_size, most_terms, number, count, sign_word, total_of, sign_of_both}
use Rattle.accumulator_spec.proofs.WordSums.{sum-placed}
use Rattle.accumulator_join.proofs.join_fit.Goals as goal

-- two words that are 0 or 1
either-word : (v w : ℕ) → v ≤ 1 → w ≤ 1 → bit_or v w ≡ sign_of_both v w
either-word zero zero h l = refl
either-word zero (suc zero) h l = refl
either-word (suc zero) zero h l = refl
either-word (suc zero) (suc zero) h l = refl
either-word zero (suc (suc w)) h l = absurd (omega (arith, l))
either-word (suc zero) (suc (suc w)) h l = absurd (omega (arith, l))
either-word (suc (suc v)) w h l = absurd (omega (arith, h))

pub returns-then-n-gt-MOST_TERMS : goal.returns-then-n-gt-MOST_TERMS
returns-then-n-gt-MOST_TERMS c =
    let a = c.args in rw (lt-leb (get_or a.first.now number_size 0 + get_or a.second.now number_size 0) most_terms c.if-n-gt-MOST_TERMS.true) (refl, refl)

pub returns : goal.returns
returns c =
    let w = c.add_words in let f = c.args.first.now in let s = c.args.second.now in let p = c.requires.lengths in let q = c.requires.signs in
    rw (le-leb (get_or f number_size 0 + get_or s number_size 0) most_terms c.if-n-gt-MOST_TERMS.false) (
      refl,
      sum-placed f s w.new.first _ _ p.0 p.1 w.ensures ∙ ap (total_of (number f +ℤ number s) (count f + count s)) (either-word (sign_word f) (sign_word s) q.0 q.1),
    )
