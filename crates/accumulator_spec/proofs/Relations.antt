-- What the relations of the contracts say: of `clearing`, `adding` and `reading` by the theorems about them, whatever stands for an answer.
use mathlib.Core.Path.{◌≡◌, refl, sym, ap, ◌∙◌}
use mathlib.Core.List.{List}
use Prim.Native.Nat.{ℕ}
use Rattle.pattern_spec.specs.Answer.{Answer, refused, done, refusal_of}
use Rattle.accumulator_spec.specs.declared.ReadingNumbers.{ReadingNumbers}
use Rattle.accumulator_spec.specs.Totals.{Term, adding, after_adding, clearing, after_clearing, reading_numbers}
use Rattle.accumulator_spec.specs.Theorems.{ClearedAs, AddedAs, ClearsMeans, ClearNumbers, AddsMeans, AddsNumberedMeans, AddsAlike, NoPairRead, ReadNumbers}
use Rattle.accumulator_spec.proofs.Answers.{clearing-is, adding-length, adding-unfit, adding-special, adding-full, adding-done, after-refused, reading-length, reading-unfit, reading-pair}
use Rattle.accumulator_spec.proofs.Adding.{exact-adding}

-- ---- f is what an answer is handed over as
module _ {A : Type 0} (f : Answer (Unit {0}) → A) (before : List ℕ) where
  pub cleared-as : (answer : A) (after : List ℕ) → answer ≡ f (clearing before) → after ≡ after_clearing before → ClearedAs (λ n. f (refused n)) (f (done tt)) before answer after
  cleared-as answer after e w = (
    λ n. let c = (clearing-is before).0 n in (e ∙ ap f c.0, w ∙ c.1),
    λ n. let c = (clearing-is before).1 n in (e ∙ ap f c.0, w ∙ c.1),
  )

  module _ (x : Term) (answer : A) (after : List ℕ) (e : answer ≡ f (adding before x)) (w : after ≡ after_adding before x) where
    refuses : (n : ℕ) → adding before x ≡ refused n → (answer ≡ f (refused n)) × (after ≡ before)
    refuses n h = (e ∙ ap f h, w ∙ after-refused before x n h)

    pub added-as : AddedAs (λ n. f (refused n)) (f (done tt)) before x answer after
    added-as = (
      λ n. refuses 5 (adding-length before x n),
      λ full. (
        λ h. refuses 6 (adding-unfit before x full h),
        λ fits h. refuses 7 (adding-special before x full fits h),
        λ fits fin h. refuses 8 (adding-full before x full fits fin h),
        λ fits fin h words. let d = adding-done before x full fits fin h in let k = exact-adding before x words d in rw w (e ∙ ap f d, k.0, k.1, k.2, k.3),
      ),
    )

-- ---- as they are stated
pub clears-means : ClearsMeans
clears-means before after answer h = cleared-as (λ a. a) before answer after h.0 h.1

pub clear-numbers : ClearNumbers
clear-numbers before after n h = cleared-as refusal_of before n after h.0 h.1

pub adds-means : AddsMeans
adds-means before after x answer h = added-as (λ a. a) before x answer after h.0 h.1

pub adds-numbered-means : AddsNumberedMeans
adds-numbered-means before after x n h = added-as refusal_of before x n after h.0 h.1

pub adds-alike : AddsAlike
adds-alike before after other x n m h k = (h.0 ∙ sym k.0, h.1 ∙ sym k.1)

-- ---- reading, by numbers
no-pair-read : (n : ℕ) (r : ReadingNumbers) → r ≡ reading_numbers (refused n) → NoPairRead n r
no-pair-read n r e = rw e (refl, refl, refl)

pub read-numbers : ReadNumbers
read-numbers t r h = (
  λ n. no-pair-read 5 r (h ∙ ap reading_numbers (reading-length t n)),
  λ full f. no-pair-read 6 r (h ∙ ap reading_numbers (reading-unfit t full f)),
  λ full f. let e = h ∙ ap reading_numbers (reading-pair t full f) in (ap (λ (s : ReadingNumbers). s.refusal) e, ap (λ (s : ReadingNumbers). s.first) e, ap (λ (s : ReadingNumbers). s.second) e),
)
