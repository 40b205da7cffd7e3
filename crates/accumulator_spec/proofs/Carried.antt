-- An old total that is carried over: what is answered, and the words as they end; that it is fit and reads as before; that it is the column
-- of the terms that it stands for.
use mathlib.Core.Path.{◌≡◌, refl, sym, ap, ◌∙◌}
use mathlib.Core.Logic.{◌⊎◌, inl, inr}
use mathlib.Core.Bool.{Bool, true, false, not, cond}
use mathlib.Core.List.{List, [], ◌∷◌, ◌++◌, append_assoc}
use Prim.Native.Nat.{ℕ, zero, suc, ◌+◌, ◌*◌, ◌^◌, ◌≤◌, ◌<◌}
use native.Mathlib.Decide.{ℕ_discrete}
use native.Mathlib.Nat.{le_trans, le_of_eq, lt_of_le_of_lt}
use native.Mathlib.Omega.{arith}
use borrow.Author.Tests.{eq-eqb, ne_eqb, eqb-true, eqb-false}
use lib.Dec.{eqb}
use lib.IntN.{ℤ, pos, negsuc, nat_abs, ◌+ℤ◌}
use lib.ListN.{length, length-append, take, get_or-append}
use lib.Seq.{take_at, get_or_at, take-append-le}
use Rattle.rounding_spec.specs.Format.{binary32}
use Rattle.rounding_spec.specs.Value.{decode}
use Rattle.augmented_spec.specs.Pairs.{pair_of}
use Rattle.pattern_spec.specs.Answer.{Answer, refused, done, refusal_of}
use Rattle.pattern_spec.specs.Exact.{finer}
use Rattle.accumulator_spec.specs.Words.{Words, integer, words_of_integer}
use Rattle.accumulator_spec.specs.Totals.{zeros, number_size, total_size, number, count, sign_word, total_of, within_limits, FitTotal}
use Rattle.accumulator_spec.specs.Totals.{Term, of_pattern, finite_operands, term_sign, exact_number, pair_answer}
use Rattle.accumulator_spec.specs.Columns.{column, AllFinite, column_sum, column_sign}
use Rattle.accumulator_spec.specs.Carrying.{old_size, old_total_of, old_column, old_reading, carrying, carried_total, after_carrying}
use Rattle.accumulator_spec.specs.Carrying.{carried_terms}
use Rattle.accumulator_spec.specs.SignTheorems.{CarryingRefused, CarriedAs, CarriesMeans, CarriesNumberedMeans, FitOldIs, OldReads, CarriedFit}
use Rattle.accumulator_spec.specs.SignTheorems.{OldColumnIs, CarriedTermsAre, CarriedColumn}
use Rattle.accumulator_spec.proofs.Adding.{Fits, limits, limits-within, fit-bounds, bounds-fit, never}
use Rattle.accumulator_spec.proofs.Columns.{exact-column}
use Rattle.accumulator_spec.proofs.Held.{append-words, total-same}
use Rattle.accumulator_spec.proofs.ReadTotal.{read-fit}
use Rattle.accumulator_spec.proofs.Signs.{sign_zero, is_one, minus-zero-whole, column-sign-le, column-sign-zero, all-minus-zero-sign}
use Rattle.accumulator_spec.proofs.TwosComplement.{words-formed}

-- ---- what is answered
module _ (old new : List ℕ) where
  pub old-length : (length old ≡ old_size → ⊥) → carrying old new ≡ refused 5
  unfolding carrying
  old-length n = rw (ne_eqb (length old) old_size n)

  pub new-length : (length new ≡ total_size → ⊥) → carrying old new ≡ refused 5
  unfolding carrying
  new-length n = rw (ne_eqb (length new) total_size n) (go (eqb (length old) old_size))
    where
      go : (b : Bool) → ◌≡◌ {A = Answer (Unit {0})} (cond (not b) (refused 5) (refused 5)) (refused 5)
      go true = refl
      go false = refl

  module _ (full : length old ≡ old_size) (room : length new ≡ total_size) where
    pub old-unfit : within_limits old ≡ false → carrying old new ≡ refused 6
    unfolding carrying
    old-unfit e = rw (eq-eqb (length old) old_size full, eq-eqb (length new) total_size room, e)

    pub carries : within_limits old ≡ true → carrying old new ≡ done tt
    unfolding carrying
    carries e = rw (eq-eqb (length old) old_size full, eq-eqb (length new) total_size room, e)

  pub carry-refused : (n : ℕ) → carrying old new ≡ refused n → after_carrying old new ≡ new
  unfolding after_carrying
  carry-refused n e = rw e

  pub carry-done : carrying old new ≡ done tt → after_carrying old new ≡ carried_total old
  unfolding after_carrying
  carry-done e = rw e

pub carrying-refused : CarryingRefused
carrying-refused old new = (old-length old new, new-length old new, old-unfit old new)

-- where none of the three is met
module _ (a b c : Bool) where
  abbrev tried : Answer (Unit {0})
  tried = cond (not a) (refused 5) (cond (not b) (refused 5) (cond (not c) (refused 6) (done tt)))

none-met : (a b c : Bool) → tried a b c ≡ done tt → (a ≡ true) × (b ≡ true) × (c ≡ true)
none-met false b c e = never e
none-met true false c e = never e
none-met true true false e = never e
none-met true true true e = (refl, refl, refl)

pub carry-conditions : (old new : List ℕ) → carrying old new ≡ done tt → (length old ≡ old_size) × (length new ≡ total_size) × (within_limits old ≡ true)
unfolding carrying
carry-conditions old new e =
    let p = none-met (eqb (length old) old_size) (eqb (length new) total_size) (within_limits old) e in
    (eqb-true (length old) old_size p.0, eqb-true (length new) total_size p.1, p.2)

-- ---- the words
module _ (old : List ℕ) (full : length old ≡ old_size) where
  abbrev sign : ℕ
  sign = cond (eqb (count old) 0) 0 1

  carried-front : take old_size (carried_total old) ≡ old
  carried-front = take_at old (sign ∷ []) old_size full

  carried-full : length (carried_total old) ≡ total_size
  carried-full = length-append old (sign ∷ []) ∙ ap (λ (k : ℕ). k + 1) full

  carried-sign : sign_word (carried_total old) ≡ sign
  carried-sign = get_or_at old sign [] 0 old_size full

  carried-count : count (carried_total old) ≡ count old
  carried-count = get_or-append old (sign ∷ []) 0 number_size (omega arith)

  carried-number : number (carried_total old) ≡ number old
  carried-number = ap integer (take-append-le number_size old (sign ∷ []) (omega arith))

  sign-empty : count old ≡ 0 → sign_word (carried_total old) ≡ 0
  sign-empty e = carried-sign ∙ rw e

  sign-some : (count old ≡ 0 → ⊥) → sign_word (carried_total old) ≡ 1
  sign-some n = carried-sign ∙ rw (ne_eqb (count old) 0 n)

  -- fit, as the old one was
  carried-fits : within_limits old ≡ true → Fits (number old) (count old) (sign_word (carried_total old))
  carried-fits h =
      let l = limits old h in
      let b = l.1 in
      elim (ℕ_discrete (count old) 0) [
        | yes e ↦ let s = sign-empty e in
            record {
              few = l.0;
              small = b;
              sign = omega (arith, s);
              none = λ (k : sign_word (carried_total old) ≡ 0). no-terms (number old) (count old) e b;
              some = λ (k : sign_word (carried_total old) ≡ 1). absurd (omega (arith, s, k));
            }
        | no n ↦ let s = sign-some n in
            record {
              few = l.0;
              small = b;
              sign = omega (arith, s);
              none = λ (k : sign_word (carried_total old) ≡ 0). absurd (omega (arith, s, k));
              some = λ (k : sign_word (carried_total old) ≡ 1). above (count old) n;
            }
      ]
    where
      above : (n : ℕ) → (n ≡ 0 → ⊥) → 0 < n
      above zero h = absurd (h refl)
      above (suc n) h = omega arith

      no-terms : (z : ℤ) (n : ℕ) → n ≡ 0 → nat_abs z ≤ n * 2 ^ 554 → z ≡ pos 0
      no-terms (pos m) n e b = ap pos (none (rw e at b))
        where
          none : {m : ℕ} → m ≤ 0 → m ≡ 0
          none h = omega arith
      no-terms (negsuc m) n e b = absurd (none (rw e at b))
        where
          none : {m : ℕ} → suc m ≤ 0 → ⊥
          none h = omega arith

  carried-total-fit : Words old → within_limits old ≡ true → FitTotal (carried_total old)
  carried-total-fit words h =
      let f = carried-fits h in
      let s = f.sign in
      record {
        full = carried-full;
        words = append-words old sign words (lt_of_le_of_lt (le_of_eq (sym carried-sign)) (omega (arith, s)));
        fits = bounds-fit (carried_total old) (rw (carried-number, carried-count) f);
      }

-- ---- what the relations say: g is what an answer is handed over as
module _ {A : Type 0} (g : Answer (Unit {0}) → A) (old new : List ℕ) (answer : A) (after : List ℕ) (e : answer ≡ g (carrying old new)) (w : after ≡ after_carrying old new) where
  refuses : (n : ℕ) → carrying old new ≡ refused n → (answer ≡ g (refused n)) × (after ≡ new)
  refuses n h = (e ∙ ap g h, w ∙ carry-refused old new n h)

  carried-as : CarriedAs (λ n. g (refused n)) (g (done tt)) old new answer after
  carried-as = (
    λ n. refuses 5 (old-length old new n),
    λ n. refuses 5 (new-length old new n),
    λ full room. (
      λ h. refuses 6 (old-unfit old new full room h),
      λ h. let d = carries old new full room h in
          rw (w ∙ carry-done old new d) (
            e ∙ ap g d,
            carried-front old full,
            carried-full old full,
            λ words. (carried-total-fit old full words h, carried-number old full, carried-count old full),
            sign-empty old full,
            sign-some old full,
          ),
    ),
  )

pub carries-means : CarriesMeans
carries-means old new after answer h = carried-as (λ a. a) old new answer after h.0 h.1

pub carries-numbered-means : CarriesNumberedMeans
carries-numbered-means old new after n h = carried-as refusal_of old new n after h.0 h.1

-- ---- it reads as the old one
pub fit-old-is : FitOldIs
fit-old-is t = (
  λ f. let l = limits t f.within in (f.full, f.words, l.0, l.1),
  λ b. record { full = b.0; words = b.1; within = limits-within t b.2 b.3 },
)

pub old-reads : OldReads
unfolding old_reading
old-reads t = (
  λ n. rw (ne_eqb (length t) old_size n),
  λ full h. rw (eq-eqb (length t) old_size full, h),
  λ f. rw (eq-eqb (length t) old_size f.full, f.within),
)

pub carried-fit : CarriedFit
carried-fit old new f room =
    let full = f.full in
    let d = carries old new full room f.within in
    let t = carried-total-fit old full f.words f.within in
    let plain : (sign_word (carried_total old) ≡ 1) ⊎ (count (carried_total old) ≡ 0) =
    elim (ℕ_discrete (count old) 0) [ yes e ↦ inr (carried-count old full ∙ e) | no n ↦ inl (sign-some old full n) ] in
    let reads = (read-fit (carried_total old) t).1 plain ∙ ap (λ (z : ℤ). pair_answer (pair_of binary32 (exact_number z))) (carried-number old full) ∙ sym ((old-reads old).2 f) in
    rw (carry-done old new d) (d, t, carried-number old full, carried-count old full, reads)

-- ---- an old total of known terms
module _ (z : ℤ) (n : ℕ) where
  abbrev ws : List ℕ
  ws = words_of_integer number_size z

  ws-full : length ws ≡ number_size
  ws-full = (words-formed number_size z).0

  old-full : length (old_total_of z n) ≡ old_size
  old-full = length-append ws (n ∷ []) ∙ ap (λ (k : ℕ). k + 1) ws-full

  pub old-count : count (old_total_of z n) ≡ n
  old-count = get_or_at ws n [] 0 number_size ws-full

  old-number : (w : ℕ) → number (old_total_of z n) ≡ number (total_of z n w)
  old-number w = ap integer (take_at ws (n ∷ []) number_size ws-full ∙ sym (take_at ws (n ∷ w ∷ []) number_size ws-full))

  old-behind : (w : ℕ) → old_total_of z n ++ (w ∷ []) ≡ total_of z n w
  old-behind w = append_assoc ws (n ∷ []) (w ∷ [])

pub old-column-is : OldColumnIs
old-column-is xs h f =
    let z = column_sum xs in
    let n = length xs in
    ap (take old_size) ((exact-column xs h f).1 ∙ sym (old-behind z n (column_sign xs))) ∙ take_at (old_total_of z n) (column_sign xs ∷ []) old_size (old-full z n)

-- ---- the terms that it stands for
record Alike (xs zs : List Term) : Type 0 where
  sums : column_sum zs ≡ column_sum xs
  lengths : length zs ≡ length xs
  signs : column_sign zs ≡ cond (eqb (length xs) 0) 0 1
  finite : AllFinite xs → AllFinite zs

plus-zero : (x : Term) (xs : List Term) → term_sign x ≡ 0 → Alike (x ∷ xs) (of_pattern 0 ∷ xs)
unfolding column_sum column_sign AllFinite decode finer
plus-zero x xs e =
    record {
      sums = ap (λ (k : ℤ). k +ℤ column_sum xs) (sym (minus-zero-whole x e));
      lengths = refl;
      signs = sym (rw (ne_eqb (suc (length xs)) 0 (λ (k : suc (length xs) ≡ 0). omega arith)));
      finite = λ (f : (finite_operands x ≡ true) × AllFinite xs). (refl, f.1);
    }

own : (x : Term) (xs : List Term) → (column_sign (x ∷ xs) ≡ 0 → ⊥) → Alike (x ∷ xs) (x ∷ xs)
own x xs n =
    record {
      sums = refl;
      lengths = refl;
      signs = is_one (column_sign (x ∷ xs)) (column-sign-le (x ∷ xs)) n ∙ sym (rw (ne_eqb (suc (length xs)) 0 (λ (k : suc (length xs) ≡ 0). omega arith)));
      finite = λ (f : AllFinite (x ∷ xs)). f;
    }

carried-alike : (xs : List Term) → Alike xs (carried_terms xs)
unfolding column_sign column_sum AllFinite
carried-alike [] = record { sums = refl; lengths = refl; signs = refl; finite = λ (f : Unit {0}). f }
carried-alike (x ∷ xs) = go (eqb (column_sign (x ∷ xs)) 0) refl
  where
    go : (b : Bool) → eqb (column_sign (x ∷ xs)) 0 ≡ b → Alike (x ∷ xs) (cond b (of_pattern 0 ∷ xs) (x ∷ xs))
    go true e = plus-zero x xs (sign_zero (term_sign x) (column_sign xs) (eqb-true (column_sign (x ∷ xs)) 0 e)).0
    go false e = own x xs (eqb-false (column_sign (x ∷ xs)) 0 e)

pub carried-finite : (xs : List Term) → AllFinite xs → AllFinite (carried_terms xs)
carried-finite xs f = (carried-alike xs).finite f

pub carried-terms-are : CarriedTermsAre
unfolding column_sign
carried-terms-are = (
  refl,
  λ x xs m. rw (eq-eqb (column_sign (x ∷ xs)) 0 (all-minus-zero-sign (x ∷ xs) m)),
  λ xs n. rw (ne_eqb (column_sign xs) 0 (λ (e : column_sign xs ≡ 0). n (column-sign-zero xs e))),
)

pub carried-column : CarriedColumn
carried-column new xs few f room =
    let z = column_sum xs in
    let n = length xs in
    let x = exact-column xs few f in
    let b = fit-bounds (column zeros xs) x.5.fits in
    let same : number (old_column xs) ≡ number (column zeros xs) = old-number z n (column_sign xs) ∙ ap number (sym x.1) in
    let c : count (old_column xs) ≡ count (column zeros xs) = old-count z n ∙ sym x.3 in
    let within : within_limits (old_column xs) ≡ true = limits-within (old_column xs) (rw c b.few) (rw (same, c) b.small) in
    let d = carries (old_column xs) new (old-full z n) room within in
    let a = carried-alike xs in
    let y = exact-column (carried_terms xs) (le_trans (le_of_eq a.lengths) few) (carried-finite xs f) in
    let w : ℕ = cond (eqb n 0) 0 1 in (
      d,
      carry-done (old_column xs) new d ∙ ap (λ (k : ℕ). old_column xs ++ (cond (eqb k 0) 0 1 ∷ [])) (old-count z n) ∙ old-behind z n w
          ∙ sym (y.1 ∙ total-same a.sums a.lengths a.signs),
      a.lengths,
    )
