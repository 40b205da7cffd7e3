-- The end of the input: the open line and the last two lines.
use mathlib.Core.Path.{◌≡◌, refl, sym, ap, ◌∙◌, subst}
use mathlib.Core.Logic.{inl, inr}
use mathlib.Core.Bool.{true≢false, Bool, true, false}
use mathlib.Core.List.{List, [], ◌++◌}
use Prim.Native.Nat.{ℕ, suc, ◌+◌, ◌-◌, ◌≤◌, ◌<◌}
use native.Mathlib.Nat.{le_trans}
use native.Mathlib.Omega.{arith}
use borrow.Author.Tests.{le-leb, ne_eqb}
use borrow.Author.Rules.{part_to_end}
use lib.Dec.{eqb}
use lib.ListN.{length, take, drop, length-drop}
use Rattle.pattern_spec.specs.Answer.{Answer, refused}
use Rattle.question_spec.specs.Questions.{read_question}
use Rattle.accumulator_spec.specs.Totals.{TwoPatterns, pair_read, reading}
use Rattle.std.specs.Prelude.{Result, Ok, Err}
use Rattle.accumulator_spec.specs.declared.NotDone.{NotDone}
use Rattle.augmented_spec.specs.declared.Halves.{Halves}
use Rattle.accumulator_spec.specs.Answers.{refusal_number, answer_read}
use Rattle.transcript_spec.specs.Texts.{total_text, end_text, line_room}
use Rattle.transcript_spec.specs.Buffers.{written, after_writing, Put, Writes}
use Rattle.transcript_spec.proofs.Parts.{nothing, wrote, as_long, after-part}
use Rattle.sheet_spec.specs.Printed.{Progress, line_text, after_line, read_text, closing_text}
use Rattle.sheet_spec.specs.States.{State, last_line, last_text, close_text}
use Rattle.sheet_spec.specs.Positions.{goes_on, state_of, progress_of}
use Rattle.sheet_spec.specs.Calls.{closing_room, last_room, Ends}
use Rattle.sheet_spec.specs.declared.Position.{Position}
use Rattle.sheet_spec.specs.declared.Progressed.{Progressed}
use Rattle.sheet_spec.proofs.Lengths.{last-most, end-most, read-most, closing-most}
use Rattle.sheet_spec.proofs.Bytes.{nothing-after-stop}
use Rattle.sheet_spec.proofs.Positions.{counts, halted, here, going_on}
use Rattle.sheet_line.specs.Inner.{ready_for, LineEnds}
use Rattle.sheet_line.proofs.Ready.{not-ready}
use Rattle.sheet_feed.specs.Inner.{LastLine}
use Rattle.sheet_feed.proofs.Stepped.{ends-soundly}

-- ---- the total
not-read : (r : Result Halves NotDone) → ((p : Halves) → r ≡ Ok p → ⊥) → (k : ℕ) × (answer_read r ≡ refused k)
not-read (Ok p) h = absurd (h p refl)
not-read (Err e) h = (refusal_number e, refl)

pub total-written : (first second : ℕ) (a : Answer TwoPatterns) (out : List ℕ) (n : ℕ) (out' : List ℕ) → pair_read first second ≡ a
    → Writes out (total_text first second) n out' → Writes out (read_text a) n out'
total-written first second a out n out' e w = subst (λ (b : Answer TwoPatterns). Writes out (read_text b) n out') e w

no_text : (out : List ℕ) → Writes out [] 0 out
unfolding written after_writing
no_text out = rw (le-leb 0 (length out) (omega arith)) (refl, refl)

pub no-total : (r : Result Halves NotDone) (a : Answer TwoPatterns) (out : List ℕ) → ((p : Halves) → r ≡ Ok p → ⊥) → answer_read r ≡ a → Writes out (read_text a) 0 out
no-total r a out h e = let k = not-read r h in subst (λ (b : Answer TwoPatterns). Writes out (read_text b) 0 out) (sym k.1 ∙ e) (no_text out)

-- ---- the last two lines
module _ (p : Progress) (out : List ℕ) (n : ℕ) (out₁ : List ℕ) (total : Writes out (read_text (reading p.total)) n out₁) (room : closing_room ≤ length out) where
  first : Put out 0 (read_text (reading p.total)) n out₁
  first = wrote (le_trans (read-most (reading p.total)) (omega arith)) total

  first_short : (n ≤ 24) × (length out₁ ≡ length out)
  first_short = (omega (arith, first.ends, read-most (reading p.total)), as_long first)

  pub total-short : n ≤ length out₁
  total-short = omega (arith, first_short)

  abbrev lasts : List ℕ
  lasts = end_text p.good (p.lines - p.good)

  module _ (m : ℕ) (part : List ℕ) (w : Writes (take (length out₁ - n) (drop n out₁)) lasts m part) where
    end-written : Put (take (length out₁ - n) (drop n out₁)) 0 lasts m part
    end-written =
        let l : length (take (length out₁ - n) (drop n out₁)) ≡ length out₁ - n = ap length (part_to_end out₁ n) ∙ length-drop n out₁ in
        wrote (omega (arith, l, first_short, end-most p.good (p.lines - p.good))) w

    pub closes-short : n + m ≤ 50
    closes-short = omega (arith, end-written.ends, first_short, end-most p.good (p.lines - p.good))

    pub closes : Put out 0 (closing_text p) (n + m) (take n out₁ ++ (part ++ drop (length out₁ - n) (drop n out₁)))
    unfolding closing_text
    closes = after-part first total-short end-written

-- ---- the open line
no-open-line : (s : State) (out : List ℕ) → s.begun ≡ [] → s.progress.good ≤ s.progress.lines → LastLine s out s.progress 0 out
no-open-line s out e h =
    let b : eqb (length s.begun) 0 ≡ true = ap (λ (l : List ℕ). eqb (length l) 0) e in
    record { progress = rw b; sound = h; text = rw b (nothing out) }

an-open-line : (s : State) (out : List ℕ) (p : Progress) (n : ℕ) (out' : List ℕ) → (length s.begun ≡ 0 → ⊥) → p.good ≤ p.lines → p ≡ after_line s.progress s.begun
    → Put out 0 (line_text (suc s.progress.lines) (read_question s.begun)) n out' → LastLine s out p n out'
an-open-line s out p n out' e h k t =
    let b : eqb (length s.begun) 0 ≡ false = ne_eqb (length s.begun) 0 e in
    record { progress = rw b k; sound = h; text = rw b t }

module _ (p : Position) (line total : List ℕ) (r : goes_on p ≡ true) (out : List ℕ) where
  pub none_open : p.length ≡ 0 → LastLine (state_of p line total) out (progress_of p total) 0 out
  none_open e =
      subst (λ (s : State). LastLine s out (progress_of p total) 0 out) (sym (going_on p line total r))
      (no-open-line (here p line total) out (ap (λ (n : ℕ). take n line) e) (counts p r).good)

  pub one-open : (s : Progressed) (total' out' : List ℕ) → (p.length ≡ 0 → ⊥) → LineEnds p line total out s total' out'
      → LastLine (state_of p line total) out (progress_of s.position total') s.written out'
  one-open s total' out' e h =
      subst (λ (q : State). LastLine q out (progress_of s.position total') s.written out') (sym (going_on p line total r))
      (
      an-open-line (here p line total) out (progress_of s.position total') s.written out' (λ z. e (sym h.whole ∙ z)) (ends-soundly p line total r out s total' out' h).1
      h.progress h.text
      )

-- ---- the end of the input
same_total : (p : Position) (line total : List ℕ) → total ≡ (state_of p line total).progress.total
unfolding state_of
same_total p line total = refl

module _ (p : Position) (line total : List ℕ) (out : List ℕ) where
  abbrev same : total ≡ (state_of p line total).progress.total
  same = same_total p line total

  pub ends-early : (r : Bool) → r ≡ ready_for p (length out) last_room → r ≡ false → Ends (state_of p line total) out 0 total out
  ends-early r is e = elim (not-ready p (length out) last_room r is e) [ inl a ↦ ends-short a | inr a ↦ ends-stopped (halted p line total a) ]
    where
      ends-short : length out < last_room → Ends (state_of p line total) out 0 total out
      ends-short h = record {
        text = λ k. absurd (omega (arith, h, k));
        total = λ k e. absurd (omega (arith, h, k));
        short = λ k. (refl, refl, same);
        stopped = λ e. (refl, refl, same);
      }

      ends-stopped : (state_of p line total).stopped ≡ true → Ends (state_of p line total) out 0 total out
      ends-stopped f = record {
        text = λ k. subst (λ (t : List ℕ). Put out 0 t 0 out) (sym (nothing-after-stop (state_of p line total) [] f).2) (nothing out);
        total = λ k g. absurd (true≢false (sym f ∙ g));
        short = λ k. (refl, refl, same);
        stopped = λ g. (refl, refl, same);
      }

closed : (s : State) → s.stopped ≡ false → close_text s ≡ last_text s ++ closing_text (last_line s)
unfolding close_text
closed s e = rw e

module _ (s : State) (out : List ℕ) (p : Progress) (n : ℕ) (out₁ : List ℕ) (h : LastLine s out p n out₁) (room : last_room ≤ length out) where
  last-long : (length out₁ ≡ length out) × (n ≤ line_room)
  last-long = (as_long h.text, omega (arith, h.text.ends, last-most s))

  pub last_within : n ≤ length out₁
  last_within = omega (arith, last-long.0, last-long.1)

  pub room-behind : closing_room ≤ length (take (length out₁ - n) (drop n out₁))
  room-behind =
      let l : length (take (length out₁ - n) (drop n out₁)) ≡ length out₁ - n = ap length (part_to_end out₁ n) ∙ length-drop n out₁ in
      omega (arith, l, last-long.0, last-long.1)

  pub ends-most : (m : ℕ) (part : List ℕ) → Put (take (length out₁ - n) (drop n out₁)) 0 (closing_text p) m part → n + m ≤ last_room
  ends-most m part t = omega (arith, last-long.1, t.ends, closing-most p)

  pub ends : (m : ℕ) (part : List ℕ) → s.stopped ≡ false → Put (take (length out₁ - n) (drop n out₁)) 0 (closing_text p) m part
      → Ends s out (n + m) p.total (take n out₁ ++ (part ++ drop (length out₁ - n) (drop n out₁)))
  ends m part e t = record {
    text = λ k. subst (λ (l : List ℕ). Put out 0 l (n + m) (take n out₁ ++ (part ++ drop (length out₁ - n) (drop n out₁)))) close (after-part h.text last_within t);
    total = λ k f. ap (λ (q : Progress). q.total) h.progress;
    short = λ k. absurd (omega (arith, room, k));
    stopped = λ f. absurd (true≢false (sym f ∙ e));
  }
    where
      close : last_text s ++ closing_text p ≡ close_text s
      close = ap (λ (q : Progress). last_text s ++ closing_text q) h.progress ∙ sym (closed s e)
