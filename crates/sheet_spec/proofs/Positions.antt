-- Counts of a run, and the state that they stand for after each kind of byte.
use mathlib.Core.Path.{◌≡◌, refl, ap}
use mathlib.Core.Logic.{◌⊎◌, inl, inr}
use mathlib.Core.Bool.{Bool, true, false, not, ◌&&◌, ◌||◌, or-true}
use mathlib.Core.List.{List, []}
use Prim.Native.Nat.{ℕ, suc, ◌≤◌, ◌<◌}
use native.Mathlib.Omega.{arith}
use borrow.Author.Tests.{le-leb, lt-leb, lt-ltb, le-ltb, leb-true, ltb-true, eq-eqb, ne_eqb, eqb-true, not-true}
use lib.Dec.{eqb, leb, ltb}
use lib.ListN.{take}
use Rattle.pattern_spec.proofs.Truth.{both_of}
use Rattle.accumulator_spec.specs.Totals.{zeros}
use Rattle.question_spec.specs.Ascii.{newline}
use Rattle.question_spec.specs.Questions.{read_question}
use Rattle.transcript_spec.specs.Texts.{stop_text}
use Rattle.sheet_spec.specs.Printed.{line_text, most_input_lines}
use Rattle.sheet_spec.specs.States.{State, kept_bytes, begin, stop, end_line, extend, take_byte, byte_text}
use Rattle.sheet_spec.specs.Positions.{goes_on, progress_of, state_of}
use Rattle.sheet_spec.specs.declared.Position.{Position}

-- ---- whether a run goes on
either_true : (a b : Bool) → a || b ≡ true → (a ≡ true) ⊎ (b ≡ true)
either_true true b e = inl refl
either_true false b e = inr e

-- what is known of the counts then
pub record Counts (p : Position) : Type 0 where
  pub going : p.stopped ≡ false
  pub good : p.good ≤ p.lines
  pub length : p.length ≤ kept_bytes
  pub lines : (p.lines < most_input_lines) ⊎ ((p.lines ≡ most_input_lines) × (p.length ≡ 0))

pub counts : (p : Position) → goes_on p ≡ true → Counts p
unfolding goes_on
counts p e =
    let last : Bool = ltb p.lines most_input_lines || (eqb p.lines most_input_lines && eqb p.length 0) in
    let n = both_of (not p.stopped) (leb p.good p.lines && (leb p.length kept_bytes && last)) e in
    let a = both_of (leb p.good p.lines) (leb p.length kept_bytes && last) n.1 in
    let b = both_of (leb p.length kept_bytes) last a.1 in
    let room : (p.lines < most_input_lines) ⊎ ((p.lines ≡ most_input_lines) × (p.length ≡ 0)) =
    elim (either_true (ltb p.lines most_input_lines) (eqb p.lines most_input_lines && eqb p.length 0) b.1) [
      | inl h ↦ inl (ltb-true p.lines most_input_lines h)
      | inr h ↦ let k = both_of (eqb p.lines most_input_lines) (eqb p.length 0) h in inr (eqb-true p.lines most_input_lines k.0, eqb-true p.length 0 k.1)
    ] in
    record { going = not-true p.stopped n.0; good = leb-true p.good p.lines a.0; length = leb-true p.length kept_bytes b.0; lines = room }

pub goes_on_lem : (p : Position) → Counts p → goes_on p ≡ true
unfolding goes_on
goes_on_lem p c =
    elim c.lines [
      | inl l ↦ rw (c.going, le-leb p.good p.lines c.good, le-leb p.length kept_bytes c.length, lt-ltb p.lines most_input_lines l)
      | inr l ↦
          rw (c.going, le-leb p.good p.lines c.good, le-leb p.length kept_bytes c.length, eq-eqb p.lines most_input_lines l.0, eq-eqb p.length 0 l.1)
          (or-true (ltb p.lines most_input_lines))
    ]

-- the counts that a run begins with
pub begins : (line : List ℕ) → state_of (record { lines = 0; good = 0; length = 0; stopped = false }) line zeros ≡ begin
unfolding state_of goes_on
begins line = refl

-- as the code finds it out
module _ (p : Position) where
  pub has-stopped : p.stopped ≡ true → goes_on p ≡ false
  unfolding goes_on
  has-stopped e = rw e

  module _ (s : p.stopped ≡ false) where
    pub more-good : p.lines < p.good → goes_on p ≡ false
    unfolding goes_on
    more-good h = rw (s, lt-leb p.good p.lines h)

    module _ (g : p.good ≤ p.lines) where
      pub too_long : kept_bytes < p.length → goes_on p ≡ false
      unfolding goes_on
      too_long h = rw (s, le-leb p.good p.lines g, lt-leb p.length kept_bytes h)

      module _ (n : p.length ≤ kept_bytes) where
        pub lines_left : p.lines < most_input_lines → goes_on p ≡ true
        lines_left h = goes_on_lem p (record { going = s; good = g; length = n; lines = inl h })

        pub too_many : most_input_lines < p.lines → goes_on p ≡ false
        unfolding goes_on
        too_many h =
            rw (
              s,
              le-leb p.good p.lines g,
              le-leb p.length kept_bytes n,
              le-ltb p.lines most_input_lines (omega arith),
              ne_eqb p.lines most_input_lines (λ (e : p.lines ≡ most_input_lines). omega arith),
            )

        pub as-empty : p.lines ≡ most_input_lines → goes_on p ≡ eqb p.length 0
        unfolding goes_on
        as-empty e =
            rw (
              s,
              le-leb p.good p.lines g,
              le-leb p.length kept_bytes n,
              le-ltb p.lines most_input_lines (omega (arith, e)),
              eq-eqb p.lines most_input_lines e,
            )

pub lines-most : (p : Position) → goes_on p ≡ true → p.lines ≤ most_input_lines
lines-most p r = elim (counts p r).lines [ inl h ↦ omega arith | inr h ↦ omega (arith, h.0) ]

pub not_full : (p : Position) → goes_on p ≡ true → (p.lines ≡ most_input_lines → ⊥) → p.lines < most_input_lines
not_full p r n = elim (counts p r).lines [ inl h ↦ h | inr h ↦ absurd (n h.0) ]

module _ (p : Position) (line total : List ℕ) where
  -- the state of a run that goes on
  abbrev pub here : State
  here = record { progress = progress_of p total; begun = take p.length line; stopped = false }

  pub going_on : goes_on p ≡ true → state_of p line total ≡ here
  unfolding state_of
  going_on r = ap {B = State} (λ (b : Bool). record { progress = progress_of p total; begun = take p.length line; stopped = not b }) r

  pub halted : goes_on p ≡ false → (state_of p line total).stopped ≡ true
  unfolding state_of
  halted e = ap not e

  pub running : goes_on p ≡ true → (state_of p line total).stopped ≡ false
  unfolding state_of
  running e = ap not e

  -- ---- each kind of byte
  module _ (r : goes_on p ≡ true) (b : ℕ) where
    pub at-stop : p.lines ≡ most_input_lines → (take_byte (state_of p line total) b ≡ stop here) × (byte_text (state_of p line total) b ≡ stop_text)
    unfolding take_byte byte_text
    at-stop e = rw (going_on r, le-leb most_input_lines p.lines (omega (arith, e))) (refl, refl)

    module _ (room : p.lines < most_input_lines) where
      pub at-end : b ≡ newline
          → (take_byte (state_of p line total) b ≡ end_line here) × (byte_text (state_of p line total) b ≡ line_text (suc p.lines) (read_question (take p.length line)))
      unfolding take_byte byte_text
      at-end e = rw (going_on r, lt-leb most_input_lines p.lines room, eq-eqb b newline e) (refl, refl)

      pub at_other : (b ≡ newline → ⊥) → (take_byte (state_of p line total) b ≡ extend here b) × (byte_text (state_of p line total) b ≡ [])
      unfolding take_byte byte_text
      at_other n = rw (going_on r, lt-leb most_input_lines p.lines room, ne_eqb b newline n) (refl, refl)
