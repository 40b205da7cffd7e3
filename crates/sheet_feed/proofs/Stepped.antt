-- One byte taken: a line's end, another byte, the stop.
use mathlib.Core.Path.{◌≡◌, refl, sym, ap, ◌∙◌, subst}
use mathlib.Core.Logic.{◌⊎◌, inl, inr}
use mathlib.Core.Bool.{Bool, true, false, not, cond}
use mathlib.Core.List.{List, []}
use Prim.Native.Nat.{ℕ, suc, ◌+◌, ◌≤◌, ◌<◌}
use native.Mathlib.Decide.{dec_le}
use native.Mathlib.Omega.{arith}
use lib.ListN.{length, take}
use Rattle.pattern_spec.specs.Answer.{Answer, is_done}
use Rattle.question_spec.specs.Ascii.{newline}
use Rattle.question_spec.specs.Questions.{Asked, read_question}
use Rattle.transcript_spec.specs.Texts.{stop_text}
use Rattle.transcript_spec.specs.Buffers.{Put}
use Rattle.transcript_spec.proofs.Parts.{nothing}
use Rattle.sheet_spec.specs.Printed.{Progress, after_line, most_input_lines}
use Rattle.sheet_spec.specs.States.{State, kept_bytes, longer, stop, extend}
use Rattle.sheet_spec.specs.Positions.{goes_on, state_of, progress_of}
use Rattle.sheet_spec.specs.declared.Position.{Position}
use Rattle.sheet_spec.specs.declared.Progressed.{Progressed}
use Rattle.sheet_spec.proofs.Positions.{counts, goes_on_lem, has-stopped, here, going_on, at-stop, at-end, at_other}
use Rattle.sheet_line.specs.Inner.{LineEnds}
use Rattle.sheet_feed.specs.Inner.{state_in, SameLent, TakesByte, stopped_at}
use Rattle.sheet_feed.specs.declared.step.Run.{Run}

-- ---- another byte of the line
pub extended : (p : Position) → goes_on p ≡ true → p.lines < most_input_lines → (line line' : List ℕ) (b n : ℕ) → (n ≤ kept_bytes) × (take n line' ≡ longer (take p.length line) b)
    → (total : List ℕ) → state_of (record { lines = p.lines; good = p.good; length = n; stopped = p.stopped }) line' total ≡ extend (state_of p line total) b
extended p r room line line' b n h total =
    let next : Position = record { lines = p.lines; good = p.good; length = n; stopped = p.stopped } in
    going_on next line' total (goes_on_lem next (record { going = (counts p r).going; good = (counts p r).good; length = h.0; lines = inl room }))
    ∙ ap {B = State} (λ (l : List ℕ). record { progress = progress_of p total; begun = l; stopped = false }) h.1 ∙ sym (ap (λ (s : State). extend s b) (going_on p line total r))

pub still-same : {q v w : Run} → SameLent q v → SameLent v w → SameLent q w
still-same a b = record { line = b.line ∙ a.line; total = b.total ∙ a.total; total_length = b.total_length ∙ a.total_length }

-- ---- each kind of byte
good-most : (a : Answer Asked) (g n : ℕ) → g ≤ n → cond (is_done a) 1 0 + g ≤ suc n
good-most a g n h = go (is_done a)
  where
    go : (b : Bool) → cond b 1 0 + g ≤ suc n
    go true = omega arith
    go false = omega arith

module _ (p : Position) (line total : List ℕ) (r : goes_on p ≡ true) (out : List ℕ) (s : Progressed) where
  -- counts after the line's end
  pub ends-soundly : (total' out' : List ℕ) → LineEnds p line total out s total' out' → (s.position.lines ≡ suc p.lines) × (s.position.good ≤ s.position.lines)
  unfolding after_line
  ends-soundly total' out' h =
      let a = read_question (take p.length line) in
      let l : s.position.lines ≡ suc p.lines = ap (λ (q : Progress). q.lines) h.progress in
      let g : s.position.good ≡ cond (is_done a) 1 0 + p.good = ap (λ (q : Progress). q.good) h.progress in
      (l, omega (arith, l, g, good-most a p.good p.lines (counts p r).good))

stopped-state : (p : Position) (line total : List ℕ) → state_of (stopped_at p) line total ≡ stop (here p line total)
unfolding state_of
stopped-state p line total =
    ap {B = State} (λ (c : Bool). record { progress = progress_of p total; begun = []; stopped = not c }) (has-stopped (stopped_at p) refl)

module _ (q : Run) (r : goes_on q.position ≡ true) (out : List ℕ) (b : ℕ) where
  abbrev p : Position
  p = q.position

  abbrev line : List ℕ
  line = q.line.now

  abbrev total : List ℕ
  total = q.total.now

  pub step-stops : (v : Run) (n : ℕ) (out' : List ℕ) → p.lines ≡ most_input_lines
      → (v.position ≡ stopped_at p) × (v.line ≡ q.line) × (v.total ≡ q.total) × Put out 0 stop_text n out' → TakesByte q b out n v out'
  step-stops v n out' e h =
      let k = at-stop p line total r b e in
      record {
        state =
            ap (λ (k : Position). state_of k v.line.now v.total.now) h.0 ∙ ap (λ l. state_of (stopped_at p) l.now v.total.now) h.1
            ∙ ap (λ t. state_of (stopped_at p) line t.now) h.2 ∙ stopped-state p line total ∙ sym k.0;
        text = subst (λ (t : List ℕ). Put out 0 t n out') (sym k.1) h.3;
        lent = record { line = ap (λ l. l.ghost_name) h.1; total = ap (λ t. t.ghost_name) h.2; total_length = ap (λ t. length t.now) h.2 };
      }

  module _ (room : p.lines < most_input_lines) where
    pub step-ends : (s : Progressed) (v : Run) (out' : List ℕ) → b ≡ newline → LineEnds p line total out s v.total.now out'
        → v.position ≡ s.position → v.line.now ≡ q.line.now → SameLent q v → TakesByte q b out s.written v out'
    step-ends s v out' e h at kept lent =
        let k = at-end p line total r b room e in
        let c = ends-soundly p line total r out s v.total.now out' h in
        let lines : (s.position.lines < most_input_lines) ⊎ ((s.position.lines ≡ most_input_lines) × (s.position.length ≡ 0)) =
        elim (dec_le most_input_lines s.position.lines) [ yes w ↦ inr (omega (arith, c.0), h.emptied) | no w ↦ inl (omega arith) ] in
        let g = goes_on_lem s.position (record { going = h.going; good = c.1; length = omega (arith, h.emptied); lines = lines }) in
        record {
          state =
              ap (λ (k : Position). state_of k v.line.now v.total.now) at ∙ ap (λ (l : List ℕ). state_of s.position l v.total.now) kept
              ∙ going_on s.position line v.total.now g
              ∙ ap {B = State} (λ (n : ℕ). record { progress = progress_of s.position v.total.now; begun = take n line; stopped = false }) h.emptied
              ∙ ap {B = State} (λ (g : Progress). record { progress = g; begun = []; stopped = false }) h.progress ∙ sym k.0;
          text = subst (λ (t : List ℕ). Put out 0 t s.written out') (sym k.1) h.text;
          lent = lent;
        }

    pub step-extends : (v : Run) → (b ≡ newline → ⊥) → state_in v ≡ extend (state_in q) b → SameLent q v → TakesByte q b out 0 v out
    step-extends v n h lent =
        let k = at_other p line total r b room n in
        record {
          state = h ∙ ap (λ (v : State). extend v b) (going_on p line total r) ∙ sym k.0;
          text = subst (λ (t : List ℕ). Put out 0 t 0 out) (sym k.1) (nothing out);
          lent = lent;
        }
