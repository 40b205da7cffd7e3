-- What `replay` leaves, where it is refused and where it is carried out: the claim about its questions holds.
use mathlib.Core.Path.{◌≡◌, sym, ap₂, ◌∙◌, subst}
use mathlib.Core.Bool.{true≢false, true, false}
use mathlib.Core.List.{List}
use Prim.Native.Nat.{ℕ}
use native.Mathlib.Nat.{le_trans, le_of_eq}
use lib.ListN.{length}
use Rattle.pattern_spec.specs.Answer.{Answer, refused, done, is_done}
use Rattle.accumulator_spec.specs.Words.{Words}
use Rattle.conservation_spec.specs.Lists.{Totals, Event, after_events}
use Rattle.conservation_spec.specs.Claim.{BothHold, Met, Conserves}
use Rattle.conservation_spec.specs.Replay.{Asking, Lent, entries_of, events_of, after_asking, all_within, replaying, after_replaying, Replays}
use Rattle.conservation_spec.specs.Theorems.{cleared, ReplayConserves}
use Rattle.conservation_spec.proofs.Claim.{conserved}
use Rattle.conservation_spec.proofs.Events.{questions-of, allowed_of}
use Rattle.conservation_spec.proofs.Misfits.{cleared-already, fits, is-done}

pub replay-conserves : ReplayConserves
unfolding after_replaying
replay-conserves q l v w e =
    let f = fits q l e in
    let first = l.totals.first in
    let other = l.totals.other in
    let a = cleared-already first f.first_cleared in
    let b = cleared-already other f.other_cleared in
    let es : List Event = events_of (entries_of q) l.words in
    let n = questions-of q.operations q.xs q.ys q.counts l.words f.same_xs f.same_ys f.same_counts in
    let start : cleared first other ≡ l.totals = ap₂ {C = Totals} (λ (t u : List ℕ). record { first = t; other = u }) a.1 b.1 in
    let allowed = allowed_of q.operations q.xs q.ys q.counts l.words (cleared first other) v w in
    let k = conserved first other es a.0 b.0 (le_trans (le_of_eq n) f.few) allowed in (
      rw e (subst (λ (t : Totals). BothHold (after_events t es) es) start k.0),
      subst (λ (t : Totals). Met t es) start k.1,
      n,
    )

-- ---- the call's contract
module _ (q : Asking) (l : Lent) where
  abbrev es : List Event
  es = events_of (entries_of q) l.words

  pub refusal-outcome : (a : Answer (Unit {0})) → a ≡ replaying q l → is_done a ≡ false → Replays q l a l
  unfolding after_replaying
  refusal-outcome (refused n) e f = record { answered = e; left = rw (← e); conserves = tt }
  refusal-outcome (done u) e f = absurd (true≢false f)

  module _ (a : Answer (Unit {0})) (is : a ≡ replaying q l) (carried : is_done a ≡ true) where
    answered : replaying q l ≡ done tt
    answered = sym is ∙ is-done a carried

    -- what asking them needs
    pub ready : ((length q.xs ≡ length q.operations) × (length q.ys ≡ length q.operations) × (length q.counts ≡ length q.operations))
        × (all_within q.counts (length l.words) ≡ true)
    ready = let f = fits q l answered in ((f.same_xs, f.same_ys, f.same_counts), f.within)

    pub done-outcome : Words q.xs → Words q.ys → (after : Lent) → after ≡ after_asking q l → Replays q l a after
    unfolding after_replaying
    done-outcome v w after e =
        let r = replay-conserves q l v w answered in
        let is-after : after ≡ after_replaying q l = rw answered e in
        let h : BothHold after.totals es = subst (λ (k : Lent). BothHold k.totals es) (sym is-after) r.0 in
        record {
          answered = is;
          left = is-after;
          conserves = subst (λ (b : Answer (Unit {0})). Conserves b es l.totals after.totals) (sym (is-done a carried)) (h, r.1);
        }
