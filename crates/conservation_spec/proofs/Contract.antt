-- What the relations that the contracts of `replay` cite say.
use mathlib.Core.Path.{◌≡◌, ap, ◌∙◌}
use Rattle.pattern_spec.specs.Answer.{refused, done, refusal_of}
use Rattle.conservation_spec.specs.Claim.{BothHold, Met}
use Rattle.conservation_spec.specs.Replay.{Asking, Lent, entries_of, events_of, replaying, after_replaying}
use Rattle.conservation_spec.specs.Theorems.{AllAsked, ReplaysMeans, ReplayNumbers}
use Rattle.conservation_spec.proofs.Refusals.{replay-by, replay-done, replay-unchanged}
use Rattle.conservation_spec.proofs.Questions.{replay-words}

-- of a call that is carried out
pub all_asked : (q : Asking) (before after : Lent) → replaying q before ≡ done tt → after ≡ after_replaying q before
    → BothHold after.totals (events_of (entries_of q) before.words) × Met before.totals (events_of (entries_of q) before.words) → AllAsked q before after
all_asked q before after e left claim =
    (ap (λ (l : Lent). l.words) left ∙ (replay-words q before e).3, ap (λ (l : Lent). l.totals) (left ∙ replay-done q before e), claim.0, claim.1)

pub replays-means : ReplaysMeans
replays-means q before after answer h =
    replay-by q before (λ m. (answer ≡ refused m) × (after ≡ before)) ((answer ≡ done tt) × AllAsked q before after)
    (λ m e. (h.answered ∙ e, h.left ∙ replay-unchanged q before m e))
    (λ e. let a = h.answered ∙ e in (a, all_asked q before after e h.left (rw a at h.conserves)))

pub replay-numbers : ReplayNumbers
replay-numbers q before after r h =
    replay-by q before (λ m. (r ≡ m) × (after ≡ before)) ((r ≡ 0) × AllAsked q before after)
    (λ m e. (h.answered ∙ ap refusal_of e, h.left ∙ replay-unchanged q before m e))
    (λ e. let a = h.answered ∙ ap refusal_of e in (a, all_asked q before after e h.left (rw a at h.conserves)))
