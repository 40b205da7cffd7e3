use mathlib.Core.Path.{ap, ◌∙◌}
use mathlib.Core.Bool.{Bool, false}
use Prim.Native.Nat.{ℕ, ◌*◌, ◌^◌}
use Rattle.rounding_spec.specs.Format.{binary32}
use Rattle.rounding_spec.specs.Value.{decode, is_infinite}
use Rattle.augmented_spec.specs.Pairs.{flags_of}
use Rattle.augmented_spec.proofs.Answered.{same-pair}
use Rattle.augmented_spec.proofs.Rests.{plain-patterns, first-shows}
use Rattle.augmented_product.proofs.with_rest.Goals as goal

pub returns : goal.returns
returns c =
    let n = c.args.number in let h = plain-patterns n.sign (n.sig * 2 ^ n.exp) c.near-halves.result c.near-halves.ensures in
    let over = c.is_infinite-over.ensures ∙ ap (λ (q : ℕ). is_infinite (decode binary32 q)) h.0 ∙ first-shows n.sign (n.sig * 2 ^ n.exp) in
    same-pair h.0 h.1 (c.raised.ensures ∙ ap (λ (o : Bool). flags_of false o false) over)
