-- How each call of a list was met, and what each reading in it answers.
use mathlib.Core.Path.{◌≡◌}
use mathlib.Core.List.{List, [], ◌∷◌, ◌++◌}
use Prim.Native.Nat.{◌+◌}
use native.Mathlib.Omega.{arith}
use Rattle.rounding_spec.specs.Format.{binary32}
use Rattle.augmented_spec.specs.Pairs.{pair_of}
use Rattle.accumulator_spec.specs.Totals.{pair_answer, reading}
use Rattle.conservation_spec.specs.Lists.{Totals, Side, on_first, on_other, total_on}
use Rattle.conservation_spec.specs.Lists.{Event, asks, reads, adds, after_event, after_events, questions, book_value}
use Rattle.conservation_spec.specs.Claim.{BothHold, Met}
use Rattle.conservation_spec.specs.Theorems.{cleared, MetEach, ReadEach}
use Rattle.conservation_spec.proofs.Allowed.{allowed-here}
use Rattle.conservation_spec.proofs.Claim.{conserved}

pub met-each : MetEach
unfolding Met after_events
met-each t [] after e h = h.0
met-each t (f ∷ before) after e h = met-each (after_event t f) before after e h.1

pub questions-append : (es fs : List Event) → questions (es ++ fs) ≡ questions es + questions fs
unfolding questions
questions-append [] fs = omega arith
questions-append (asks q ∷ es) fs = omega (arith, questions-append es fs)
questions-append (reads side ∷ es) fs = questions-append es fs
questions-append (adds side x ∷ es) fs = questions-append es fs

read-on : (side : Side) (t : Totals) (es : List Event) → BothHold t es → reading (total_on side t) ≡ pair_answer (pair_of binary32 (book_value es))
read-on on_first t es h = h.first_read
read-on on_other t es h = h.other_read

pub read-each : ReadEach
unfolding questions
read-each a b before after side la lb few w =
    let t = cleared a b in
    let n = questions-append before (reads side ∷ after) in
    let h = allowed-here t before after (reads side) w in
    read-on side (after_events t before) before (conserved a b before la lb (omega (arith, n)) h.0).0
