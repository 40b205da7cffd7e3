-- The eleven cases of the table, by computation.
use mathlib.Core.Path.{refl}
use lib.Ieee.{size}
use Rattle.rounding_spec.specs.Round.{keep, last_place}
use Rattle.pattern_spec.specs.Exact.{times}
use Rattle.augmented_spec.specs.Direct.{direct_pair}
use Rattle.augmented_spec.specs.Cases.{Table}

pub table : Table
unfolding direct_pair times keep last_place size
table = (refl, (refl, (refl, (refl, (refl, (refl, (refl, (refl, (refl, (refl, (refl, tt)))))))))))
