-- The part of a range that lies in another one.
use Rattle.std.specs.Prelude.{min, max}
use Rattle.num_range.specs.Range.{PlainRange}

abbrev pub part_inside : PlainRange → PlainRange → PlainRange
part_inside r outer = record { space = r.space; first = max r.first outer.first; last = min r.last outer.last }
