-- Going over the ranges that meet one.
use Rattle.std.specs.Prelude.{◌≡◌, false, List, [], ◌∷◌}
use Rattle.num_range.specs.Range.{PlainRange}
use Rattle.reg_entry.specs.Ranges.{ranges_meet}
use Rattle.sub_book.specs.Book.{ranges_meeting}

-- those that meet the range come before all others
abbrev pub MeetFirst : {V : Type 0} → PlainRange → List (PlainRange × V) → Type 0
MeetFirst r [] = Unit {0}
MeetFirst r (p ∷ ps) = (ranges_meet p.0 r ≡ false → ranges_meeting ps r ≡ []) × MeetFirst r ps
