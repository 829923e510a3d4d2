-- Ranges that carry a value, as a sorted list: sub-assignments and reverse entries are kept so.
use Rattle.std.specs.Prelude.{◌≡◌, true, not, ◌&&◌, ◌||◌, nat_lt, if◌then◌else◌, List, [], ◌∷◌, Option, filter, find}
use Rattle.std.specs.Option.{option_map}
pub use Rattle.num_range.specs.Space.{space_rank, same_space}
use Rattle.num_range.specs.Range.{PlainRange, IsRange}
pub use Rattle.num_range.specs.Range.{same_range, range_before, range_holds, lies_inside, ranges_meet}

-- the whole of the first range lies before the second
abbrev pub IsBelow : PlainRange → PlainRange → Type 0
IsBelow r s = (nat_lt (space_rank r.space) (space_rank s.space) || (same_space r.space s.space && nat_lt r.last s.first)) ≡ true

-- ---- looked up

-- the value of exactly this range
abbrev pub value_of_range : {T : Type 0} → List (PlainRange × T) → PlainRange → Option T
value_of_range rs r = option_map (λ p. p.1) (find (λ p. same_range p.0 r) rs)

-- the first range that has a number in common with this one
abbrev pub first_meeting : {T : Type 0} → List (PlainRange × T) → PlainRange → Option (PlainRange × T)
first_meeting rs r = find (λ p. ranges_meet p.0 r) rs

-- the ranges that lie inside this one
abbrev pub ranges_inside : {T : Type 0} → List (PlainRange × T) → PlainRange → List (PlainRange × T)
ranges_inside rs r = filter (λ p. lies_inside p.0 r) rs

-- ---- changed

-- the list with this value of the range, in its place
abbrev pub with_range : {T : Type 0} → List (PlainRange × T) → PlainRange → T → List (PlainRange × T)
with_range [] r x = (r, x) ∷ []
with_range (p ∷ ps) r x =
    if same_range p.0 r then (r, x) ∷ ps
    else (if range_before r p.0 then (r, x) ∷ p ∷ ps else p ∷ with_range ps r x)

-- the list without exactly this range
abbrev pub without_range : {T : Type 0} → List (PlainRange × T) → PlainRange → List (PlainRange × T)
without_range rs r = filter (λ p. not (same_range p.0 r)) rs

-- the list without the ranges that lie inside this one
abbrev pub without_inside : {T : Type 0} → List (PlainRange × T) → PlainRange → List (PlainRange × T)
without_inside rs r = filter (λ p. not (lies_inside p.0 r)) rs

-- ---- what such a list is

-- the ranges are ranges of their spaces, rise, and have no number in common
abbrev pub AreApart : {T : Type 0} → List (PlainRange × T) → Type 0
AreApart [] = Unit {0}
AreApart (p ∷ []) = IsRange p.0
AreApart (p ∷ q ∷ ps) = IsRange p.0 × IsBelow p.0 q.0 × AreApart (q ∷ ps)
