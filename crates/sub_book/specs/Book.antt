-- A book of ranges with a value each, as contracts see it, and what may be asked of it.
use Rattle.std.specs.Prelude.{◌≡◌, ℕ, ◌≤◌, true, List, Option, filter, find}
use Rattle.std.specs.List.{AllByRecursion}
use Rattle.num_range.specs.Range.{PlainRange}
use Rattle.reg_entry.specs.Ranges.{AreApart, lies_inside, ranges_meet}

-- the ranges in their order, and how many there may be
pub record PlainRangeBook (V : Type 0) : Type 0 where
  pub ranges : List (PlainRange × V)
  pub room : ℕ

-- the range that this one lies inside
abbrev pub enclosing : {V : Type 0} → List (PlainRange × V) → PlainRange → Option (PlainRange × V)
enclosing rs r = find (λ p. lies_inside r p.0) rs

-- the ranges that have a number in common with this one
abbrev pub ranges_meeting : {V : Type 0} → List (PlainRange × V) → PlainRange → List (PlainRange × V)
ranges_meeting rs r = filter (λ p. ranges_meet p.0 r) rs

-- no range has numbers both in this one and outside it
abbrev pub NoneStraddles : {V : Type 0} → List (PlainRange × V) → PlainRange → Type 0
NoneStraddles rs r = AllByRecursion (λ p. ranges_meet p.0 r ≡ true → lies_inside p.0 r ≡ true) rs

-- what each book keeps: ranges apart, and memory for one that comes in
pub record IsRangeBook {V : Type 0} (rs : List (PlainRange × V)) (capacity : ℕ) : Type 0 where
  pub apart : AreApart rs
  pub reserved : 1 ≤ capacity
