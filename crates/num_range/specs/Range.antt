-- A range as contracts see it: the numbers from its first to its last, both included.
use Rattle.std.specs.Prelude.{◌≡◌, ℕ, ◌+◌, ◌-◌, ◌≤◌, Bool, ◌&&◌, ◌||◌, ◌==◌, nat_lt, nat_le}
use Rattle.num_range.specs.declared.space.Space.{Space}
use Rattle.num_range.specs.Space.{top_of, space_rank, same_space}
use Rattle.num_range.specs.Number.{PlainNumber}

pub record PlainRange : Type 0 where
  pub space : Space
  pub first : ℕ
  pub last : ℕ

-- it has a number, and no number past the space
abbrev pub IsRange : PlainRange → Type 0
IsRange r = (r.first ≤ r.last) × (r.last ≤ top_of r.space)

-- the number is one of the range's
abbrev pub Holds : PlainRange → PlainNumber → Type 0
Holds r n = (r.space ≡ n.space) × (r.first ≤ n.value) × (n.value ≤ r.last)

-- each number of the inner range is one of the outer's
abbrev pub IsInside : PlainRange → PlainRange → Type 0
IsInside inner outer = (inner.space ≡ outer.space) × (outer.first ≤ inner.first) × (inner.last ≤ outer.last)

-- they have a number in common
abbrev pub Meets : PlainRange → PlainRange → Type 0
Meets r s = (r.space ≡ s.space) × (r.first ≤ s.last) × (s.first ≤ r.last)

-- how many numbers it has
abbrev pub size_of : PlainRange → ℕ
size_of r = r.last - r.first + 1

abbrev pub first_number : PlainRange → PlainNumber
first_number r = record { space = r.space; value = r.first }

-- ---- ranges compared, by tests that compute

abbrev pub same_range : PlainRange → PlainRange → Bool
same_range r s = same_space r.space s.space && (r.first == s.first) && (r.last == s.last)

-- by space, then by first, then by last number
abbrev pub range_before : PlainRange → PlainRange → Bool
range_before r s =
    nat_lt (space_rank r.space) (space_rank s.space)
    || (same_space r.space s.space && (nat_lt r.first s.first || ((r.first == s.first) && nat_lt r.last s.last)))

-- whether the range holds the number
abbrev pub range_holds : PlainRange → PlainNumber → Bool
range_holds r n = same_space r.space n.space && nat_le r.first n.value && nat_le n.value r.last

-- whether the inner range is inside the outer
abbrev pub lies_inside : PlainRange → PlainRange → Bool
lies_inside inner outer = same_space inner.space outer.space && nat_le outer.first inner.first && nat_le inner.last outer.last

-- whether the ranges meet
abbrev pub ranges_meet : PlainRange → PlainRange → Bool
ranges_meet r s = same_space r.space s.space && nat_le r.first s.last && nat_le s.first r.last
