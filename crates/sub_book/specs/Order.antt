-- Ranges in the order of their last numbers. Where they are apart that is their order too, and the first that ends at a
-- number or above is the one that is looked for.
use Rattle.std.specs.Prelude.{ℕ, Bool, ◌&&◌, ◌||◌, nat_lt, cond, List, [], ◌∷◌, Option, None, Some}
use Rattle.std.specs.declared.cmp.Ordering.{Ordering}
use Rattle.std.specs.List.{prefix_len, slice_get}
use Rattle.std.specs.Ordering.{nat_cmp, ordering_then}
use Rattle.num_range.specs.Number.{PlainNumber}
use Rattle.num_range.specs.Range.{PlainRange, lies_inside}
use Rattle.num_range.specs.Space.{space_rank, same_space}

-- by space, then by last, then by first number
abbrev pub last_cmp : PlainRange → PlainRange → Ordering
last_cmp r s =
    ordering_then (nat_cmp (space_rank r.space) (space_rank s.space)) (ordering_then (nat_cmp r.last s.last) (nat_cmp r.first s.first))

-- the range ends below the number
abbrev pub ends_below : PlainNumber → PlainRange → Bool
ends_below n r = nat_lt (space_rank r.space) (space_rank n.space) || (same_space r.space n.space && nat_lt r.last n.value)

-- how many ranges end below the number
abbrev pub ended_below : {V : Type 0} → PlainNumber → List (PlainRange × V) → ℕ
ended_below n rs = prefix_len (λ p. ends_below n p.0) rs

-- 1 where there is a range and it lies inside this one
abbrev pub one_inside : {V : Type 0} → PlainRange → Option (PlainRange × V) → ℕ
one_inside r None = 0
one_inside r (Some p) = cond (lies_inside p.0 r) 1 0

-- 1 where the first range that ends at the number or above lies inside this one
abbrev pub next_inside : {V : Type 0} → PlainNumber → List (PlainRange × V) → PlainRange → ℕ
next_inside n rs r = one_inside r (slice_get rs (ended_below n rs))

-- the range that comes in, if there is a value for it
abbrev pub coming : {V : Type 0} → PlainRange → Option V → List (PlainRange × V)
coming r None = []
coming r (Some x) = (r, x) ∷ []
