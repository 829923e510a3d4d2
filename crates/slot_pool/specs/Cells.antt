-- A pool as contracts see it: the list of its cells, each vacant or with a value. So it is a finite map from slots to values.
use Rattle.std.specs.Prelude.{◌≡◌, ℕ, List, Option, Some, None}
use Rattle.std.specs.List.{count_by, slice_get}
use Rattle.std.specs.Option.{IsSome, is_none, option_and_then}

-- the value at a slot, where there is one
abbrev pub held : {T : Type 0} → List (Option T) → ℕ → Option T
held cells slot = option_and_then (λ cell. cell) (slice_get cells slot)

abbrev pub IsLive : {T : Type 0} → List (Option T) → ℕ → Type 0
IsLive cells slot = IsSome (held cells slot)

-- a slot of the pool that has no value
abbrev pub IsVacant : {T : Type 0} → List (Option T) → ℕ → Type 0
IsVacant cells slot = slice_get cells slot ≡ Some None

-- how many values more the pool can take
abbrev pub spare : {T : Type 0} → List (Option T) → ℕ
spare cells = count_by is_none cells
