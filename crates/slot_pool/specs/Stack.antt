-- What each pool keeps: the cells that were ever used, of which the vacant ones' slots wait in a stack, each of them once.
use Rattle.std.specs.Prelude.{◌≡◌, ℕ, ◌-◌, ◌^◌, ◌<◌, ◌≤◌, List, ◌++◌, Option, Some, None, length, replicate, nat_eq}
use Rattle.std.specs.List.{count_by, slice_get}
use Rattle.slot_pool.specs.Cells.{spare}

-- how often a slot stands in a list
abbrev pub times : ℕ → List ℕ → ℕ
times slot slots = count_by (nat_eq slot) slots

-- 1 where a slot is vacant
abbrev pub vacancy : {T : Type 0} → Option (Option T) → ℕ
vacancy (Some None) = 1
vacancy (Some (Some _)) = 0
vacancy None = 0

-- one equation for each slot says that the waiting slots are the vacant ones, and that they differ
pub record IsStack {T : Type 0} (cells : List (Option T)) (waiting : List ℕ) (room : ℕ) : Type 0 where
  pub each : (slot : ℕ) → times slot waiting ≡ vacancy (slice_get cells slot)
  pub count : length waiting ≡ spare cells
  pub within : length cells ≤ room
  pub fits : room < 2 ^ 32

-- all cells of a pool of so much room: those that were used, and behind them those that never were, which are vacant
abbrev pub with_unused : {T : Type 0} → List (Option T) → ℕ → List (Option T)
with_unused used room = used ++ replicate (room - length used) None

-- the capacities, those of the used cells and of the waiting slots, are enough for the whole room
pub record IsPool {T : Type 0} (used : List (Option T)) (waiting : List ℕ) (room cells_capacity waiting_capacity : ℕ) : Type 0 where
  pub stack : IsStack used waiting room
  pub cells_fit : room ≤ cells_capacity
  pub slots_fit : room ≤ waiting_capacity
