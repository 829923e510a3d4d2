-- Holders by their numbers, each at a place of a pool.
use Rattle.std.specs.Prelude.{◌≡◌, ℕ, ◌+◌, ◌^◌, ◌<◌, ◌≤◌, List, Option, length}
use Rattle.std.specs.List.{filter_map}
use Rattle.std.specs.Option.{option_map_or}
use Rattle.slot_pool.specs.Cells.{held, spare}
use Rattle.slot_pool.specs.Stack.{times}

-- what stands at these places, in their order
abbrev pub placed : {T : Type 0} → List (Option T) → List ℕ → List T
placed cells places = filter_map (held cells) places

-- 1 where something stands at the slot
abbrev pub presence : {T : Type 0} → List (Option T) → ℕ → ℕ
presence cells slot = option_map_or (λ _. 1) (held cells slot) 0

-- The places differ and are those where something stands, and there is a vacant one for each number that is left. The
-- capacity is that of the list of places.
pub record ArePlaces {T : Type 0} (cells : List (Option T)) (places : List ℕ) (room capacity : ℕ) : Type 0 where
  pub each : (slot : ℕ) → times slot places ≡ presence cells slot
  pub left : length places + spare cells ≡ room
  pub small : room < 2 ^ 32
  pub reserved : room ≤ capacity
