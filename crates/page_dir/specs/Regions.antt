-- Pages in the cells of one list: 64 in a row for each slot, of which the page has the first few.
use Rattle.std.specs.Prelude.{◌≡◌, ℕ, suc, ◌+◌, ◌*◌, ◌^◌, ◌<◌, ◌≤◌, List, [], ◌∷◌, Option, None, Some, length, take, drop, ◌⊎◌}
use Rattle.slot_pool.specs.Cells.{held}

-- so many cells from a place on
abbrev pub region : {T : Type 0} → List T → ℕ → ℕ → List T
region cells start len = take len (drop start cells)

-- the page of a slot, which has so many items
abbrev pub page_in : {T : Type 0} → List T → ℕ → Option ℕ → Option (List T)
page_in cells slot None = None
page_in cells slot (Some len) = Some (region cells (64 * slot) len)

-- a function of each item and its place
abbrev pub placed : {X Y : Type 0} → (ℕ → X → Y) → List X → List Y
placed f [] = []
placed f (x ∷ xs) = f 0 x ∷ placed (λ i. f (suc i)) xs

-- the pages of the slots, by how many items they have
abbrev pub pages_of : {T : Type 0} → List T → List (Option ℕ) → List (Option (List T))
pages_of cells lens = placed (page_in cells) lens

-- the page has so many items, at most 64, in 64 cells
pub record IsLenOf {T : Type 0} (cells : List T) (slot len : ℕ) : Type 0 where
  pub within : len ≤ 64
  pub there : 64 * slot + 64 ≤ length cells

pub record IsPagePool {T : Type 0} (cells : List T) (lens : List (Option ℕ)) (capacity : ℕ) : Type 0 where
  pub each : (slot len : ℕ) → held lens slot ≡ Some len → IsLenOf cells slot len
  pub reserved : 64 * length lens ≤ capacity
  pub most : length lens < 2 ^ 32

-- so many cells from a place on are none of the 64 of a page
abbrev pub IsApart : ℕ → ℕ → ℕ → Type 0
IsApart start i k = (i + k ≤ start) ⊎ (start + 64 ≤ i)
