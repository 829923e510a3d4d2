-- Pages that a pool holds: those in use stand in an order, and the others are vacant.
use Rattle.std.specs.Prelude.{◌≡◌, ℕ, ◌+◌, ◌<◌, ◌≤◌, List, [], ◌∷◌, Option, None, Some, length, take}
use Rattle.slot_pool.specs.Cells.{held, spare}
use Rattle.slot_pool.specs.Stack.{times}
use Rattle.page_dir.specs.Pages.{HoldsEnough, joined, page_of, pages_at, or_empty}

pub record PlainSpread (T : Type 0) : Type 0 where
  pub pool : List (Option (List T))
  pub order : List ℕ
  pub spare : ℕ

-- the pages in use
abbrev pub pages_in : {T : Type 0} → PlainSpread T → List (List T)
pages_in s = pages_at s.pool s.order

abbrev pub presence : {T : Type 0} → Option T → ℕ
presence None = 0
presence (Some _) = 1

-- the key is that of the page's first pair, where it has one
abbrev pub BeginsWith : {K V : Type 0} → K → List (K × V) → Type 0
BeginsWith key [] = Unit {0}
BeginsWith key (p ∷ ps) = p.0 ≡ key

-- each of the pages begins with its key
abbrev pub BeginWith : {K V : Type 0} → List (K × Unit {0}) → List (List (K × V)) → Type 0
BeginWith [] [] = Unit {0}
BeginWith [] (page ∷ pages) = ⊥
BeginWith (key ∷ keys) [] = ⊥
BeginWith (key ∷ keys) (page ∷ pages) = BeginsWith key.0 page × BeginWith keys pages

-- one equation for each slot says that the slots in use differ, and are the live ones; the first keys are those of the pages
pub record IsSpread {K V : Type 0} (pool : List (Option (List (K × V)))) (order : List ℕ) (firsts : List (K × Unit {0})) (order_cap firsts_cap : ℕ) : Type 0 where
  pub each : (slot : ℕ) → times slot order ≡ presence (held pool slot)
  pub within : (slot : ℕ) → length (or_empty (held pool slot)) ≤ 64
  pub begin : BeginWith firsts (pages_at pool order)
  pub order_room : length order + spare pool ≤ order_cap
  pub firsts_room : length order + spare pool ≤ firsts_cap

-- a place in the pages: within a page, or at its end
pub record IsPlace {T : Type 0} (pages : List (List T)) (page at : ℕ) : Type 0 where
  pub there : page ≤ length pages
  pub within : at ≤ length (page_of pages page)

-- how many items stand before a page
abbrev pub start : {T : Type 0} → List (List T) → ℕ → ℕ
start pages page = length (joined (take page pages))

-- the pages below one and those from another on hold enough
pub record AreTidy {T : Type 0} (pages : List (List T)) (first until : ℕ) : Type 0 where
  pub below : (i : ℕ) → i < first → HoldsEnough pages i
  pub above : (i : ℕ) → until ≤ i → i < length pages → HoldsEnough pages i

-- a place before an item, or the end of all pages
pub record IsWalk {T : Type 0} (pages : List (List T)) (page at : ℕ) : Type 0 where
  pub filled : (i : ℕ) → i < length pages → 0 < length (page_of pages i)
  pub there : page ≤ length pages
  pub inside : page < length pages → at < length (page_of pages page)
  pub end : page ≡ length pages → at ≡ 0
