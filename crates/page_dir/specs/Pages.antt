-- A list in pages: what each page keeps, and what neighbours hold together.
use Rattle.std.specs.Prelude.{ℕ, ◌+◌, ◌-◌, ◌<◌, ◌≤◌, List, [], Option, None, Some, length, map, get_or}
use Rattle.std.specs.List.{flat_map}
use Rattle.slot_pool.specs.Cells.{held}
use Rattle.slot_pool.specs.Stack.{times}

-- the pages one after another
abbrev pub joined : {T : Type 0} → List (List T) → List T
joined pages = flat_map (λ page. page) pages

abbrev pub page_of : {T : Type 0} → List (List T) → ℕ → List T
page_of pages i = get_or pages i []

abbrev pub or_empty : {T : Type 0} → Option (List T) → List T
or_empty None = []
or_empty (Some page) = page

-- the pages that a pool holds at these slots
abbrev pub pages_at : {T : Type 0} → List (Option (List T)) → List ℕ → List (List T)
pages_at pool order = map (λ slot. or_empty (held pool slot)) order

-- the page has an item, and more than 64 with the one before it
pub record HoldsEnough {T : Type 0} (pages : List (List T)) (i : ℕ) : Type 0 where
  pub filled : 0 < length (page_of pages i)
  pub both : 0 < i → 64 < length (page_of pages (i - 1)) + length (page_of pages i)

-- each page has an item and at most 64, and two neighbours have more than 64 together
pub record ArePages {T : Type 0} (pages : List (List T)) : Type 0 where
  pub enough : (i : ℕ) → i < length pages → HoldsEnough pages i
  pub within : (i : ℕ) → length (page_of pages i) ≤ 64

-- no slot stands twice
abbrev pub AreDistinct : List ℕ → Type 0
AreDistinct slots = (slot : ℕ) → times slot slots ≤ 1
