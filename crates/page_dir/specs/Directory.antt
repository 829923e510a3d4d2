-- A directory as contracts see it, and what each directory keeps.
use Rattle.std.specs.Prelude.{◌≡◌, ℕ, ◌+◌, ◌*◌, ◌/◌, ◌^◌, ◌≤◌, List, Option, length}
use Rattle.std.specs.declared.cmp.Ordering.{Ordering}
use Rattle.page_dir.specs.Pages.{ArePages, joined}
use Rattle.page_dir.specs.Sorted.{Rises}
use Rattle.page_dir.specs.Spread.{PlainSpread, pages_in}

-- the pairs, how many there may be, the pool of pages, and the slots of those in use
pub record PlainDir (K V : Type 0) : Type 0 where
  pub pairs : List (K × V)
  pub room : ℕ
  pub pool : List (Option (List (K × V)))
  pub order : List ℕ

-- so many pages hold as many pairs as there is room for, and two are spare, to part one page and add another
abbrev pub pages_for : ℕ → ℕ
pages_for room = 2 * (room / 65) + 3

pub record IsDir {K V : Type 0} (cmp : K → K → Ordering) (spread : PlainSpread (K × V)) (len room carry_room : ℕ) : Type 0 where
  pub pages : ArePages (pages_in spread)
  pub rises : Rises cmp (joined (pages_in spread))
  pub count : len ≡ length (joined (pages_in spread))
  pub within : len ≤ room
  pub most : room ≤ 2 ^ 30
  pub reserved : length (pages_in spread) + spread.spare ≡ pages_for room
  pub carry : 64 ≤ carry_room
