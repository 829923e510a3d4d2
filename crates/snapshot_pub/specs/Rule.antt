-- The rule of what is published and of what its readers know, and what a step tells.
use Rattle.std.specs.Prelude.{◌≡◌, ℕ, true, false, List, []}
use mathlib.Core.Option.{some}
use mathlib.Core.List.{IsPrefix}
use lib.ListN.{get_elem?}
use Rattle.snapshot_pub.specs.declared.view.View.{View}
use Rattle.snapshot_pub.specs.Shown.{PlainShown, IsOfItsList}

-- who has seen nothing
abbrev pub newcomer : View
newcomer = record {
  knows = false;
  rooms = record { pieces = 0; holders = 0; subs = 0; reverse = 0; entries = 0; window = 0 };
  seen = record { book = record { number = 0; log_name = 0; cells_name = 0 }; entries = []; appends = 0 };
}

-- the list goes on with what the reader has seen; and once it has looked, it knows the rooms and the log
pub record Fits (x : PlainShown) (v : View) : Type 0 where
  pub seen : IsPrefix v.seen.entries x.front.entries
  pub rooms : v.knows ≡ true → x.board.register.rooms ≡ v.rooms
  pub book : v.knows ≡ true → x.front.book ≡ v.seen.book

-- the board is that of the list, which is legal, and fits what each reader knows
pub record IsPublished (x : PlainShown) (views : List View) : Type 0 where
  pub board : IsOfItsList x
  pub readers : (seat : ℕ) (v : View) → get_elem? views seat ≡ some v → Fits x v

-- who has just looked
abbrev pub seeing : PlainShown → View
seeing x = record { knows = true; rooms = x.board.register.rooms; seen = x.front }

-- what is seen fits what the reader knew, is the board of a legal list, and is known from then on
pub record Sees (v : View) (x y : PlainShown) (w : View) : Type 0 where
  pub fits : Fits y v
  pub board : IsOfItsList y
  pub now : w ≡ seeing y

-- what is published next is the board of a legal list that goes on with this one, of the same rooms and log
pub record GoesOn (x y : PlainShown) : Type 0 where
  pub board : IsOfItsList y
  pub more : IsPrefix x.front.entries y.front.entries
  pub rooms : y.board.register.rooms ≡ x.board.register.rooms
  pub book : y.front.book ≡ x.front.book
