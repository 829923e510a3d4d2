-- A pass as contracts see it.
use Rattle.std.specs.Prelude.{◌≡◌, ℕ, true, List}
use mathlib.Core.List.{IsPrefix}
use Rattle.logbook.specs.Pages.{Book}
use Rattle.reg_entry.specs.declared.rooms.Rooms.{Rooms}
use Rattle.reg_entry.specs.Entry.{PlainEntry}
use Rattle.entry_log.specs.Front.{PlainFront}
use Rattle.snapshot_pub.specs.declared.view.View.{View}

-- of which log and rooms its snapshots are, the list that it has seen, and how often it was shut
pub record PlainPass : Type 0 where
  pub book : Book
  pub rooms : Rooms
  pub entries : List PlainEntry
  pub shuts : ℕ

-- a reader knows the rooms and the log, and has seen all of the list
pub record KnowsAll (v : View) (rooms : Rooms) (front : PlainFront) : Type 0 where
  pub knows : v.knows ≡ true
  pub rooms_are : v.rooms ≡ rooms
  pub book : v.seen.book ≡ front.book
  pub seen : IsPrefix front.entries v.seen.entries
