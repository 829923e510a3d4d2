-- A press as contracts see it, and what it keeps.
use Rattle.std.specs.Prelude.{◌≡◌, ◌≤◌, List, fold, take, length}
use Rattle.logbook.specs.Pages.{Book}
use Rattle.reg_entry.specs.declared.rooms.Rooms.{Rooms}
use Rattle.reg_entry.specs.Entry.{PlainEntry}
use Rattle.entry_log.specs.Front.{PlainFront}
use Rattle.snapshot_pub.specs.declared.view.View.{View}
use Rattle.snapshot_pub.specs.declared.put.Put.{Put}
use Rattle.snapshot_pub.specs.Shown.{PlainShown, IsOfItsList}
use Rattle.snapshot_pub.specs.Absorbing.{applied}
use Rattle.snapshot_pub.specs.Rule.{GoesOn, seeing}

-- of which log and rooms its snapshots are, the list that is published, and that with the entries put behind it
pub record PlainPress : Type 0 where
  pub book : Book
  pub rooms : Rooms
  pub published : List PlainEntry
  pub put : List PlainEntry

-- the writer has seen what is published; with what is pending it becomes the board of what was put
pub record IsPressed (x : PlainShown) (v : View) (pending : List Put) (put : PlainFront) (rooms : Rooms) : Type 0 where
  pub board : IsOfItsList x
  pub knows : v ≡ seeing x
  pub rooms_are : x.board.register.rooms ≡ rooms
  pub going : GoesOn x (fold applied x pending)
  pub put_is : (fold applied x pending).front ≡ put

-- the last list of the log begins with what was put
pub record IsBehind (log : Book) (tip put : PlainFront) : Type 0 where
  pub log_is : log ≡ put.book
  pub tip_is : tip.book ≡ put.book
  pub begins : take (length put.entries) tip.entries ≡ put.entries
  pub long : length put.entries ≤ length tip.entries
