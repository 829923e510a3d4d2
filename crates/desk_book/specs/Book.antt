-- A book as contracts see it, what it keeps, and what a submit leaves.
use Rattle.std.specs.Prelude.{◌≡◌, ℕ, List, [], ◌∷◌, ◌++◌, ◌⊎◌, Option, None, Some, length}
use Rattle.logbook.specs.Pages.{Book}
use Rattle.reg_entry.specs.declared.rooms.Rooms.{Rooms}
use Rattle.reg_entry.specs.declared.entry.Reply.{Reply}
use Rattle.reg_entry.specs.declared.entry.Reply.TheVariants.{Accepted, Refused}
use Rattle.reg_entry.specs.Entry.{PlainEntry}
use Rattle.reg_entry.specs.Register.{register_after}
use Rattle.reg_entry.specs.Next.{IsNextEntry}
use Rattle.reg_entry.specs.Operations.{PlainBoard}
use Rattle.op_feed.specs.ReachedBoard.{IsBoardOf}
use Rattle.snapshot_pub.specs.Pass.{PlainPass}
use Rattle.snapshot_pub.specs.Press.{PlainPress}
use Rattle.desk_book.specs.Reply.{with_reply}

-- of which log and rooms its snapshots are, the list of all entries, and how much of it is published
pub record PlainBook : Type 0 where
  pub book : Book
  pub rooms : Rooms
  pub entries : List PlainEntry
  pub published : List PlainEntry

-- the book once its list is published
abbrev pub settled : PlainBook → PlainBook
settled b = record b { published = b.entries }

-- the book with the entry that the reply tells of, all of it published
abbrev pub answered : PlainBook → Reply → PlainBook
answered b reply = record b { entries = with_reply b.entries reply; published = with_reply b.entries reply }

-- a pass when the book is opened: it has seen all of the list, and was never shut
abbrev pub first_pass : PlainBook → PlainPass
first_pass b = record { book = b.book; rooms = b.rooms; entries = b.entries; shuts = 0 }

-- all entries, or all but the last
abbrev pub IsAllButOne : List PlainEntry → List PlainEntry → Type 0
IsAllButOne published entries = (published ≡ entries) ⊎ ((e : PlainEntry) × (published ++ e ∷ [] ≡ entries))

-- all is published, or all but the last entry, which is owed and may come next
abbrev pub IsPublishedBut : Option PlainEntry → Rooms → List PlainEntry → List PlainEntry → Type 0
IsPublishedBut None rooms published entries = published ≡ entries
IsPublishedBut (Some e) rooms published entries = (published ++ e ∷ [] ≡ entries) × IsNextEntry (register_after rooms published) e

-- the list is legal and the head its board; all that was put is published, which is the list but for an entry that is owed
pub record IsKeptBook (entries : List PlainEntry) (head : PlainBoard) (press : PlainPress) (owed : Option PlainEntry) : Type 0 where
  pub head_is : IsBoardOf head entries
  pub rooms_are : head.register.rooms ≡ press.rooms
  pub put : press.put ≡ press.published
  pub owes : IsPublishedBut owed press.rooms press.published entries

-- What a fault leaves: the list as it was, or with the entry of this number, which the request became.
abbrev pub IsLeftAt : Option ℕ → Reply → List PlainEntry → List PlainEntry → Type 0
IsLeftAt None reply before after = after ≡ before
IsLeftAt (Some number) (Accepted e) before after = (after ≡ before ++ e ∷ []) × (number ≡ length after)
IsLeftAt (Some number) (Refused refusal) before after = ⊥
