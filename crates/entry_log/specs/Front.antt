-- What of a list was seen, as contracts see it.
use Rattle.std.specs.Prelude.{ℕ, ◌+◌, ◌==◌, ◌&&◌, Bool, nat_le, List, length}
use Rattle.logbook.specs.Pages.{Book}
use Rattle.reg_entry.specs.Entry.{PlainEntry}

-- of which log, the list, and how many appends gave it
pub record PlainFront : Type 0 where
  pub book : Book
  pub entries : List PlainEntry
  pub appends : ℕ

-- the second has so many entries more than the first as appends more
abbrev pub goes_on_to : PlainFront → PlainFront → Bool
goes_on_to f g = nat_le f.appends g.appends && (length f.entries + g.appends == length g.entries + f.appends)
