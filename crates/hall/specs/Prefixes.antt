-- What the turns of a conversation say of one list of entries.
use Rattle.std.specs.Prelude.{◌≡◌, ℕ, ◌+◌, ◌≤◌, List, [], ◌∷◌, ◌++◌, length, take}
use Rattle.reg_entry.specs.Entry.{PlainEntry}
use Rattle.hall.specs.Turn.{Terms, Turn}

-- what others enter comes behind what was there
abbrev pub KeepsEntries : Terms → Type 0
KeepsEntries t = (es fs : List PlainEntry) → t.goes_on es fs → (more : List PlainEntry) × (fs ≡ es ++ more)

-- The turn was answered with so many entries of the list seen, at least as many as before it, and the same entries.
pub record IsOnPrefix (before : ℕ) (turn : Turn) (all : List PlainEntry) : Type 0 where
  pub front : turn.after.entries ≡ take (length turn.after.entries) all
  pub rises : before ≤ length turn.after.entries
  pub within : length turn.after.entries ≤ length all

-- the counts of entries never fall from turn to turn, and each turn's entries are the first so many of all
abbrev pub AreOnPrefixes : ℕ → List Turn → List PlainEntry → Type 0
AreOnPrefixes before [] all = before ≤ length all
AreOnPrefixes before (turn ∷ turns) all = IsOnPrefix before turn all × AreOnPrefixes (length turn.after.entries) turns all

-- the list begins with the other one
pub record BeginsWithSeen (seen all : List PlainEntry) : Type 0 where
  pub front : seen ≡ take (length seen) all
  pub within : length seen ≤ length all

-- the entry has this number in the list, counted from 1
abbrev pub HasEntryAt : ℕ → PlainEntry → List PlainEntry → Type 0
HasEntryAt number e es =
    (front : List PlainEntry) × (back : List PlainEntry) × (es ≡ front ++ e ∷ back) × (number ≡ length front + 1)
