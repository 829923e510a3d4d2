-- The list of entries that appends give.
use Rattle.std.specs.Prelude.{List, [], ◌∷◌, ◌++◌, take, fold}
use Rattle.reg_entry.specs.Entry.{PlainEntry}
use Rattle.entry_log.specs.declared.append.Append.{Append}

-- the list after an append: the entries that it keeps, and its own
abbrev pub after_append : List PlainEntry → Append → List PlainEntry
after_append es a = take a.keeps es ++ a.entry ∷ []

-- the list after all appends of a log
abbrev pub entries_after : List Append → List PlainEntry
entries_after log = fold after_append [] log
