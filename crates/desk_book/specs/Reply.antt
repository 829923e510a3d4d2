-- What a reply makes of the entries before it.
use Rattle.std.specs.Prelude.{ℕ, List, [], ◌∷◌, ◌++◌, Option, None, Some}
use Rattle.reg_entry.specs.declared.entry.Reply.{Reply}
use Rattle.reg_entry.specs.declared.entry.Reply.TheVariants.{Accepted, Refused}
use Rattle.reg_entry.specs.Entry.{PlainEntry}

-- the entries with the one that the reply tells of
abbrev pub with_reply : List PlainEntry → Reply → List PlainEntry
with_reply es (Accepted e) = es ++ e ∷ []
with_reply es (Refused refusal) = es

-- the number, where there is an entry
abbrev pub number_of : Reply → ℕ → Option ℕ
number_of (Accepted e) number = Some number
number_of (Refused refusal) number = None
