-- What a line asks of a source's stream, or the first reason why it may not.
use Rattle.std.specs.Prelude.{◌≡◌, ◌≢◌, ℕ, ◌-◌, ◌^◌, ◌==◌, not, if◌then◌else◌, List, take, drop, codes, Option, None, Some, Result, Ok, Err}
use Rattle.std.specs.Option.{option_map}
use Rattle.std.specs.Str.{bytes_eq}
use Rattle.addr_text.specs.Reading.{◌>>=◌, parted_at, decimal_up_to}
use Rattle.nrtm_stream.specs.declared.ask.Ask.{Ask}
use Rattle.nrtm_stream.specs.declared.ask.AskFault.{AskFault}
use Rattle.nrtm_stream.specs.declared.ask.AskFault.TheVariants.{Malformed, Version, Source}
use Rattle.nrtm_stream.specs.Query.{PlainQuery, is_query_source, SpellsQuery}

-- ---- a line as it is read

-- what stands behind the flag and its one blank
abbrev pub behind_flag : List ℕ → Option (List ℕ)
behind_flag line = if bytes_eq (take 3 line) (codes "-g ") then Some (drop 3 line) else None

abbrev pub source_of : List ℕ → Option (List ℕ)
source_of text = if is_query_source text then Some text else None

-- a decimal number of 64 bits, without sign or leading zero
abbrev pub number_of : List ℕ → Option ℕ
number_of text = decimal_up_to (2 ^ 64 - 1) text

abbrev pub last_of : List ℕ → Option (Option ℕ)
last_of text = if bytes_eq text (codes "LAST") then Some None else option_map Some (number_of text)

-- the two serials, with `-` between them
unfoldable pub serials_of : List ℕ → Option Ask
serials_of text = do
  parts ← parted_at 45 text
  first ← number_of parts.0
  last ← last_of parts.1
  Some (record { first = first; last = last })

-- what the line asks for, or nothing where it is no such line
unfoldable pub query_of : List ℕ → Option PlainQuery
query_of line = do
  words ← behind_flag line
  parts ← parted_at 58 words
  source ← source_of parts.0
  more ← parted_at 58 parts.1
  version ← number_of more.0
  ask ← serials_of more.1
  Some (record { source = source; version = version; ask = ask })

-- ---- its faults, in their order

abbrev pub ask_to : List ℕ → Option PlainQuery → Result Ask AskFault
ask_to source None = Err Malformed
ask_to source (Some q) =
    if not (q.version == 3) then Err Version else if not (bytes_eq q.source source) then Err Source else Ok q.ask

-- what the line asks of the source, or the first fault
abbrev pub ask_of : List ℕ → List ℕ → Result Ask AskFault
ask_of line source = ask_to source (query_of line)

-- the same by what lines spell: a line that spells no query is malformed; of the others the version is looked at first, and
-- then the source
abbrev pub IsAskedOf : List ℕ → List ℕ → Result Ask AskFault → Type 0
IsAskedOf source line (Ok ask) = SpellsQuery line (record { source = source; version = 3; ask = ask })
IsAskedOf source line (Err Malformed) = (q : PlainQuery) → ¬ (SpellsQuery line q)
IsAskedOf source line (Err Version) = (q : PlainQuery) × SpellsQuery line q × (q.version ≢ 3)
IsAskedOf source line (Err Source) = (q : PlainQuery) × SpellsQuery line q × (q.version ≡ 3) × (q.source ≢ source)

-- ---- the one line that answers a fault

abbrev pub fault_text : AskFault → List ℕ
fault_text Malformed = codes "malformed query"
fault_text Version = codes "version is not 3"
fault_text Source = codes "unknown source"
