-- The lines round the objects of a stream (NRTM version 3).
use Rattle.std.specs.Prelude.{ℕ, ◌+◌, ◌-◌, ◌^◌, min, Bool, true, false, not, ◌&&◌, ◌||◌, ◌==◌, nat_lt, nat_le, if◌then◌else◌, List, [], ◌∷◌, codes, bytes_eq, Option, None, Some, Result, Ok, Err}
use Rattle.std.specs.Option.{is_some}
use Rattle.addr_text.specs.Reading.{◌>>=◌, parted_at, decimal_up_to}
use Rattle.reg_entry.specs.declared.object.Act.{Act}
use Rattle.reg_entry.specs.declared.object.Act.TheVariants.{Add, Del}
use Rattle.rpsl_text.specs.Lines.{words}
use Rattle.mirror_core.specs.declared.fault.FeedFault.{FeedFault}
use Rattle.mirror_core.specs.declared.fault.FeedFault.TheVariants.{Spelling, Gap, ForeignSource, Announced}
use Rattle.mirror_core.specs.Mirror.{PlainMirror, PlainStream, PlainDraft, in_stream}

-- ---- the start of a stream

pub record Start : Type 0 where
  pub version : ℕ
  pub source : List ℕ
  pub first : ℕ
  pub last : ℕ

abbrev pub serial_of : List ℕ → Option ℕ
serial_of text = decimal_up_to (2 ^ 64 - 1) text

unfoldable pub start_with : List ℕ → List ℕ → List ℕ → Option Start
start_with version source range = do
  number ← serial_of version
  parts ← parted_at 45 range
  first ← serial_of parts.0
  last ← serial_of parts.1
  Some (record { version = number; source = source; first = first; last = last })

-- the words behind `%START`: `Version:`, the version, the source, and the first and the last serial with `-` between them; what
-- stands behind is ignored
abbrev pub start_of : List (List ℕ) → Option Start
start_of (label ∷ version ∷ source ∷ range ∷ more) =
    if bytes_eq label (codes "Version:") then start_with version source range else None
start_of words = None

-- the serial that is wanted next
abbrev pub wanted : PlainMirror → ℕ
wanted m = min (m.serial + 1) (2 ^ 64 - 1)

-- a stream of this start begins
abbrev pub started : PlainMirror → Start → Result PlainMirror FeedFault
started m start =
    if not (bytes_eq start.source m.source) then Err (ForeignSource m.place)
    else (if nat_lt (wanted m) start.first then Err (Gap (wanted m) start.first)
    else (if not (start.version == 3) || nat_lt start.last start.first || is_some m.stream then Err (Spelling m.place)
    else Ok (in_stream m (Some (record { next = start.first; last = start.last; draft = None })))))

abbrev pub start_line : PlainMirror → List (List ℕ) → Result PlainMirror FeedFault
start_line m behind = elim (start_of behind) [
  | None ↦ Err (Spelling m.place)
  | Some start ↦ started m start
]

-- ---- its end

-- the words behind `%END`: the source, or nothing; what stands behind is ignored
abbrev pub names_another : List ℕ → List (List ℕ) → Bool
names_another source [] = false
names_another source (named ∷ more) = not (bytes_eq named source)

-- the stream ends, all of whose operations have been read
abbrev pub ended : PlainMirror → Option PlainStream → Result PlainMirror FeedFault
ended m None = Err (Spelling m.place)
ended m (Some s) = if nat_lt s.last s.next then Ok (in_stream m None) else Err (Spelling m.place)

abbrev pub end_line : PlainMirror → List (List ℕ) → Result PlainMirror FeedFault
end_line m behind = if names_another m.source behind then Err (ForeignSource m.place) else ended m m.stream

-- ---- an operation

abbrev pub act_of : List ℕ → Option Act
act_of word = if bytes_eq word (codes "ADD") then Some Add else (if bytes_eq word (codes "DEL") then Some Del else None)

unfoldable pub operation_with : List ℕ → List ℕ → Option (Act × ℕ)
operation_with word number = do
  act ← act_of word
  serial ← serial_of number
  Some (act, serial)

-- an act and a serial
abbrev pub operation_of : List (List ℕ) → Option (Act × ℕ)
operation_of (word ∷ number ∷ []) = operation_with word number
operation_of words = None

abbrev pub no_lines : Act → PlainDraft
no_lines act = record { act = act; attributes = []; lines = 0; first = 0; last = 0 }

-- the stream's next operation begins
abbrev pub begun : PlainMirror → Act × ℕ → Option PlainStream → Result PlainMirror FeedFault
begun m operation None = Err (Spelling m.place)
begun m operation (Some s) =
    if (operation.1 == s.next) && nat_le operation.1 s.last then
    Ok (in_stream m (Some (record { next = s.next; last = s.last; draft = Some (no_lines operation.0) })))
    else Err (Spelling m.place)

abbrev pub operation_line : PlainMirror → List (List ℕ) → Result PlainMirror FeedFault
operation_line m line_words = elim (operation_of line_words) [
  | None ↦ Err (Spelling m.place)
  | Some operation ↦ begun m operation m.stream
]

-- ---- a line outside an object

abbrev pub begins_with : List ℕ → List ℕ → Bool
begins_with [] text = true
begins_with (b ∷ bs) [] = false
begins_with (b ∷ bs) (c ∷ cs) = (b == c) && begins_with bs cs

-- a line that begins with `%`, by its words
abbrev pub percent_words : PlainMirror → List ℕ → List (List ℕ) → Result PlainMirror FeedFault
percent_words m line [] = Ok m
percent_words m line (first ∷ behind) =
    if bytes_eq first (codes "%START") then start_line m behind
    else (if bytes_eq first (codes "%END") then end_line m behind
    else (if begins_with (codes "%ERROR") line then Err (Announced m.place) else Ok m))

abbrev pub percent_line : PlainMirror → List ℕ → Result PlainMirror FeedFault
percent_line m line = percent_words m line (words line)

-- an empty line says nothing
abbrev pub outside_line : PlainMirror → List ℕ → Result PlainMirror FeedFault
outside_line m [] = Ok m
outside_line m (b ∷ bs) = if b == 37 then percent_line m (b ∷ bs) else operation_line m (words (b ∷ bs))
