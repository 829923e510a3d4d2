-- One whole line, and one that is too long.
use Rattle.std.specs.Prelude.{ℕ, ◌||◌, ◌==◌, Bool, false, nat_lt, if◌then◌else◌, List, [], ◌∷◌, length, Option, None, Some, Result}
use Rattle.std.specs.Option.{option_and_then}
use Rattle.std.specs.Str.Lines.{strip_carriage_return}
use Rattle.rpsl_text.specs.Lines.{is_blank}
use Rattle.mirror_core.specs.declared.fault.FeedFault.{FeedFault}
use Rattle.mirror_core.specs.declared.fault.FeedFault.TheVariants.{Spelling}
use Rattle.mirror_core.specs.Mirror.{PlainMirror, PlainStream, PlainDraft}
use Rattle.mirror_core.specs.Framing.{outside_line}
use Rattle.mirror_core.specs.Draft.{object_line, attribute_fault}

-- in a stream, behind an act, the line is one of its object
abbrev pub stream_line : PlainMirror → PlainStream → Option PlainDraft → List ℕ → Result PlainMirror FeedFault
stream_line m s None line = outside_line m line
stream_line m s (Some d) line = object_line m s d line

-- the mirror after a line without its end
abbrev pub after_line : PlainMirror → List ℕ → Result PlainMirror FeedFault
after_line m line = elim m.stream [
  | None ↦ outside_line m line
  | Some s ↦ stream_line m s s.draft line
]

-- ---- too long

-- a line has at most so many bytes without its end
abbrev pub most_bytes : ℕ
most_bytes = 1024

-- however they go on, these bytes are no line: the last may be the carriage return of a line's end
abbrev pub is_too_long : List ℕ → Bool
is_too_long bytes = nat_lt most_bytes (length (strip_carriage_return bytes))

-- its first byte says that it goes on with the value before it
abbrev pub goes_on_with_value : List ℕ → Bool
goes_on_with_value [] = false
goes_on_with_value (b ∷ bs) = b == 43 || is_blank b

-- the draft of the operation that is being read
abbrev pub draft_of : PlainMirror → Option PlainDraft
draft_of m = option_and_then (λ s. s.draft) m.stream

abbrev pub fault_or : Option FeedFault → FeedFault → FeedFault
fault_or None other = other
fault_or (Some fault) other = fault

-- what is wrong with a line that is too long, or with the attribute before it
abbrev pub long_fault : PlainMirror → List ℕ → FeedFault
long_fault m bytes = elim (draft_of m) [
  | None ↦ Spelling m.place
  | Some d ↦ if goes_on_with_value bytes then Spelling m.place else fault_or (attribute_fault m.source d) (Spelling m.place)
]
