-- A mirror that is fed the change stream (NRTM version 3).
use Rattle.std.specs.Prelude.{ℕ, ◌+◌, ◌==◌, if◌then◌else◌, List, [], ◌∷◌, ◌++◌, length, fold, None, Some, Result, Ok, Err}
use Rattle.std.specs.Str.Lines.{strip_carriage_return}
use Rattle.mirror_core.specs.declared.fault.FeedFault.{FeedFault}
use Rattle.mirror_core.specs.Mirror.{PlainMirror, later, broken}
use Rattle.mirror_core.specs.Line.{after_line, is_too_long, long_fault}

-- the mirror with these bytes of a line that isn't whole, and the place of the first of them
abbrev pub at_line : PlainMirror → List ℕ → ℕ → PlainMirror
at_line m bytes place = record {
  source = m.source;
  objects = m.objects;
  serial = m.serial;
  stream = m.stream;
  line = bytes;
  place = place;
  fault = m.fault;
}

-- the mirror behind a line of so many bytes with its end, or its fault
abbrev pub behind_line : PlainMirror → ℕ → Result PlainMirror FeedFault → PlainMirror
behind_line m count (Ok after) = at_line after [] (later m.place count)
behind_line m count (Err fault) = broken m count fault

-- a line ends with LF or CR LF; it is taken out of what is held, and then says what it says
abbrev pub with_line_end : PlainMirror → PlainMirror
with_line_end m =
    let standing = at_line m [] m.place in
    behind_line standing (length m.line + 1) (after_line standing (strip_carriage_return m.line))

abbrev pub with_line_byte : PlainMirror → ℕ → PlainMirror
with_line_byte m b =
    let line = m.line ++ b ∷ [] in
    if is_too_long line then broken m (length line) (long_fault m line) else at_line m line m.place

abbrev pub with_byte : PlainMirror → ℕ → PlainMirror
with_byte m b = if b == 10 then with_line_end m else with_line_byte m b

-- the mirror after one byte more; a fault stays
abbrev pub after_byte : PlainMirror → ℕ → PlainMirror
after_byte m b = elim m.fault [
  | None ↦ with_byte m b
  | Some fault ↦ broken m 1 fault
]

-- the mirror after the bytes
abbrev pub fed : PlainMirror → List ℕ → PlainMirror
fed m bytes = fold after_byte m bytes
