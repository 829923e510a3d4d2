-- A mirror as contracts see it.
use Rattle.std.specs.Prelude.{ℕ, ◌+◌, ◌-◌, ◌^◌, min, Bool, if◌then◌else◌, ◌&&◌, ◌==◌, List, [], Option, None, Some, length}
use Rattle.std.specs.Option.{is_none}
use Rattle.reg_entry.specs.declared.object.Key.{Key}
use Rattle.reg_entry.specs.declared.object.Act.{Act}
use Rattle.mirror_core.specs.declared.fault.FeedFault.{FeedFault}
use Rattle.mirror_core.specs.declared.fault.FeedFault.TheVariants.{Spelling}

-- an object that is being read: the act that it is for, its attributes so far, how many lines it has so far, the place of its
-- first line, and that of the line on which its last attribute begins
pub record PlainDraft : Type 0 where
  pub act : Act
  pub attributes : List (List ℕ × List ℕ)
  pub lines : ℕ
  pub first : ℕ
  pub last : ℕ

-- a stream that has begun: the serial of the operation that comes next, the last serial, and that operation's object, where its
-- act has been read
pub record PlainStream : Type 0 where
  pub next : ℕ
  pub last : ℕ
  pub draft : Option PlainDraft

-- the source that is mirrored; the objects by their keys; the serial of the last operation that was applied; the stream that is
-- being read; the bytes of the line that is being read, and the place of the first of them or of the next byte; the fault
pub record PlainMirror : Type 0 where
  pub source : List ℕ
  pub objects : List (Key × List (List ℕ × List ℕ))
  pub serial : ℕ
  pub stream : Option PlainStream
  pub line : List ℕ
  pub place : ℕ
  pub fault : Option FeedFault

-- a mirror of the source that was fed nothing
abbrev pub new_mirror : List ℕ → PlainMirror
new_mirror source = record { source = source; objects = []; serial = 0; stream = None; line = []; place = 0; fault = None }

-- no line and no stream has begun that hasn't ended
abbrev pub is_at_rest : PlainMirror → Bool
is_at_rest m = is_none m.fault && is_none m.stream && (length m.line == 0)

-- so many bytes behind a place
abbrev pub later : ℕ → ℕ → ℕ
later place count = min (place + count) (2 ^ 64 - 1)

-- a fault stays; without one a mirror that isn't at rest has a line out of place at the end
abbrev pub fault_at_end : Option FeedFault → Bool → ℕ → Option FeedFault
fault_at_end (Some fault) at_rest end = Some fault
fault_at_end None at_rest end = if at_rest then None else Some (Spelling end)

-- what is wrong where nothing more is fed: the fault, or that the mirror isn't at rest
abbrev pub end_fault : PlainMirror → Option FeedFault
end_fault m = fault_at_end m.fault (is_at_rest m) (later m.place (length m.line))

-- the mirror after a fault, which keeps its objects and its serial; so many bytes were fed since its place
abbrev pub broken : PlainMirror → ℕ → FeedFault → PlainMirror
broken m count fault = record {
  source = m.source;
  objects = m.objects;
  serial = m.serial;
  stream = None;
  line = [];
  place = later m.place count;
  fault = Some fault;
}

-- the mirror with this stream
abbrev pub in_stream : PlainMirror → Option PlainStream → PlainMirror
in_stream m stream = record {
  source = m.source;
  objects = m.objects;
  serial = m.serial;
  stream = stream;
  line = m.line;
  place = m.place;
  fault = m.fault;
}

-- so many bytes later, none of which said anything
abbrev pub passed : PlainMirror → ℕ → PlainMirror
passed m count = record {
  source = m.source;
  objects = m.objects;
  serial = m.serial;
  stream = m.stream;
  line = m.line;
  place = later m.place count;
  fault = m.fault;
}
