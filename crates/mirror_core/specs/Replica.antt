-- What a mirror has between lines.
use Rattle.std.specs.Prelude.{◌≡◌, ◌⊎◌, ℕ, ◌+◌, Bool, false, not, List, [], length, Option, None, Some, Result, Ok, Err}
use Rattle.std.specs.Str.Lines.{strip_carriage_return}
use Rattle.rpsl_text.specs.Attributes.{last_of}
use Rattle.reg_entry.specs.declared.object.Key.{Key}
use Rattle.mirror_core.specs.declared.draft.Serials.{Serials}
use Rattle.mirror_core.specs.declared.fault.FeedFault.{FeedFault}
use Rattle.mirror_core.specs.declared.fault.FeedFault.TheVariants.{Spelling, Gap, ForeignSource, ClassOut, Announced, NoMemory}
use Rattle.mirror_core.specs.Mirror.{PlainMirror, PlainStream, PlainDraft, broken}
use Rattle.mirror_core.specs.Line.{after_line}
use Rattle.mirror_core.specs.Feed.{behind_line}
use Rattle.mirror_core.specs.Keys.{is_class}

pub record PlainReplica : Type 0 where
  pub source : List ℕ
  pub objects : List (Key × List (List ℕ × List ℕ))
  pub serial : ℕ
  pub stream : Option PlainStream
  pub place : ℕ

-- with the bytes of a line that isn't whole, and a fault
abbrev pub mirror_with : PlainReplica → List ℕ → Option FeedFault → PlainMirror
mirror_with r line fault = record {
  source = r.source;
  objects = r.objects;
  serial = r.serial;
  stream = r.stream;
  line = line;
  place = r.place;
  fault = fault;
}

-- between lines
abbrev pub standing : PlainReplica → PlainMirror
standing r = mirror_with r [] None

-- between lines, in this stream
abbrev pub standing_in : PlainReplica → PlainStream → PlainMirror
standing_in r s = record {
  source = r.source;
  objects = r.objects;
  serial = r.serial;
  stream = Some s;
  line = [];
  place = r.place;
  fault = None;
}

-- the stream with these serials to come, and with the object of its next operation
abbrev pub stream_with : Serials → PlainDraft → PlainStream
stream_with serials d = record { next = serials.next; last = serials.last; draft = Some d }

-- the serials of a stream that are to come
abbrev pub serials_of : PlainStream → Serials
serials_of s = record { next = s.next; last = s.last }

-- ---- what a line does

-- what a fault keeps
pub record IsKept (r after : PlainReplica) : Type 0 where
  pub source : after.source ≡ r.source
  pub objects : after.objects ≡ r.objects
  pub serial : after.serial ≡ r.serial
  pub place : after.place ≡ r.place

-- the fault is the one that the line has, or want of memory
abbrev pub IsFaultOf : {T : Type 0} → Result T FeedFault → FeedFault → Type 0
IsFaultOf said (Spelling place) = said ≡ Err (Spelling place)
IsFaultOf said (Gap want got) = said ≡ Err (Gap want got)
IsFaultOf said (ForeignSource place) = said ≡ Err (ForeignSource place)
IsFaultOf said (ClassOut place) = said ≡ Err (ClassOut place)
IsFaultOf said (Announced place) = said ≡ Err (Announced place)
IsFaultOf said NoMemory = Unit {0}

-- what is answered to a line of which the definition says this, and what is there then
abbrev pub IsAfter : Result PlainMirror FeedFault → PlainReplica → PlainReplica → Result (Unit {0}) FeedFault → Type 0
IsAfter said r after (Ok _) = said ≡ Ok (standing after)
IsAfter said r after (Err fault) = IsFaultOf said fault × IsKept r after

-- what is answered to a whole line without its LF, and what is there then: the place is the next line's, and after a fault there
-- is no stream
abbrev pub IsBehind : PlainReplica → List ℕ → PlainReplica → Result (Unit {0}) FeedFault → Type 0
IsBehind r line after (Ok _) =
    standing after ≡ behind_line (standing r) (length line + 1) (after_line (standing r) (strip_carriage_return line))
IsBehind r line after (Err fault) =
    IsFaultOf (after_line (standing r) (strip_carriage_return line)) fault
    × (mirror_with after [] (Some fault) ≡ broken (standing r) (length line + 1) fault)

-- ---- an object's lines

-- what is answered to one more line of an object, where it stands here
abbrev pub IsLonger : ℕ → Option (List (List ℕ × List ℕ)) → Result (List (List ℕ × List ℕ)) FeedFault → Type 0
IsLonger place longer (Ok attributes) = longer ≡ Some attributes
IsLonger place longer (Err fault) = IsFaultOf {T = Unit {0}} (Err (Spelling place)) fault × (fault ≡ NoMemory ⊎ longer ≡ None)

-- the last attribute is of no class
abbrev pub is_last_out : List (List ℕ × List ℕ) → Bool
is_last_out attributes = elim (last_of attributes) [
  | None ↦ false
  | Some a ↦ not (is_class a.0)
]
