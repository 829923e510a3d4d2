-- The lines of an object in a stream, and what becomes of it when it is whole.
use Rattle.std.specs.Prelude.{ℕ, ◌+◌, Bool, not, ◌&&◌, ◌==◌, nat_lt, nat_le, if◌then◌else◌, List, [], ◌∷◌, ◌++◌, codes, bytes_eq, Option, None, Some, Result, Ok, Err}
use Rattle.std.specs.Option.{is_none}
use Rattle.std.specs.List.{list_any}
use Rattle.reg_entry.specs.declared.object.Key.{Key}
use Rattle.rpsl_text.specs.Lines.{continuation_of, name_and_rest, attribute_of}
use Rattle.rpsl_text.specs.Reading.{gone_on}
use Rattle.mirror_core.specs.declared.fault.FeedFault.{FeedFault}
use Rattle.mirror_core.specs.declared.fault.FeedFault.TheVariants.{Spelling, ForeignSource, ClassOut}
use Rattle.mirror_core.specs.Keys.{key_of_attribute, is_class}
use Rattle.mirror_core.specs.Objects.{operated}
use Rattle.mirror_core.specs.Mirror.{PlainMirror, PlainStream, PlainDraft, in_stream}
use Rattle.mirror_core.specs.Framing.{percent_line}

-- an object has at most so many lines
abbrev pub most_lines : ℕ
most_lines = 64

-- ---- an attribute, once the line behind it doesn't go on with it

abbrev pub is_source_attribute : List ℕ × List ℕ → Bool
is_source_attribute a = bytes_eq a.0 (codes "source")

abbrev pub is_foreign : List ℕ → List ℕ × List ℕ → Bool
is_foreign source a = is_source_attribute a && not (bytes_eq a.1 source)

-- the last attribute names another source
abbrev pub ends_foreign : List ℕ → List (List ℕ × List ℕ) → Bool
ends_foreign source [] = Bool.false
ends_foreign source (a ∷ []) = is_foreign source a
ends_foreign source (a ∷ b ∷ more) = ends_foreign source (b ∷ more)

-- the first attribute has to spell a key of its class
abbrev pub class_fault : PlainDraft → List (List ℕ × List ℕ) → Option FeedFault
class_fault d (a ∷ []) = if is_none (key_of_attribute a) then Some (Spelling d.first) else None
class_fault d attributes = None

-- what is wrong with the last attribute
abbrev pub attribute_fault : List ℕ → PlainDraft → Option FeedFault
attribute_fault source d = if ends_foreign source d.attributes then Some (ForeignSource d.last) else class_fault d d.attributes

-- ---- a line that isn't empty

-- the mirror with the draft of the stream's next operation
abbrev pub drafted : PlainMirror → PlainStream → PlainDraft → PlainMirror
drafted m s d = in_stream m (Some (record { next = s.next; last = s.last; draft = Some d }))

-- a line that goes on with the last attribute's value
abbrev pub goes_on : PlainMirror → PlainStream → PlainDraft → List ℕ → Result PlainMirror FeedFault
goes_on m s d text =
    if nat_le most_lines d.lines then Err (Spelling m.place)
    else elim (gone_on d.attributes text) [
      | None ↦ Err (Spelling m.place)
      | Some attributes ↦ Ok (drafted m s (record { act = d.act; attributes = attributes; lines = d.lines + 1; first = d.first; last = d.last }))
    ]

-- the object's first line is that of its class
abbrev pub is_out : PlainDraft → List ℕ → Bool
is_out d name = (d.lines == 0) && not (is_class name)

abbrev pub first_place : PlainDraft → ℕ → ℕ
first_place d place = if d.lines == 0 then place else d.first

-- a line that begins an attribute
abbrev pub begins_attribute : PlainMirror → PlainStream → PlainDraft → List ℕ × List ℕ → Result PlainMirror FeedFault
begins_attribute m s d a =
    if is_out d a.0 then Err (ClassOut m.place)
    else Ok (drafted m s (record { act = d.act; attributes = d.attributes ++ a ∷ []; lines = d.lines + 1; first = first_place d m.place; last = m.place }))

abbrev pub attribute_line : PlainMirror → PlainStream → PlainDraft → List ℕ → Result PlainMirror FeedFault
attribute_line m s d line =
    if nat_le most_lines d.lines then Err (Spelling m.place)
    else elim (name_and_rest line) [
      | None ↦ Err (Spelling m.place)
      | Some parts ↦ begins_attribute m s d (attribute_of parts)
    ]

-- a `%` line can't stand in an operation; it has its own fault, or is out of place
abbrev pub percent_inside : PlainMirror → List ℕ → Result PlainMirror FeedFault
percent_inside m line = elim (percent_line m line) [
  | Ok _ ↦ Err (Spelling m.place)
  | Err fault ↦ Err fault
]

-- a line that doesn't go on with a value comes behind whole attributes
abbrev pub settled : PlainMirror → PlainDraft → Result PlainMirror FeedFault → Result PlainMirror FeedFault
settled m d then_ = elim (attribute_fault m.source d) [
  | None ↦ then_
  | Some fault ↦ Err fault
]

abbrev pub new_line : PlainMirror → PlainStream → PlainDraft → ℕ → List ℕ → Result PlainMirror FeedFault
new_line m s d b line = settled m d (if b == 37 then percent_inside m line else attribute_line m s d line)

-- ---- the empty line behind the object

-- the object's key, by its first attribute
abbrev pub object_key : List (List ℕ × List ℕ) → Option Key
object_key [] = None
object_key (a ∷ more) = key_of_attribute a

-- the mirror after the stream's next operation, which is read alone where it has been applied before
abbrev pub applied : PlainMirror → PlainStream → PlainDraft → Key → PlainMirror
applied m s d k =
    let stream = Some (record { next = s.next + 1; last = s.last; draft = None }) in
    if nat_lt m.serial s.next then record {
      source = m.source;
      objects = operated m.objects d.act k d.attributes;
      serial = s.next;
      stream = stream;
      line = m.line;
      place = m.place;
      fault = m.fault;
    } else in_stream m stream

abbrev pub whole_object : PlainMirror → PlainStream → PlainDraft → Option Key → Result PlainMirror FeedFault
whole_object m s d None = Err (Spelling m.place)
whole_object m s d (Some k) = if list_any is_source_attribute d.attributes then Ok (applied m s d k) else Err (Spelling m.place)

-- before the object any number of empty lines may stand
abbrev pub empty_line : PlainMirror → PlainStream → PlainDraft → Result PlainMirror FeedFault
empty_line m s d = if d.lines == 0 then Ok m else settled m d (whole_object m s d (object_key d.attributes))

-- ---- any line

abbrev pub object_line : PlainMirror → PlainStream → PlainDraft → List ℕ → Result PlainMirror FeedFault
object_line m s d [] = empty_line m s d
object_line m s d (b ∷ bs) = elim (continuation_of (b ∷ bs)) [
  | Some text ↦ goes_on m s d text
  | None ↦ new_line m s d b (b ∷ bs)
]
