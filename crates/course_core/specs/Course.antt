-- The course of a register: what its submits, publications, lookups and pulls amount to, and how one event more changes it.
use Rattle.std.specs.Prelude.{ℕ, min, max, Bool, false, ◌==◌, if◌then◌else◌, List, [], ◌∷◌, ◌++◌, length, take, get_or, set, replicate}
use Rattle.reg_entry.specs.declared.rooms.Rooms.{Rooms}
use Rattle.reg_entry.specs.declared.request.Request.{Request}
use Rattle.reg_entry.specs.declared.entry.Reply.{Reply}
use Rattle.reg_entry.specs.declared.entry.Reply.TheVariants.{Accepted, Refused}
use Rattle.reg_entry.specs.Entry.{PlainEntry}
use Rattle.reg_entry.specs.Policy.{PlainPolicy}
use Rattle.reg_entry.specs.Register.{Register, register_after}
use Rattle.reg_entry.specs.Decision.{decision}
use Rattle.reg_entry.specs.Operations.{operations_of}
use Rattle.course_core.specs.declared.event.Event.{Event}
use Rattle.course_core.specs.declared.event.Event.TheVariants.{Submit, Publish, Look, Tell, Pull}
use Rattle.course_core.specs.declared.event.Said.{Said}
use Rattle.course_core.specs.declared.event.Said.TheVariants.{Decided, Count}

-- the entries so far, how many of them are published, how many of these each pass has seen, and the serial of the last
-- operation that each mirror was fed
pub record PlainCourse : Type 0 where
  pub rooms : Rooms
  pub policy : PlainPolicy
  pub journal : List PlainEntry
  pub published : ℕ
  pub seen : List ℕ
  pub serials : List ℕ

-- the course of no event, with so many passes and mirrors
abbrev pub new_course : Rooms → PlainPolicy → ℕ → ℕ → PlainCourse
new_course rooms policy passes mirrors = record {
  rooms = rooms;
  policy = policy;
  journal = [];
  published = 0;
  seen = replicate passes 0;
  serials = replicate mirrors 0;
}

-- ---- looking up

-- the register of the entries so far
abbrev pub head_register : PlainCourse → Register
head_register c = register_after c.rooms c.journal

-- the register of the first k entries
abbrev pub register_at : PlainCourse → ℕ → Register
register_at c k = register_after c.rooms (take k c.journal)

-- the serial of the last operation of the first k entries
abbrev pub serial_at : PlainCourse → ℕ → ℕ
serial_at c k = length (operations_of c.rooms (take k c.journal))

abbrev pub published_entries : PlainCourse → List PlainEntry
published_entries c = take c.published c.journal

-- the serial of the last operation that is published
abbrev pub published_serial : PlainCourse → ℕ
published_serial c = serial_at c c.published

abbrev pub seen_by : PlainCourse → ℕ → ℕ
seen_by c pass = get_or c.seen pass 0

abbrev pub serial_of : PlainCourse → ℕ → ℕ
serial_of c mirror = get_or c.serials mirror 0

-- ---- one event more

-- what becomes of a request
abbrev pub decided : PlainCourse → ℕ → List ℕ → Request → Reply
decided c day who request = decision (head_register c) c.policy day who request

-- the journal with the entry that an accepted request became
abbrev pub with_accepted : List PlainEntry → Reply → List PlainEntry
with_accepted es (Accepted e) = es ++ e ∷ []
with_accepted es (Refused refusal) = es

-- the pass has seen what is published
abbrev pub with_seen : PlainCourse → ℕ → PlainCourse
with_seen c pass = record c { seen = set c.seen pass c.published }

-- the mirror was fed up to a serial, or up to the last that is published; it never goes back
abbrev pub with_fed : PlainCourse → ℕ → ℕ → PlainCourse
with_fed c mirror upto = record c { serials = set c.serials mirror (max (serial_of c mirror) (min upto (published_serial c))) }

abbrev pub after_event : PlainCourse → Event → PlainCourse
after_event c (Submit day who request) = record c { journal = with_accepted c.journal (decided c day who request) }
after_event c Publish = record c { published = length c.journal }
after_event c (Look pass) = with_seen c pass
after_event c (Tell pass) = with_seen c pass
after_event c (Pull mirror upto) = with_fed c mirror upto

abbrev pub after_events : PlainCourse → List Event → PlainCourse
after_events c [] = c
after_events c (e ∷ es) = after_events (after_event c e) es

-- the answer to an event: a request's reply, or a count as it is after the event
abbrev pub said : PlainCourse → Event → Said
said c (Submit day who request) = Decided (decided c day who request)
said c Publish = Count (after_event c Publish).published
said c (Look pass) = Count (seen_by (after_event c (Look pass)) pass)
said c (Tell pass) = Count (seen_by (after_event c (Tell pass)) pass)
said c (Pull mirror upto) = Count (serial_of (after_event c (Pull mirror upto)) mirror)

-- ---- the lookups of a pass

abbrev pub is_lookup_by : ℕ → Event → Bool
is_lookup_by pass (Look other) = other == pass
is_lookup_by pass (Tell other) = other == pass
is_lookup_by pass e = false

abbrev pub counted : Said → List ℕ
counted (Count n) = n ∷ []
counted (Decided reply) = []

-- the counts that the pass was answered when it looked or was told, in the order of the events
abbrev pub lookups_of : ℕ → PlainCourse → List Event → List ℕ
lookups_of pass c [] = []
lookups_of pass c (e ∷ es) = (if is_lookup_by pass e then counted (said c e) else []) ++ lookups_of pass (after_event c e) es
