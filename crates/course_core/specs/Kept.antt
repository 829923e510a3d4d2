-- A course as it is kept on vectors.
use Rattle.std.specs.Prelude.{◌≡◌, ℕ, ◌-◌, ◌^◌, ◌<◌, min, List, length}
use Rattle.reg_entry.specs.Policy.{IsPolicy}
use Rattle.reg_entry.specs.Register.{Register}
use Rattle.reg_entry.specs.Operations.{operations_of}
use Rattle.course_core.specs.declared.event.Event.{Event}
use Rattle.course_core.specs.declared.event.Event.TheVariants.{Look, Tell, Pull}
use Rattle.course_core.specs.Course.{PlainCourse, new_course, after_events, head_register, published_serial}
use Rattle.course_core.specs.Promises.{AreEvents}

-- the course, and for how many entries more there is room in its list
pub record RoomyCourse : Type 0 where
  pub course : PlainCourse
  pub spare : ℕ

-- the course is that of some list of events
pub record IsReached (c : PlainCourse) : Type 0 where
  pub passes : ℕ
  pub mirrors : ℕ
  pub events : List Event
  pub policy : IsPolicy c.policy
  pub are : AreEvents events
  pub same : after_events (new_course c.rooms c.policy passes mirrors) events ≡ c

-- a serial as it is kept: it stops at the greatest number of its type, as what is asked for does
abbrev pub kept_serial : ℕ → ℕ
kept_serial n = min n (2 ^ 64 - 1)

pub record IsKeptAs (c : PlainCourse) (before after : Register) (serial published : ℕ) : Type 0 where
  pub reached : IsReached c
  -- both registers are that of the journal
  pub head : before ≡ head_register c
  pub copy : after ≡ head_register c
  pub serial_is : serial ≡ kept_serial (length (operations_of c.rooms c.journal))
  pub published_is : published ≡ kept_serial (published_serial c)

-- the pass or the mirror that the event names is one of the course's
abbrev pub HasIds : PlainCourse → Event → Type 0
HasIds c (Look pass) = pass < length c.seen
HasIds c (Tell pass) = pass < length c.seen
HasIds c (Pull mirror upto) = mirror < length c.serials
HasIds c e = Unit {0}
