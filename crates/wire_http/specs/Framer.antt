-- A framer as contracts see it: the bytes that came and aren't taken yet, and the message that was given last.
use Rattle.std.specs.Prelude.{◌≡◌, ℕ, ◌+◌, ◌-◌, ◌<◌, ◌≤◌, Bool, List, [], length, drop}
use Rattle.wire_http.specs.declared.message.Message.{Message}
use Rattle.wire_http.specs.declared.message.Step.{Step}
use Rattle.wire_http.specs.declared.message.Step.TheVariants as step
use Rattle.wire_http.specs.Head.{IsSearched}
use Rattle.wire_http.specs.Messages.{PlainMessage, Ends, Unfinished, Fault, StandsBehind}
use Rattle.wire_http.specs.Step.{message_at, rest_behind, IsFirstMessage}

-- how many bytes there is room for: those of the longest head and the longest body
abbrev pub framer_room : ℕ
framer_room = 8192 + 4096

pub record PlainFramer : Type 0 where
  pub bytes : List ℕ
  pub given : PlainMessage
  pub spare : ℕ

-- where no message is lent
abbrev pub no_message : PlainMessage
no_message = record { head = []; body = [] }

abbrev pub empty_framer : PlainFramer
empty_framer = record { bytes = []; given = no_message; spare = framer_room }

-- a step gives the message at the front and takes its bytes, or says what stands there and takes nothing
pub record Gives (m : Message) (old new : PlainFramer) : Type 0 where
  pub first : IsFirstMessage m old.bytes
  pub given : new.given ≡ message_at old.bytes m
  pub rest : new.bytes ≡ rest_behind old.bytes m

pub record Stays (old new : PlainFramer) : Type 0 where
  pub bytes : new.bytes ≡ old.bytes
  pub given : new.given ≡ no_message

abbrev pub Takes : Step → PlainFramer → Bool → PlainFramer → Type 0
Takes (step.Message m) old ended new = Gives m old new
Takes step.More old ended new = StandsBehind old.bytes ended Unfinished × Stays old new
Takes (step.Bad code) old ended new = StandsBehind old.bytes ended (Fault code) × Stays old new
Takes step.End old ended new = StandsBehind old.bytes ended Ends × Stays old new

-- where more is wanted, all the room but that of the bytes is spare, and it isn't nothing
abbrev pub LeavesRoom : Step → PlainFramer → PlainFramer → Type 0
LeavesRoom step.More old new = (0 < new.spare) × (new.spare + length new.bytes ≡ framer_room)
LeavesRoom (step.Message m) old new = new.spare ≡ old.spare
LeavesRoom (step.Bad code) old new = new.spare ≡ old.spare
LeavesRoom step.End old new = new.spare ≡ old.spare

-- what the buffer means, where the last message stands at a place of it
abbrev pub framer_of : List ℕ → ℕ → Message → PlainFramer
framer_of items at given = record {
  bytes = rest_behind (drop at items) given;
  given = message_at (drop at items) given;
  spare = framer_room - length items;
}

-- the buffer has the last message and what is behind it, of which so many bytes are known to have no head
pub record IsFramer (items : List ℕ) (at : ℕ) (given : Message) (seen capacity : ℕ) : Type 0 where
  pub within : at + given.head + given.body ≤ length items
  pub fits : length items ≤ framer_room
  pub room : framer_room ≤ capacity
  pub searched : IsSearched seen (rest_behind (drop at items) given)
