-- The line that asks for the change stream, and what it is answered (NRTM version 3).
use Rattle.std.specs.Prelude.{◌≡◌, ℕ, ◌≤◌, ◌⊎◌, nat_lt, if◌then◌else◌, List, ◌++◌, length, codes, Option, None, Some, Result, Ok, Err, IsOk}
use Rattle.std.specs.Option.{option_map_or}
use Rattle.std.specs.Str.Lines.{strip_carriage_return}
use Rattle.std.specs.Io.KnownBytes.{Appends, Consumes}
use Rattle.link_face.specs.Bytes.{AppendsPrefix}
use Rattle.wire_http.specs.declared.message.ConnEnd.{ConnEnd}
use Rattle.wire_http.specs.declared.message.ConnEnd.TheVariants.{Closed, ReadFault, WriteFault, NoMemory, Shut}
use Rattle.addr_text.specs.Reading.{parted_at}
use Rattle.reg_entry.specs.Operations.{PlainBoard, board_after}
use Rattle.nrtm_stream.specs.declared.ask.Ask.{Ask}
use Rattle.nrtm_stream.specs.declared.ask.AskFault.{AskFault}
use Rattle.nrtm_stream.specs.declared.ask.AskFault.TheVariants.{Malformed}
use Rattle.nrtm_stream.specs.Ask.{ask_of, fault_text}
use Rattle.nrtm_stream.specs.Stream.{capitals}
use Rattle.nrtm_stream.specs.Answer.{stream_answer}
use Rattle.snapshot_pub.specs.Pass.{PlainPass}
use Rattle.hall.specs.Conversation.{Known}

-- ---- the line

-- what stands before the first line feed, without a carriage return at its end; all the bytes where there is no line feed
abbrev pub line_in : List ℕ → List ℕ
line_in bytes = option_map_or (λ parts. strip_carriage_return parts.0) (parted_at 10 bytes) bytes

-- what a line asks of the stream of a source; a line of more than 1,024 bytes asks for nothing
abbrev pub line_asks : List ℕ → List ℕ → Result Ask AskFault
line_asks source line = if nat_lt 1024 (length line) then Err Malformed else ask_of line source

-- what the line at the front of the bytes asks of the stream of a registry
abbrev pub asked_in : List ℕ → List ℕ → Result Ask AskFault
asked_in registry bytes = line_asks (capitals registry) (line_in bytes)

-- the input has ended, or whatever comes behind the bytes, what they ask is the same
abbrev pub IsSettled : Type 0 → List ℕ → Type 0
IsSettled has_ended bytes = has_ended ⊎ ((registry more : List ℕ) → asked_in registry (bytes ++ more) ≡ asked_in registry bytes)

-- ---- its answer

-- the stream of what is asked for, or one line that says why there is none
abbrev pub answer_to : PlainBoard → List ℕ → Result Ask AskFault → List ℕ
answer_to board registry (Ok ask) = stream_answer board (capitals registry) ask
answer_to board registry (Err fault) = codes "%ERROR: " ++ fault_text fault ++ codes "\n"

-- the answer to the line at the front of the bytes, on the board of the entries that a pass has seen
abbrev pub line_answer : PlainPass → List ℕ → List ℕ → List ℕ
line_answer pass registry bytes = answer_to (board_after pass.rooms pass.entries) registry (asked_in registry bytes)

-- ---- how the connection ends

-- the pass has looked once, and this is how many entries it has seen by then; a line that asks for nothing is answered
-- without a look
abbrev pub HasLooked : Result Ask AskFault → PlainPass → PlainPass → Option ℕ → Type 0
HasLooked (Ok ask) before after number = number ≡ Some (length after.entries)
HasLooked (Err fault) before after number = (number ≡ None) × (after ≡ before)

-- the text was written, or where the link failed a front of it
abbrev pub HasTold : ConnEnd → Option (List ℕ) → List ℕ → Option (List ℕ) → Type 0
HasTold Closed written text now_written = Appends written now_written text
HasTold WriteFault written text now_written = AppendsPrefix written now_written text
HasTold ReadFault written text now_written = ⊥
HasTold NoMemory written text now_written = ⊥
HasTold Shut written text now_written = ⊥

-- the line has come, and its answer was told
pub record IsLineAnswered (registry : List ℕ) (before : PlainPass) (written : Option (List ℕ)) (end : ConnEnd) (number : Option ℕ)
    (has_ended : Type 0) (now_written : Option (List ℕ)) (after : PlainPass) (came : List ℕ) : Type 0 where
  pub settled : IsSettled has_ended came
  pub looked : HasLooked (asked_in registry came) before after number
  pub told : HasTold end written (line_answer after registry came) now_written

-- the line has come and asks for a stream, and the look at the register has no answer
pub record IsLineRefused (registry : List ℕ) (written : Option (List ℕ)) (number : Option ℕ)
    (has_ended : Type 0) (now_written : Option (List ℕ)) (came : List ℕ) : Type 0 where
  pub settled : IsSettled has_ended came
  pub asks : IsOk (asked_in registry came)
  pub number_is : number ≡ None
  pub silent : now_written ≡ written

-- the read failed before the line had come
pub record IsLineCut (before : PlainPass) (written : Option (List ℕ)) (number : Option ℕ) (now_written : Option (List ℕ)) (after : PlainPass)
    : Type 0 where
  pub unseen : after ≡ before
  pub number_is : number ≡ None
  pub silent : now_written ≡ written

abbrev pub LineEndsAs : ConnEnd → List ℕ → PlainPass → Option (List ℕ) → Option ℕ → Type 0 → Option (List ℕ) → PlainPass → List ℕ → Type 0
LineEndsAs Closed registry before written number has_ended now_written after came =
    IsLineAnswered registry before written Closed number has_ended now_written after came
LineEndsAs WriteFault registry before written number has_ended now_written after came =
    IsLineAnswered registry before written WriteFault number has_ended now_written after came
LineEndsAs ReadFault registry before written number has_ended now_written after came = IsLineCut before written number now_written after
LineEndsAs NoMemory registry before written number has_ended now_written after came =
    IsLineRefused registry written number has_ended now_written came
LineEndsAs Shut registry before written number has_ended now_written after came =
    IsLineRefused registry written number has_ended now_written came

-- ---- the whole

-- these bytes were read, no more than a line and its end may have, and the connection ended so
pub record LineConversation (registry : List ℕ) (before : PlainPass) (old : Known) (end : ConnEnd) (number : Option ℕ) (has_ended : Type 0)
    (new : Known) (after : PlainPass) (came : List ℕ) : Type 0 where
  pub taken : Appends old.taken new.taken came
  pub left : Consumes old.left new.left came
  pub short : length came ≤ 1026
  pub ends : LineEndsAs end registry before old.written number has_ended new.written after came

abbrev pub HasAnsweredLine : List ℕ → PlainPass → Known → ConnEnd → Option ℕ → Type 0 → Known → PlainPass → Type 0
HasAnsweredLine registry before old end number has_ended new after =
    (came : List ℕ) × LineConversation registry before old end number has_ended new after came
