-- Why no further message is answered, and how a connection ends then.
use Rattle.std.specs.Prelude.{ℕ, Bool, List, [], ⊤, Option, Result, Ok, Err, IsTrue, IsFalse}
use Rattle.std.specs.Io.KnownBytes.{Appends}
use Rattle.link_face.specs.Bytes.{AppendsPrefix}
use Rattle.wire_http.specs.declared.message.ConnEnd.{ConnEnd}
use Rattle.wire_http.specs.declared.message.ConnEnd.TheVariants.{Closed, ReadFault, WriteFault, NoMemory, Shut}
use Rattle.wire_http.specs.Messages.{Behind, StandsBehind}
use Rattle.wire_http.specs.Messages.Behind.{Ends, Unfinished, Fault}
use Rattle.hall.specs.declared.connection.Pause.{Pause}
use Rattle.hall.specs.declared.connection.Pause.TheVariants.{Asked, More, Bad, End}
use Rattle.hall.specs.Standing.{Standing}
use Rattle.hall.specs.Turn.{Terms, Turn, AreServed, last_closes, replies_of}
use Rattle.hall.specs.Reply.{IsErrorCode, closing_reply}

-- what stands behind the turns
abbrev pub StopsAt : List Turn → List ℕ → Bool → Behind → Type 0
StopsAt turns rest ended behind = IsFalse (last_closes turns) × StandsBehind rest ended behind

abbrev pub PausesAt : Pause → List Turn → List ℕ → Bool → Type 0
PausesAt Asked turns rest ended = IsTrue (last_closes turns)
PausesAt More turns rest ended = StopsAt turns rest ended Unfinished
PausesAt (Bad code) turns rest ended = StopsAt turns rest ended (Fault code)
PausesAt End turns rest ended = StopsAt turns rest ended Ends

-- the code of a fault is that of an error
abbrev pub HasPauseCode : Pause → Type 0
HasPauseCode Asked = ⊤
HasPauseCode More = ⊤
HasPauseCode (Bad code) = IsErrorCode code
HasPauseCode End = ⊤

-- the replies of the turns were written, and a front of them where the link failed
abbrev pub HavePaused : {E : Type 0} → Result Pause E → List Turn → List ℕ → Bool → Option (List ℕ) → Option (List ℕ) → Type 0
HavePaused (Ok pause) turns rest ended written now_written = PausesAt pause turns rest ended × Appends written now_written (replies_of turns)
HavePaused (Err e) turns rest ended written now_written = AppendsPrefix written now_written (replies_of turns)

-- the messages at the front of the bytes were answered, one after the other, and the rest is left
abbrev pub HasServed : {E : Type 0} → Terms → Standing → Result Pause E → List ℕ → List ℕ → Bool → Option (List ℕ) → Option (List ℕ) → Standing → Type 0
HasServed t before result bytes rest ended written now_written after =
    (turns : List Turn) × AreServed t before bytes turns rest after × HavePaused result turns rest ended written now_written

-- ---- the last word

abbrev pub last_word : Pause → List ℕ
last_word Asked = []
last_word More = []
last_word (Bad code) = closing_reply code
last_word End = []

-- it was written, or a front of it where the link failed
abbrev pub HasClosed : ConnEnd → Pause → Option (List ℕ) → Option (List ℕ) → Type 0
HasClosed Closed pause written now_written = Appends written now_written (last_word pause)
HasClosed WriteFault pause written now_written = AppendsPrefix written now_written (last_word pause)
HasClosed ReadFault pause written now_written = ⊥
HasClosed NoMemory pause written now_written = ⊥
HasClosed Shut pause written now_written = ⊥
