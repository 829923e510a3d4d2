-- What becomes of one message.
use Rattle.std.specs.Prelude.{◌≡◌, ℕ, Bool, List, Option, Result, IfOk}
use Rattle.httparse.specs.Grammar.{RequestHead}
use Rattle.wire_http.specs.Head.{PlainHead, plain_head, IsHead}
use Rattle.wire_http.specs.Fields.{asks_to_close}
use Rattle.wire_http.specs.Messages.{PlainMessage}
use Rattle.hall.specs.declared.ask.Ask.{Ask}
use Rattle.hall.specs.Standing.{Standing}
use Rattle.hall.specs.Written.{IsWritten}
use Rattle.hall.specs.Ask.{Asks}
use Rattle.hall.specs.Turn.{Terms, IsReplied}

-- the message asks for this, and this is the reply, which was written where the link didn't fail
pub record IsAnswered {T E : Type 0} (t : Terms) (head : PlainHead) (body : List ℕ) (before : Standing) (result : Result T E)
    (written now_written : Option (List ℕ)) (after : Standing) (ask : Ask) (reply : List ℕ) : Type 0 where
  pub asks : Asks t.policy head body ask
  pub replied : IsReplied t head ask before reply after
  pub written_is : IsWritten result written reply now_written

abbrev pub AnswersMessage : {T E : Type 0} → Terms → PlainHead → List ℕ → Standing → Result T E → Option (List ℕ) → Option (List ℕ) → Standing → Type 0
AnswersMessage t head body before result written now_written after =
    (ask : Ask) × (reply : List ℕ) × IsAnswered t head body before result written now_written after ask reply

-- the message that was given is answered, and this says whether the connection ends behind it
abbrev pub AnswersGiven : {E : Type 0} → Terms → PlainMessage → Standing → Result Bool E → Option (List ℕ) → Option (List ℕ) → Standing → Type 0
AnswersGiven t message before result written now_written after =
    (h : RequestHead) × IsHead message.head h × AnswersMessage t (plain_head h) message.body before result written now_written after
    × IfOk result (λ closes. closes ≡ asks_to_close (plain_head h))
