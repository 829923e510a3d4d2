-- One message more, and bytes that are fewer.
use Rattle.std.proofs.Common.{◌≡◌, ℕ, ◌<◌, List, [], ◌∷◌, ◌++◌, Bool, false, Option, None, Some, length, refl, sym, ap, ◌∙◌, subst, append-nil, arith, length-append, true≢false}
use Rattle.std.specs.Prelude.{Result, Ok, Err, OnOk, OnErr, IfOk}
use Rattle.std.specs.Io.KnownBytes.{Appends}
use Rattle.std.proofs.KnownBytes.{Appends-trans}
use Rattle.link_face.specs.Bytes.{AppendsPrefix}
use Rattle.httparse.specs.Grammar.{RequestHead, print_request}
use Rattle.wire_http.specs.Head.{plain_head, IsHead}
use Rattle.wire_http.specs.Fields.{asks_to_close}
use Rattle.wire_http.specs.Messages.{PlainMessage, BeginsWith}
use Rattle.wire_http.specs.declared.message.Message.{Message}
use Rattle.wire_http.specs.Step.{message_at}
use Rattle.wire_http.specs.Framer.{PlainFramer, Gives}
use Rattle.hall.specs.declared.ask.Ask.{Ask}
use Rattle.hall.specs.Standing.{Standing}
use Rattle.std.specs.Result.{IsErr}
use Rattle.hall.specs.Ask.{Asks}
use Rattle.hall.specs.declared.connection.Pause.{Pause}
use Rattle.hall.specs.Pause.{HasServed}
use Rattle.hall.specs.Turn.{Terms, Turn, IsReplied, AreServed, last_closes, replies_of}
use Rattle.hall.specs.Answer.{AnswersGiven}
use Rattle.hall.proofs.Turns.{served_on, last_closes-append, replies_of-append, none_served}
use Rattle.hall.proofs.Links.{prefix_behind}

-- ---- fewer bytes

head_has_bytes : (h : RequestHead) → 0 < length (print_request h)
unfolding print_request
head_has_bytes h = simp length-append (omega arith)

-- a message takes some bytes
pub fewer_left : (bytes rest : List ℕ) (m : PlainMessage) → BeginsWith bytes m rest → length rest < length bytes
fewer_left bytes rest m b =
    let h : RequestHead = b.message.0 in
    omega (
      arith,
      ap length b.whole,
      length-append m.head (m.body ++ rest),
      length-append m.body rest,
      ap length b.message.1.reads.1,
      length-append (print_request h) [],
      head_has_bytes h,
    )

-- the message that a framer gave stands at the front of what it had
pub given_begins : (m : Message) (old new : PlainFramer) → Gives m old new → BeginsWith old.bytes new.given new.bytes
given_begins m old new gives =
    subst (λ given. BeginsWith old.bytes given new.bytes) (sym gives.given)
    (subst (BeginsWith old.bytes (message_at old.bytes m)) (sym gives.rest) gives.first.begins)

-- ---- one message more

-- nothing is written
pub Appends-nothing : (w : Option (List ℕ)) → Appends w w []
Appends-nothing None = tt
Appends-nothing (Some xs) = sym (append-nil xs)

-- these messages were answered, none of which ends the connection
pub record IsUnderWay (t : Terms) (before : Standing) (bytes left : List ℕ) (written now_written : Option (List ℕ)) (now : Standing)
    (turns : List Turn) : Type 0 where
  pub served : AreServed t before bytes turns left now
  pub goes : last_closes turns ≡ false
  pub written_is : Appends written now_written (replies_of turns)

pub nothing_yet : (t : Terms) (before : Standing) (bytes : List ℕ) (w : Option (List ℕ)) → IsUnderWay t before bytes bytes w w before []
nothing_yet t before bytes w = record { served = none_served t before bytes; goes = refl; written_is = Appends-nothing w }

abbrev turn_of : PlainMessage → RequestHead → Ask → List ℕ → Standing → Turn
turn_of m h ask reply after = record { message = m; head = plain_head h; ask = ask; reply = reply; after = after }

one_turn : (t : Terms) (now after : Standing) (left rest : List ℕ) (m : PlainMessage) (h : RequestHead) (ask : Ask) (reply : List ℕ)
    → BeginsWith left m rest → IsHead m.head h → Asks t.policy (plain_head h) m.body ask → IsReplied t (plain_head h) ask now reply after
    → AreServed t now left (turn_of m h ask reply after ∷ []) rest after
one_turn t now after left rest m h ask reply begins reads asks replied = record {
  messages = (rest, begins, refl);
  replies = ((h, record { reads = reads; head_is = refl; asks = asks; replied = replied }), refl);
  open_until_last = tt;
}

replies_one : (turns : List Turn) (turn : Turn) → replies_of (turns ++ turn ∷ []) ≡ replies_of turns ++ turn.reply
replies_one turns turn = replies_of-append turns (turn ∷ []) ∙ ap (λ l. replies_of turns ++ l) (append-nil turn.reply)

-- where the reply wasn't written whole, a front of all replies was written
pub broken_off : {E F : Type 0} (t : Terms) (before now after : Standing) (bytes left rest : List ℕ) (w0 w w1 : Option (List ℕ)) (m : PlainMessage)
    (r : Result Bool E) (e : E) (result : Result Pause F) (ended : Bool) (turns : List Turn)
    → IsUnderWay t before bytes left w0 w now turns → BeginsWith left m rest → AnswersGiven t m now r w w1 after → r ≡ Err e → IsErr result
    → HasServed t before result bytes rest ended w0 w1 after
broken_off t before now after bytes left rest w0 w w1 m r e (Ok pause) ended turns under begins given fails err = absurd (true≢false (sym err))
broken_off t before now after bytes left rest w0 w w1 m r e (Err f) ended turns under begins given fails err =
    let h = given.0 in
    let answered = given.2.2 in
    let turn : Turn = turn_of m h given.2.0 given.2.1 after in
    let front : AppendsPrefix w w1 turn.reply = subst (λ x. OnErr x (AppendsPrefix w w1 turn.reply)) fails answered.written_is.err in (
      turns ++ turn ∷ [],
      served_on t before now after bytes left rest turns (turn ∷ []) under.served under.goes
          (one_turn t now after left rest m h given.2.0 given.2.1 begins given.1 answered.asks answered.replied),
      subst (AppendsPrefix w0 w1) (sym (replies_one turns turn)) (prefix_behind w0 w w1 (replies_of turns) turn.reply under.written_is front),
    )

-- the message was answered, and its reply was written whole
pub record IsOneMore (t : Terms) (before after : Standing) (bytes rest : List ℕ) (w0 w1 : Option (List ℕ)) (closes_it : Bool) (turns : List Turn) : Type 0 where
  pub served : AreServed t before bytes turns rest after
  pub last_is : last_closes turns ≡ closes_it
  pub written_is : Appends w0 w1 (replies_of turns)

pub one_more : {E : Type 0} (t : Terms) (before now after : Standing) (bytes left rest : List ℕ) (w0 w w1 : Option (List ℕ)) (m : PlainMessage)
    (r : Result Bool E) (closes_it : Bool) (turns : List Turn)
    → IsUnderWay t before bytes left w0 w now turns → BeginsWith left m rest → AnswersGiven t m now r w w1 after → r ≡ Ok closes_it
    → (all : List Turn) × IsOneMore t before after bytes rest w0 w1 closes_it all
one_more t before now after bytes left rest w0 w w1 m r closes_it turns under begins given ok =
    let h = given.0 in
    let answered = given.2.2 in
    let turn : Turn = turn_of m h given.2.0 given.2.1 after in
    let whole : Appends w w1 turn.reply = subst (λ x. OnOk x (Appends w w1 turn.reply)) ok answered.written_is.ok in
    let says : closes_it ≡ asks_to_close (plain_head h) = subst (λ x. IfOk x (λ b. b ≡ asks_to_close (plain_head h))) ok given.3 in (
      turns ++ turn ∷ [],
      record {
        served = served_on t before now after bytes left rest turns (turn ∷ []) under.served under.goes
            (one_turn t now after left rest m h given.2.0 given.2.1 begins given.1 answered.asks answered.replied);
        last_is = last_closes-append turns (turn ∷ []) under.goes ∙ sym says;
        written_is = subst (Appends w0 w1) (sym (replies_one turns turn)) (Appends-trans w0 w w1 (replies_of turns) turn.reply under.written_is whole);
      },
    )
