-- Pieces that come, and how a connection ends.
use Rattle.std.proofs.Common.{◌≡◌, ◌≢◌, ℕ, List, [], ◌++◌, Bool, false, Option, None, Some, refl, sym, ap, ◌∙◌, subst, inl, inr}
use Rattle.std.specs.Prelude.{Result, Ok, Err, IsTrue}
use Rattle.std.specs.Io.KnownBytes.{Appends, Consumes}
use Rattle.std.proofs.KnownBytes.{Appends-trans, Consumes-trans}
use Rattle.link_face.specs.Bytes.{AppendsPrefix}
use Rattle.wire_http.specs.declared.message.ConnEnd.{ConnEnd}
use Rattle.wire_http.specs.declared.message.ConnEnd.TheVariants.{Closed, ReadFault, WriteFault, NoMemory, Shut}
use Rattle.wire_http.specs.Messages.{StandsBehind}
use Rattle.wire_http.specs.Messages.Behind.{Ends, Unfinished, Fault}
use Rattle.hall.specs.declared.connection.Pause.{Pause}
use Rattle.hall.specs.declared.connection.Pause.TheVariants.{Asked, More, Bad, End}
use Rattle.hall.specs.Standing.{Standing}
use Rattle.hall.specs.Turn.{Terms, Turn, AreServed, last_closes, replies_of}
use Rattle.hall.specs.Receive.{Comes}
use Rattle.hall.specs.Written.{ReadSide, read_side}
use Rattle.hall.specs.Pause.{PausesAt, HavePaused, HasServed, HasClosed, last_word}
use Rattle.hall.specs.Conversation.{Known, known, HasConversation, IsClosing, EndsAs}
use Rattle.hall.specs.Prefixes.{KeepsEntries}
use Rattle.hall.proofs.Links.{prefix_behind}
use Rattle.hall.proofs.Rising.{turns_rise, seen_stays}
use Rattle.hall.proofs.Turns.{served_on, served_more, last_closes-append, replies_of-append}
use Rattle.hall.proofs.Serving.{IsUnderWay, nothing_yet, Appends-nothing}

-- ---- pieces

-- these bytes came, and these messages of them were answered, none of which ends the connection
pub record HaveTalked (t : Terms) (before : Standing) (old new : Known) (left : List ℕ) (now : Standing) (came : List ℕ) (turns : List Turn) : Type 0 where
  pub taken : Appends old.taken new.taken came
  pub left_is : Consumes old.left new.left came
  pub way : IsUnderWay t before came left old.written new.written now turns

abbrev pub HasTalked : Terms → Standing → Known → Known → List ℕ → Standing → Type 0
HasTalked t before old new left now = (came : List ℕ) × (turns : List Turn) × HaveTalked t before old new left now came turns

Consumes-nothing : (l : Option (List ℕ)) → Consumes l l []
Consumes-nothing None = tt
Consumes-nothing (Some xs) = refl

pub not_yet : (t : Terms) (before : Standing) (old : Known) → HasTalked t before old old [] before
not_yet t before old = (
  [],
  [],
  record {
    taken = Appends-nothing old.taken;
    left_is = Consumes-nothing old.left;
    way = nothing_yet t before [] old.written;
  },
)

-- what is known of a link after more was written
abbrev with_written : Known → Option (List ℕ) → Known
with_written k written = known k.taken k.left written

-- the messages that have come were answered, and more bytes are wanted
pub talk_goes_on : {E : Type 0} (t : Terms) (before now after : Standing) (old new : Known) (left rest : List ℕ) (ended : Bool) (written : Option (List ℕ))
    (r : Result Pause E) → HasTalked t before old new left now → r ≡ Ok More → HasServed t now r left rest ended new.written written after
    → HasTalked t before old (with_written new written) rest after
talk_goes_on t before now after old new left rest ended written r talked more served =
    let so = talked.2 in
    let paused = subst (λ x. HavePaused x served.0 rest ended new.written written) more served.2 in (
      talked.0,
      talked.1 ++ served.0,
      record {
        taken = so.taken;
        left_is = so.left_is;
        way = record {
          served = served_on t before now after talked.0 left rest talked.1 served.0 so.way.served so.way.goes served.1;
          goes = last_closes-append talked.1 served.0 so.way.goes ∙ paused.0.0;
          written_is = subst (Appends old.written written) (sym (replies_of-append talked.1 served.0))
              (Appends-trans old.written new.written written (replies_of talked.1) (replies_of served.0) so.way.written_is paused.1);
        };
      },
    )

-- a piece came
pub talk_comes : (t : Terms) (before now : Standing) (old new : Known) (left : List ℕ) (taken bytes_left : Option (List ℕ)) (now_left piece : List ℕ)
    → HasTalked t before old new left now → Comes new.taken new.left left taken bytes_left now_left piece
    → HasTalked t before old (known taken bytes_left new.written) now_left now
talk_comes t before now old new left taken bytes_left now_left piece talked comes =
    let so = talked.2 in (
      talked.0 ++ piece,
      talked.1,
      record {
        taken = Appends-trans old.taken new.taken taken talked.0 piece so.taken comes.taken_is;
        left_is = Consumes-trans old.left new.left bytes_left talked.0 piece so.left_is comes.left_is;
        way = record {
          served = subst (λ rest. AreServed t before (talked.0 ++ piece) talked.1 rest now) (sym comes.bytes_are)
              (served_more t before now talked.0 left piece talked.1 so.way.served);
          goes = so.way.goes;
          written_is = so.way.written_is;
        };
      },
    )

-- ---- the end

-- no message was left to answer, and the input failed
pub read_failed : (t : Terms) (keeps : KeepsEntries t) (before now : Standing) (old new : Known) (left : List ℕ) (has_ended : Type 0)
    → HasTalked t before old new left now → StandsBehind left false Unfinished → HasConversation t before old ReadFault has_ended new now
read_failed t keeps before now old new left has_ended talked wants =
    let so = talked.2 in (
      talked.0,
      talked.1,
      left,
      record {
        taken = so.taken;
        left = so.left_is;
        messages = so.way.served.messages;
        replies = so.way.served.replies;
        prefixes = turns_rise t before now talked.1 keeps so.way.served.replies;
        kept = seen_stays t before now talked.1 keeps so.way.served.replies;
        open_until_last = so.way.served.open_until_last;
        ends = (so.way.goes, wants, so.way.written_is);
      },
    )

-- turns behind others stop where they would alone
pauses_on : (pause : Pause) (turns more : List Turn) (rest : List ℕ) (ended : Bool) → last_closes turns ≡ false → PausesAt pause more rest ended
    → PausesAt pause (turns ++ more) rest ended
pauses_on Asked turns more rest ended goes p = last_closes-append turns more goes ∙ p
pauses_on More turns more rest ended goes p = (last_closes-append turns more goes ∙ p.0, p.1)
pauses_on (Bad code) turns more rest ended goes p = (last_closes-append turns more goes ∙ p.0, p.1)
pauses_on End turns more rest ended goes p = (last_closes-append turns more goes ∙ p.0, p.1)

closing_of : (pause : Pause) (has_ended : Type 0) (turns : List Turn) (rest : List ℕ) (ended : Bool) → PausesAt pause turns rest ended
    → (IsTrue ended → has_ended) → pause ≢ More → IsClosing has_ended turns rest (last_word pause)
closing_of Asked has_ended turns rest ended p end other = inl (p, refl)
closing_of More has_ended turns rest ended p end other = absurd (other refl)
closing_of (Bad code) has_ended turns rest ended p end other =
    inr (p.0, (Fault code, ended, record { stands = p.1; end = end; word = refl }))
closing_of End has_ended turns rest ended p end other = inr (p.0, (Ends, ended, record { stands = p.1; end = end; word = refl }))

ends_as : (end : ConnEnd) (pause : Pause) (has_ended : Type 0) (turns : List Turn) (rest : List ℕ) (w0 w w1 : Option (List ℕ))
    → IsClosing has_ended turns rest (last_word pause) → Appends w0 w (replies_of turns) → HasClosed end pause w w1
    → EndsAs end has_ended turns rest w0 w1
ends_as Closed pause has_ended turns rest w0 w w1 closing replies closed =
    (last_word pause, closing, Appends-trans w0 w w1 (replies_of turns) (last_word pause) replies closed)
ends_as WriteFault pause has_ended turns rest w0 w w1 closing replies closed =
    inr (last_word pause, closing, prefix_behind w0 w w1 (replies_of turns) (last_word pause) replies closed)
ends_as ReadFault pause has_ended turns rest w0 w w1 closing replies closed = absurd closed
ends_as NoMemory pause has_ended turns rest w0 w w1 closing replies closed = absurd closed
ends_as Shut pause has_ended turns rest w0 w w1 closing replies closed = absurd closed

-- the messages that have come were answered, nothing more is wanted, and the last word was said
pub talk_closes : {E : Type 0} (t : Terms) (keeps : KeepsEntries t) (before now after : Standing) (old new : Known) (left rest : List ℕ) (ended : Bool)
    (written w1 : Option (List ℕ)) (r : Result Pause E) (pause : Pause) (end : ConnEnd) (has_ended : Type 0)
    → HasTalked t before old new left now → r ≡ Ok pause → HasServed t now r left rest ended new.written written after
    → (IsTrue ended → has_ended) → pause ≢ More → HasClosed end pause written w1
    → HasConversation t before old end has_ended (with_written new w1) after
talk_closes t keeps before now after old new left rest ended written w1 r pause end has_ended talked is served ends other closed =
    let so = talked.2 in
    let paused = subst (λ x. HavePaused x served.0 rest ended new.written written) is served.2 in
    let all : List Turn = talked.1 ++ served.0 in
    let whole = served_on t before now after talked.0 left rest talked.1 served.0 so.way.served so.way.goes served.1 in
    let replies : Appends old.written written (replies_of all) = subst (Appends old.written written) (sym (replies_of-append talked.1 served.0))
    (Appends-trans old.written new.written written (replies_of talked.1) (replies_of served.0) so.way.written_is paused.1) in
    let stops : PausesAt pause all rest ended = pauses_on pause talked.1 served.0 rest ended so.way.goes paused.0 in (
      talked.0,
      all,
      rest,
      record {
        taken = so.taken;
        left = so.left_is;
        messages = whole.messages;
        replies = whole.replies;
        prefixes = turns_rise t before after all keeps whole.replies;
        kept = seen_stays t before after all keeps whole.replies;
        open_until_last = whole.open_until_last;
        ends = ends_as end pause has_ended all rest old.written written w1 (closing_of pause has_ended all rest ended stops ends other) replies closed;
      },
    )

-- a reply broke off
pub talk_breaks : {E : Type 0} (t : Terms) (keeps : KeepsEntries t) (before now after : Standing) (old new : Known) (left rest : List ℕ) (ended : Bool)
    (w1 : Option (List ℕ)) (r : Result Pause E) (e : E) (has_ended : Type 0)
    → HasTalked t before old new left now → r ≡ Err e → HasServed t now r left rest ended new.written w1 after
    → HasConversation t before old WriteFault has_ended (with_written new w1) after
talk_breaks t keeps before now after old new left rest ended w1 r e has_ended talked is served =
    let so = talked.2 in
    let broke = subst (λ x. HavePaused x served.0 rest ended new.written w1) is served.2 in
    let all : List Turn = talked.1 ++ served.0 in
    let whole = served_on t before now after talked.0 left rest talked.1 served.0 so.way.served so.way.goes served.1 in (
      talked.0,
      all,
      rest,
      record {
        taken = so.taken;
        left = so.left_is;
        messages = whole.messages;
        replies = whole.replies;
        prefixes = turns_rise t before after all keeps whole.replies;
        kept = seen_stays t before after all keeps whole.replies;
        open_until_last = whole.open_until_last;
        ends = inl (subst (AppendsPrefix old.written w1) (sym (replies_of-append talked.1 served.0))
            (prefix_behind old.written new.written w1 (replies_of talked.1) (replies_of served.0) so.way.written_is broke));
      },
    )

-- what is wanted by the messages that have come
pub wants_more : {E : Type 0} (t : Terms) (now after : Standing) (left rest : List ℕ) (ended : Bool) (w w1 : Option (List ℕ)) (r : Result Pause E)
    → r ≡ Ok More → HasServed t now r left rest ended w w1 after → StandsBehind rest ended Unfinished
wants_more t now after left rest ended w w1 r is served =
    let paused = subst (λ x. HavePaused x served.0 rest ended w w1) is served.2 in paused.0.1

-- what a link tells where its reading side stayed
pub same_reading : (a b c d : Option (List ℕ)) (m n : ℕ) (w : Option (List ℕ)) → read_side a b m ≡ read_side c d n → known a b w ≡ known c d w
same_reading a b c d m n w same = ap (λ (s : ReadSide). known s.taken s.left w) same

-- the messages that have come were answered, more bytes were wanted, and a piece came
pub talk_received : {E : Type 0} (t : Terms) (before now after : Standing) (old new : Known) (left rest : List ℕ)
    (taken bytes_left w w1 now_taken now_left : Option (List ℕ)) (bytes piece : List ℕ) (r : Result Pause E)
    → HasTalked t before old new left now → r ≡ Ok More → HasServed t now r left rest false new.written w after
    → known taken bytes_left w ≡ known new.taken new.left w → Comes taken bytes_left rest now_taken now_left bytes piece → w1 ≡ w
    → HasTalked t before old (known now_taken now_left w1) bytes after
talk_received t before now after old new left rest taken bytes_left w w1 now_taken now_left bytes piece r talked is served same comes written =
    let on : HasTalked t before old (known taken bytes_left w) rest after =
    subst (λ k. HasTalked t before old k rest after) (sym same) (talk_goes_on t before now after old new left rest false w r talked is served) in
    subst (λ x. HasTalked t before old (known now_taken now_left x) bytes after) (sym written)
    (talk_comes t before after old (known taken bytes_left w) rest now_taken now_left bytes piece on comes)
