-- The turns of a conversation: each message with the reply to it.
use Rattle.std.specs.Prelude.{◌≡◌, ℕ, Bool, false, List, [], ◌∷◌, ⊤, Result, IsFalse, map}
use Rattle.std.specs.List.{flat_map}
use Rattle.httparse.specs.Grammar.{RequestHead}
use Rattle.reg_entry.specs.declared.rooms.Rooms.{Rooms}
use Rattle.reg_entry.specs.declared.entry.Reply.{Reply}
use Rattle.reg_entry.specs.declared.request.Request.{Request}
use Rattle.reg_entry.specs.Entry.{PlainEntry}
use Rattle.reg_entry.specs.Policy.{PlainPolicy}
use Rattle.board.specs.declared.lens.Answer.{Answer}
use Rattle.wire_http.specs.Head.{PlainHead, plain_head, IsHead}
use Rattle.wire_http.specs.Fields.{asks_to_close}
use Rattle.wire_http.specs.Messages.{PlainMessage, BeginsWith}
use Rattle.hall.specs.declared.ask.Ask.{Ask}
use Rattle.hall.specs.declared.ask.Ask.TheVariants.{Refused, Look, Submit, Unread}
use Rattle.hall.specs.declared.backend.Fault.{Fault}
use Rattle.hall.specs.declared.lookup.Lookup.{Lookup}
use Rattle.hall.specs.Standing.{Standing}
use Rattle.hall.specs.Backend.{LooksAt, Submits}
use Rattle.hall.specs.Lookup.{lookup_answer, answer_at_least}
use Rattle.hall.specs.Ask.{Asks}
use Rattle.hall.specs.Reply.{refusal_reply, unread_reply, look_reply, submit_reply}

-- What does not change while a connection is served: the rooms of the register, the policy, the days of the clock, what may
-- come between two calls, and which faults a submit may have.
pub record Terms : Type 1 where
  pub rooms : Rooms
  pub policy : PlainPolicy
  pub is_day : ℕ → Type 0
  pub goes_on : List PlainEntry → List PlainEntry → Type 0
  pub may_fail : Fault → Type 0

abbrev pub terms : Rooms → PlainPolicy → (ℕ → Type 0) → (List PlainEntry → List PlainEntry → Type 0) → (Fault → Type 0) → Terms
terms rooms policy is_day goes_on may_fail =
    record { rooms = rooms; policy = policy; is_day = is_day; goes_on = goes_on; may_fail = may_fail }

-- ---- what becomes of what is asked for

-- the lookup is answered on the register of all entries seen by then, which may be more than before
pub record IsLookedUp (t : Terms) (head : PlainHead) (lookup : Lookup) (least : ℕ) (before : Standing) (reply : List ℕ)
    (after : Standing) (outcome : Result Answer Fault) : Type 0 where
  pub seen : t.goes_on before.entries after.entries
  pub looked : LooksAt t.rooms (λ board answer. answer ≡ answer_at_least least board.register (lookup_answer t.policy lookup board.register))
      before outcome after
  pub reply_is : reply ≡ look_reply head outcome

-- the request is decided under the policy on a day of the clock
pub record IsSubmitted (t : Terms) (head : PlainHead) (who : List ℕ) (request : Request) (before : Standing) (reply : List ℕ)
    (after : Standing) (day : ℕ) (outcome : Result (Reply × ℕ) Fault) : Type 0 where
  pub today : t.is_day day
  pub decided : Submits t.rooms t.goes_on t.may_fail t.policy day who request before outcome after
  pub reply_is : reply ≡ submit_reply head outcome

-- a message that is settled by itself has its one reply, and nothing moves
abbrev pub IsSettled : List ℕ → Standing → List ℕ → Standing → Type 0
IsSettled text before reply after = (reply ≡ text) × (after ≡ before)

abbrev pub IsReplied : Terms → PlainHead → Ask → Standing → List ℕ → Standing → Type 0
IsReplied t head (Refused code post) before reply after = IsSettled (refusal_reply head code post) before reply after
IsReplied t head (Unread place) before reply after = IsSettled (unread_reply head place) before reply after
IsReplied t head (Look lookup least) before reply after =
    (outcome : Result Answer Fault) × IsLookedUp t head lookup least before reply after outcome
IsReplied t head (Submit who request) before reply after =
    (day : ℕ) × (outcome : Result (Reply × ℕ) Fault) × IsSubmitted t head who request before reply after day outcome

-- ---- turns

-- a message, what it says and asks for, the reply to it, and how far the register had come by then
pub record Turn : Type 0 where
  pub message : PlainMessage
  pub head : PlainHead
  pub ask : Ask
  pub reply : List ℕ
  pub after : Standing

pub record IsTurn (t : Terms) (before : Standing) (turn : Turn) (h : RequestHead) : Type 0 where
  pub reads : IsHead turn.message.head h
  pub head_is : turn.head ≡ plain_head h
  pub asks : Asks t.policy turn.head turn.message.body turn.ask
  pub replied : IsReplied t turn.head turn.ask before turn.reply turn.after

-- one turn after the other, from how far the register had come before to how far it has come after them
abbrev pub AreTurns : Terms → Standing → List Turn → Standing → Type 0
AreTurns t before [] after = after ≡ before
AreTurns t before (turn ∷ turns) after = ((h : RequestHead) × IsTurn t before turn h) × AreTurns t turn.after turns after

abbrev pub messages_of : List Turn → List PlainMessage
messages_of turns = map (λ turn. turn.message) turns

abbrev pub replies_of : List Turn → List ℕ
replies_of turns = flat_map (λ turn. turn.reply) turns

-- the connection ends behind the reply of the turn
abbrev pub closes : Turn → Bool
closes turn = asks_to_close turn.head

-- no turn but the last one ends the connection
abbrev pub OnlyLastCloses : List Turn → Type 0
OnlyLastCloses [] = ⊤
OnlyLastCloses (turn ∷ []) = ⊤
OnlyLastCloses (turn ∷ next ∷ turns) = IsFalse (closes turn) × OnlyLastCloses (next ∷ turns)

abbrev pub last_closes : List Turn → Bool
last_closes [] = false
last_closes (turn ∷ []) = closes turn
last_closes (turn ∷ next ∷ turns) = last_closes (next ∷ turns)

-- the bytes are the messages, one behind the other, and then the rest
abbrev pub AreMessages : List ℕ → List PlainMessage → List ℕ → Type 0
AreMessages bytes [] rest = bytes ≡ rest
AreMessages bytes (m ∷ messages) rest = (more : List ℕ) × BeginsWith bytes m more × AreMessages more messages rest

-- ---- turns while a connection is served

-- the bytes are the messages of the turns and the rest, and the turns follow on one another
pub record AreServed (t : Terms) (before : Standing) (bytes : List ℕ) (turns : List Turn) (rest : List ℕ) (after : Standing) : Type 0 where
  pub messages : AreMessages bytes (messages_of turns) rest
  pub replies : AreTurns t before turns after
  pub open_until_last : OnlyLastCloses turns
