-- How a framer's bytes come and go, and that the messages don't depend on it.
use Rattle.std.specs.Prelude.{◌≡◌, Bool, false, ℕ, List, [], ◌∷◌, ◌++◌, IsTrue}
use Rattle.wire_http.specs.Messages.{PlainMessage, BeginsWith, Behind, Fault, IsFault, AreMessagesOf}

-- bytes came behind those that were there, or the message at the front was given
pub data Event : Type 0 where
  Came : List ℕ → Event
  Gave : PlainMessage → Event

-- the events lead from these bytes to those
abbrev pub Leads : List Event → List ℕ → List ℕ → Type 0
Leads [] before after = after ≡ before
Leads (Came piece ∷ events) before after = Leads events (before ++ piece) after
Leads (Gave m ∷ events) before after = (rest : List ℕ) × BeginsWith before m rest × Leads events rest after

-- all that came
abbrev pub came : List Event → List ℕ
came [] = []
came (Came piece ∷ events) = piece ++ came events
came (Gave m ∷ events) = came events

-- all that was given
abbrev pub given : List Event → List PlainMessage
given [] = []
given (Came piece ∷ events) = given events
given (Gave m ∷ events) = m ∷ given events

-- the messages of bytes are one list; of bytes that have ended one thing stands behind them, and of others at most one fault
abbrev pub MessagesAreUnique : Type 0
MessagesAreUnique =
    (bytes : List ℕ) (ended : Bool) (ms ns : List PlainMessage) (y z : Behind)
    → AreMessagesOf bytes ended ms y → AreMessagesOf bytes ended ns z
    → (ms ≡ ns) × (IsTrue ended → y ≡ z) × ((c d : ℕ) → y ≡ Fault c → z ≡ Fault d → c ≡ d)

-- a fault stays, whatever comes behind it, and whether or not the input ends
abbrev pub FaultsStay : Type 0
FaultsStay =
    (bytes more : List ℕ) (ended : Bool) (code : ℕ) → IsFault bytes false code → IsFault (bytes ++ more) ended code

-- the messages that were given, with those of what is left, are the messages of all that came
abbrev pub PiecesDoNotMatter : Type 0
PiecesDoNotMatter =
    (events : List Event) (left : List ℕ) (ended : Bool) (messages : List PlainMessage) (behind : Behind)
    → Leads events [] left → AreMessagesOf left ended messages behind → AreMessagesOf (came events) ended (given events ++ messages) behind
