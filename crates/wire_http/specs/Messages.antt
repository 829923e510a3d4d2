-- The messages at the front of bytes, and what stands behind them (RFC 9112 2.1, 6). They are defined over the bytes
-- alone: how these came plays no part.
use Rattle.std.specs.Prelude.{◌≡◌, ◌≢◌, ℕ, ◌<◌, ◌⊎◌, Bool, List, [], ◌∷◌, ◌++◌, length, IsTrue, IsFalse, Result, Ok, Err}
use Rattle.httparse.specs.Grammar.{RequestHead}
use Rattle.wire_http.specs.Head.{ReadsHead, IsHead, HasNoHead, NeverHasHead, plain_head}
use Rattle.wire_http.specs.Body.{body_length}

pub record PlainMessage : Type 0 where
  pub head : List ℕ
  pub body : List ℕ

-- a head whose body is served, and as many bytes behind it as the head says
abbrev pub IsMessage : PlainMessage → Type 0
IsMessage m = (h : RequestHead) × IsHead m.head h × (body_length (plain_head h) ≡ Ok (length m.body))

-- the bytes are the message and then the rest
pub record BeginsWith (bytes : List ℕ) (m : PlainMessage) (rest : List ℕ) : Type 0 where
  pub whole : bytes ≡ m.head ++ (m.body ++ rest)
  pub message : IsMessage m

-- what stands behind the last message
pub data Behind : Type 0 where
  Ends Unfinished : Behind
  Fault : ℕ → Behind

-- there is something, but no head at its front, and no bytes that may still come change that
pub record HasBadHead (bytes : List ℕ) (ended : Bool) : Type 0 where
  pub some : bytes ≢ []
  pub none : HasNoHead bytes
  pub for_good : IsTrue ended ⊎ NeverHasHead bytes

-- of a head's body so many bytes are wanted, or it isn't served: the reply's code, where the bytes behind the head are these
abbrev pub IsBadBody : Result ℕ ℕ → List ℕ → Bool → ℕ → Type 0
IsBadBody (Ok size) rest ended code = (length rest < size) × IsTrue ended × (code ≡ 400)
IsBadBody (Err refused) rest ended code = code ≡ refused

abbrev pub HasBadBody : List ℕ → Bool → ℕ → Type 0
HasBadBody bytes ended code =
    (h : RequestHead) × (rest : List ℕ) × ReadsHead bytes h rest × IsBadBody (body_length (plain_head h)) rest ended code

abbrev pub IsFault : List ℕ → Bool → ℕ → Type 0
IsFault bytes ended code = (HasBadHead bytes ended × (code ≡ 400)) ⊎ HasBadBody bytes ended code

-- more of the body has to come
abbrev pub IsShortBody : Result ℕ ℕ → List ℕ → Type 0
IsShortBody (Ok size) rest = length rest < size
IsShortBody (Err refused) rest = ⊥

abbrev pub HasShortBody : List ℕ → Type 0
HasShortBody bytes = (h : RequestHead) × (rest : List ℕ) × ReadsHead bytes h rest × IsShortBody (body_length (plain_head h)) rest

-- more may come: the head isn't there, and less than the longest one has come, or the body isn't
pub record IsUnfinished (bytes : List ℕ) (ended : Bool) : Type 0 where
  pub open_ended : IsFalse ended
  pub part : (HasNoHead bytes × (length bytes < 8192)) ⊎ HasShortBody bytes

abbrev pub StandsBehind : List ℕ → Bool → Behind → Type 0
StandsBehind bytes ended Ends = (bytes ≡ []) × IsTrue ended
StandsBehind bytes ended Unfinished = IsUnfinished bytes ended
StandsBehind bytes ended (Fault code) = IsFault bytes ended code

-- the bytes, which have ended or not, are these messages, and this stands behind them
abbrev pub AreMessagesOf : List ℕ → Bool → List PlainMessage → Behind → Type 0
AreMessagesOf bytes ended [] behind = StandsBehind bytes ended behind
AreMessagesOf bytes ended (m ∷ messages) behind =
    (rest : List ℕ) × BeginsWith bytes m rest × AreMessagesOf rest ended messages behind
