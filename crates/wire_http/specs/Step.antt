-- What one step of a framer says of the bytes that have come.
use Rattle.std.specs.Prelude.{◌≡◌, ℕ, ◌+◌, Bool, List, length, take, drop, Result}
use Rattle.httparse.specs.Grammar.{RequestHead, print_request}
use Rattle.wire_http.specs.declared.message.Message.{Message}
use Rattle.wire_http.specs.declared.message.Step.{Step}
use Rattle.wire_http.specs.declared.message.Step.TheVariants as step
use Rattle.wire_http.specs.Head.{ReadsHead, plain_head}
use Rattle.wire_http.specs.Body.{body_length}
use Rattle.wire_http.specs.Messages.{PlainMessage, BeginsWith, Ends, Unfinished, Fault, StandsBehind}

-- the message of these lengths at the front
abbrev pub message_at : List ℕ → Message → PlainMessage
message_at bytes m = record { head = take m.head bytes; body = take m.body (drop m.head bytes) }

abbrev pub rest_behind : List ℕ → Message → List ℕ
rest_behind bytes m = drop (m.head + m.body) bytes

pub record AreLengthsOf (m : Message) (message : PlainMessage) : Type 0 where
  pub head : m.head ≡ length message.head
  pub body : m.body ≡ length message.body

-- a message of these lengths stands at the front
pub record IsFirstMessage (m : Message) (bytes : List ℕ) : Type 0 where
  pub lengths : AreLengthsOf m (message_at bytes m)
  pub begins : BeginsWith bytes (message_at bytes m) (rest_behind bytes m)

-- the message at the front, or what stands there where the bytes have no whole one
abbrev pub IsFirst : Step → List ℕ → Bool → Type 0
IsFirst (step.Message m) bytes ended = IsFirstMessage m bytes
IsFirst step.More bytes ended = StandsBehind bytes ended Unfinished
IsFirst (step.Bad code) bytes ended = StandsBehind bytes ended (Fault code)
IsFirst step.End bytes ended = StandsBehind bytes ended Ends

-- a head of so many bytes stands at the front, and says this of its body
pub record HasHead (bytes : List ℕ) (size : ℕ) (body : Result ℕ ℕ) (h : RequestHead) : Type 0 where
  pub reads : ReadsHead bytes h (drop size bytes)
  pub size_is : size ≡ length (print_request h)
  pub body_is : body ≡ body_length (plain_head h)
