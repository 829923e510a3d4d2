-- What is read and written on one connection.
use Rattle.std.specs.Prelude.{◌≡◌, ℕ, ◌⊎◌, Bool, false, List, [], ◌++◌, Option, IsTrue, IsFalse, length}
use Rattle.std.specs.Io.KnownBytes.{Appends, Consumes}
use Rattle.link_face.specs.Bytes.{AppendsPrefix}
use Rattle.wire_http.specs.declared.message.ConnEnd.{ConnEnd}
use Rattle.wire_http.specs.declared.message.ConnEnd.TheVariants.{Closed, ReadFault, WriteFault, NoMemory, Shut}
use Rattle.wire_http.specs.Messages.{Behind, StandsBehind}
use Rattle.wire_http.specs.Messages.Behind.{Ends, Unfinished, Fault}
use Rattle.hall.specs.Standing.{Standing}
use Rattle.hall.specs.Turn.{Terms, Turn, AreTurns, messages_of, replies_of, OnlyLastCloses, last_closes, AreMessages}
use Rattle.hall.specs.Prefixes.{AreOnPrefixes, BeginsWithSeen}
use Rattle.hall.specs.Reply.{closing_reply}

-- what a link tells: the bytes read so far, those that are left, and those written
pub record Known : Type 0 where
  pub taken : Option (List ℕ)
  pub left : Option (List ℕ)
  pub written : Option (List ℕ)

abbrev pub known : Option (List ℕ) → Option (List ℕ) → Option (List ℕ) → Known
known taken left written = record { taken = taken; left = left; written = written }

-- ---- how it ends

-- where the bytes that came have ended or never will be a message, and this is said then: nothing at the end, and to a
-- fault the reply of its code
abbrev pub IsLastWord : Behind → List ℕ → Type 0
IsLastWord Ends text = text ≡ []
IsLastWord (Fault code) text = text ≡ closing_reply code
IsLastWord Unfinished text = ⊥

-- what stands behind the last message, and whether the input had ended
pub record IsLastOf (has_ended : Type 0) (rest text : List ℕ) (behind : Behind) (ended : Bool) : Type 0 where
  pub stands : StandsBehind rest ended behind
  pub end : IsTrue ended → has_ended
  pub word : IsLastWord behind text

-- behind the replies nothing is said where the last message ended the connection, and else the last word
abbrev pub IsClosing : Type 0 → List Turn → List ℕ → List ℕ → Type 0
IsClosing has_ended turns rest text =
    (IsTrue (last_closes turns) × (text ≡ []))
    ⊎ (IsFalse (last_closes turns) × ((behind : Behind) × (ended : Bool) × IsLastOf has_ended rest text behind ended))

-- Closed: every message was answered up to the one that ended the connection, or up to the end of the input or a fault of
-- it, and all was written. A read fault: every message that had come was answered, and all was written. A write fault: a
-- front was written of the replies, or of them and the last word.
abbrev pub EndsAs : ConnEnd → Type 0 → List Turn → List ℕ → Option (List ℕ) → Option (List ℕ) → Type 0
EndsAs Closed has_ended turns rest before after =
    (text : List ℕ) × IsClosing has_ended turns rest text × Appends before after (replies_of turns ++ text)
EndsAs ReadFault has_ended turns rest before after =
    IsFalse (last_closes turns) × StandsBehind rest false Unfinished × Appends before after (replies_of turns)
EndsAs WriteFault has_ended turns rest before after =
    AppendsPrefix before after (replies_of turns)
    ⊎ ((text : List ℕ) × IsClosing has_ended turns rest text × AppendsPrefix before after (replies_of turns ++ text))
EndsAs NoMemory has_ended turns rest before after = ⊥
EndsAs Shut has_ended turns rest before after = ⊥

-- ---- the whole

-- The bytes that came are the messages of the turns, in order, and a rest. The turns follow on one another, and are
-- answered on rising prefixes of the entries seen at the end, of which those seen before are the first. No message but the
-- last ends the connection. What was written is the replies to the messages, and what is said at the end.
pub record Conversation (t : Terms) (before : Standing) (old : Known) (end : ConnEnd) (has_ended : Type 0) (new : Known) (after : Standing)
    (came : List ℕ) (turns : List Turn) (rest : List ℕ) : Type 0 where
  pub taken : Appends old.taken new.taken came
  pub left : Consumes old.left new.left came
  pub messages : AreMessages came (messages_of turns) rest
  pub replies : AreTurns t before turns after
  pub prefixes : AreOnPrefixes (length before.entries) turns after.entries
  pub kept : BeginsWithSeen before.entries after.entries
  pub open_until_last : OnlyLastCloses turns
  pub ends : EndsAs end has_ended turns rest old.written new.written

abbrev pub HasConversation : Terms → Standing → Known → ConnEnd → Type 0 → Known → Standing → Type 0
HasConversation t before old end has_ended new after =
    (came : List ℕ) × (turns : List Turn) × (rest : List ℕ) × Conversation t before old end has_ended new after came turns rest
