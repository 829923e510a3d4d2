-- What the lines of a script make of the register, and what each is answered.
use Rattle.std.specs.Prelude.{ℕ, max, List, [], ◌∷◌, ◌++◌, Option, None, Some, Result, Ok, Err, codes}
use Rattle.std.specs.Str.Lines.{lines}
use Rattle.reg_entry.specs.declared.entry.Reply.{Reply}
use Rattle.reg_entry.specs.declared.entry.Reply.TheVariants.{Accepted, Refused}
use Rattle.reg_entry.specs.declared.piece.Piece.{Piece}
use Rattle.reg_entry.specs.declared.refusal.Refusal.TheVariants as refusals
use Rattle.reg_entry.specs.declared.request.Request.{Request as ARequest}
use Rattle.reg_entry.specs.declared.rooms.Rooms.{Rooms}
use Rattle.reg_entry.specs.Days.{clamped_day}
use Rattle.reg_entry.specs.Decision.{decision}
use Rattle.reg_entry.specs.Entry.{PlainEntry}
use Rattle.reg_entry.specs.Holders.{handle_of}
use Rattle.reg_entry.specs.Policy.{PlainPolicy}
use Rattle.reg_entry.specs.Register.{Register, register_after, after_entry, piece_of}
use Rattle.quarantine.specs.Due.{due_pieces}
use Rattle.desk_lang.specs.declared.line.Line.{Line}
use Rattle.desk_lang.specs.declared.line.Line.TheVariants.{Request, Show, Due, Day, By, Nothing}
use Rattle.desk_lang.specs.declared.rest.Malformed.{Malformed}
use Rattle.desk_lang.specs.Grammar.{line_of}
use Rattle.desk_text.specs.DueText.{due_text}
use Rattle.desk_text.specs.ReplyText.{reply_text}
use Rattle.desk_text.specs.ShownText.{none_text, piece_text}

-- ---- the session

-- how much a script's register may keep
abbrev pub rooms : Rooms
rooms = record { pieces = 262144; holders = 65536; subs = 262144; reverse = 65536; entries = 1000000; window = 65536 }

-- the register that the lines have built, the policy by which they are decided, and on which day which hostmaster asks
pub record PlainSession : Type 0 where
  pub register : Register
  pub policy : PlainPolicy
  pub day : ℕ
  pub who : List ℕ

-- the session over the register of a list of entries that begins on a clock's day
abbrev pub session_over : List PlainEntry → PlainPolicy → ℕ → PlainSession
session_over es policy day = record { register = register_after rooms es; policy = policy; day = clamped_day day; who = codes "local" }

-- the session over the empty register
abbrev pub new_session : PlainPolicy → ℕ → PlainSession
new_session policy day = session_over [] policy day

abbrev pub with_register : PlainSession → Register → PlainSession
with_register s register = record { register = register; policy = s.policy; day = s.day; who = s.who }

abbrev pub on_day : PlainSession → ℕ → PlainSession
on_day s day = record { register = s.register; policy = s.policy; day = day; who = s.who }

abbrev pub by_name : PlainSession → List ℕ → PlainSession
by_name s who = record { register = s.register; policy = s.policy; day = s.day; who = who }

-- ---- requests

-- what becomes of a request
abbrev pub decided : PlainSession → ARequest → Reply
decided s request = decision s.register s.policy s.day s.who request

-- the session after a reply: an accepted entry joins the register
abbrev pub after_reply : PlainSession → Reply → PlainSession
after_reply s (Accepted e) = with_register s (after_entry s.register e)
after_reply s (Refused refusal) = s

-- ---- questions

-- the piece, with its holder's handle, where one holds the number
abbrev pub shown_text : Register → Option Piece → List ℕ
shown_text r None = none_text
shown_text r (Some piece) = piece_text piece (handle_of r.holders piece.card.holder)

-- the pieces whose quarantine ends by the session's day, or by that of the last entry where it is later
abbrev pub pieces_due : PlainSession → List Piece
pieces_due s = due_pieces s.register.pool (max s.day s.register.last_day)

-- ---- lines

-- the session after a line, and the text that answers it: none where it asks for nothing
pub record Step : Type 0 where
  pub session : PlainSession
  pub text : List ℕ

abbrev pub replied : PlainSession → Reply → Step
replied s reply = record { session = after_reply s reply; text = reply_text reply ++ codes "\n" }

abbrev pub told : PlainSession → List ℕ → Step
told s text = record { session = s; text = text }

abbrev pub silent : PlainSession → Step
silent s = record { session = s; text = [] }

abbrev pub step_of : PlainSession → Result Line Malformed → Step
step_of s (Err fault) = replied s (Refused (refusals.Malformed fault.place))
step_of s (Ok (Request request)) = replied s (decided s request)
step_of s (Ok (Show n)) = told s (shown_text s.register (piece_of s.register.pool n) ++ codes "\n")
step_of s (Ok Due) = told s (due_text (pieces_due s))
step_of s (Ok (Day day)) = silent (on_day s day)
step_of s (Ok (By name)) = silent (by_name s name)
step_of s (Ok Nothing) = silent s

abbrev pub answered : PlainSession → List ℕ → Step
answered s line = step_of s (line_of line)

-- ---- scripts

-- the answers to lines, one after the other
abbrev pub replies : PlainSession → List (List ℕ) → List ℕ
replies s [] = []
replies s (line ∷ more) = (answered s line).text ++ replies (answered s line).session more

-- the session after lines
abbrev pub session_after : PlainSession → List (List ℕ) → PlainSession
session_after s [] = s
session_after s (line ∷ more) = session_after (answered s line).session more

-- the answers to the lines of a text
abbrev pub replies_to : PlainSession → List ℕ → List ℕ
replies_to s text = replies s (lines text)

-- the session after the lines of a text
abbrev pub after_text : PlainSession → List ℕ → PlainSession
after_text s text = session_after s (lines text)

-- what is written for a script under a policy, on a clock's day
abbrev pub batch_text : PlainPolicy → ℕ → List ℕ → List ℕ
batch_text policy day script = replies_to (new_session policy day) script

-- ---- entries

abbrev pub entries_of_reply : Reply → List PlainEntry
entries_of_reply (Accepted e) = e ∷ []
entries_of_reply (Refused refusal) = []

-- the entry that a line's request becomes, where it is accepted
abbrev pub entries_of_line : PlainSession → Result Line Malformed → List PlainEntry
entries_of_line s (Ok (Request request)) = entries_of_reply (decided s request)
entries_of_line s line = []

-- the entries of lines, in their order
abbrev pub accepted_entries : PlainSession → List (List ℕ) → List PlainEntry
accepted_entries s [] = []
accepted_entries s (line ∷ more) = entries_of_line s (line_of line) ++ accepted_entries (answered s line).session more

-- a list of entries, and then those that lines become over its register
abbrev pub entries_after : List PlainEntry → PlainPolicy → ℕ → List (List ℕ) → List PlainEntry
entries_after es policy day lines = es ++ accepted_entries (session_over es policy day) lines

-- the register that lines make of that of a list of entries
abbrev pub register_over : List PlainEntry → PlainPolicy → ℕ → List (List ℕ) → Register
register_over es policy day lines = (session_after (session_over es policy day) lines).register
