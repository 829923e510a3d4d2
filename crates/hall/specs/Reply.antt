-- The bytes of a reply (RFC 9110 6, RFC 9112 2.1).
use Rattle.std.specs.Prelude.{◌≢◌, ℕ, Bool, true, false, if◌then◌else◌, List, [], ◌++◌, Option, None, Some, Result, Ok, Err, IsTrue, length, bytes_eq, codes}
use Rattle.reg_entry.specs.declared.entry.Reply.{Reply}
use Rattle.reg_entry.specs.declared.entry.Reply.TheVariants.{Refused}
use Rattle.reg_entry.specs.declared.refusal.Refusal.TheVariants.{Malformed}
use Rattle.board.specs.declared.lens.Answer.{Answer}
use Rattle.board.specs.declared.lens.Media.{Media}
use Rattle.board.specs.declared.lens.Media.TheVariants.{Json, Plain}
use Rattle.desk_text.specs.ReplyText.{reply_text}
use Rattle.wire_http.specs.Head.{PlainHead}
use Rattle.wire_http.specs.Fields.{asks_to_close}
use Rattle.wire_http.specs.Reply.{head_text, is_reply_code}
use Rattle.wire_http.specs.ErrorBody.{error_text}
use Rattle.hall.specs.declared.backend.Fault.{Fault}
use Rattle.hall.specs.Standing.{fault_code, is_shut}

-- ---- replies to messages

-- only the head of the reply is wanted (RFC 9110 9.3.2)
abbrev pub is_head_only : PlainHead → Bool
is_head_only head = bytes_eq head.method (codes "HEAD")

unfoldable pub reply_to : PlainHead → ℕ → Bool → Bool → Option ℕ → List ℕ → List ℕ
reply_to head code json post serial body =
    head_text (record { code = code; json = json; length = length body; serial = serial; post = post; close = asks_to_close head })
    ++ (if is_head_only head then [] else body)

-- the reply that refuses a message; where the method is the wrong one, `post` says which are right
unfoldable pub refusal_reply : PlainHead → ℕ → Bool → List ℕ
refusal_reply head code post = reply_to head code true post None (error_text code 0 false)

-- the reply that tells of a fault
unfoldable pub fault_reply : PlainHead → Fault → List ℕ
fault_reply head fault = reply_to head (fault_code fault) true false None (error_text (fault_code fault) 0 (is_shut fault))

abbrev pub is_json : Media → Bool
is_json Json = true
is_json Plain = false

abbrev pub answer_reply : PlainHead → Answer → List ℕ
answer_reply head answer = reply_to head answer.status (is_json answer.media) false (Some answer.entries) answer.body

-- a line of the desk, with the count of entries where a request was decided
abbrev pub line_reply : PlainHead → Option ℕ → Reply → List ℕ
line_reply head serial reply = reply_to head 200 false false serial (reply_text reply ++ codes "\n")

-- the line of a text that is no request
abbrev pub unread_reply : PlainHead → ℕ → List ℕ
unread_reply head place = line_reply head None (Refused (Malformed place))

abbrev pub look_reply : PlainHead → Result Answer Fault → List ℕ
look_reply head (Ok answer) = answer_reply head answer
look_reply head (Err fault) = fault_reply head fault

abbrev pub submit_reply : PlainHead → Result (Reply × ℕ) Fault → List ℕ
submit_reply head (Ok answer) = line_reply head (Some answer.1) answer.0
submit_reply head (Err fault) = fault_reply head fault

-- ---- the reply to what is no message, which ends the connection

unfoldable pub closing_reply : ℕ → List ℕ
closing_reply code =
    head_text (record { code = code; json = true; length = length (error_text code 0 false); serial = None; post = false; close = true })
    ++ error_text code 0 false

-- ---- codes

-- a code that replies have, and whose body tells of an error
pub record IsErrorCode (code : ℕ) : Type 0 where
  pub known : IsTrue (is_reply_code code)
  pub error : code ≢ 200
