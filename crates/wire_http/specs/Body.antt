-- How long the body behind a head is (RFC 9112 6.3, RFC 9110 8.6).
use Rattle.std.specs.Prelude.{ℕ, ◌-◌, ◌^◌, Bool, nat_le, if◌then◌else◌, codes, Option, None, Some, Result, Ok, Err}
use Rattle.std.specs.Str.{bytes_eq}
use Rattle.addr_text.specs.Reading.{decimal_up_to}
use Rattle.wire_http.specs.Head.{PlainHead}
use Rattle.wire_http.specs.Fields.{Occurs, Never, Once, Repeated, field}

-- the length, or the code of the reply that refuses it: what is no number of 32 bits, and what is above 4,096
abbrev pub served_length : Option ℕ → Result ℕ ℕ
served_length None = Err 400
served_length (Some length) = if nat_le length 4096 then Ok length else Err 413

-- where no line gives the length, a POST is refused, and the body of any other request is empty
abbrev pub given_length : Bool → Occurs → Result ℕ ℕ
given_length is_post Never = if is_post then Err 411 else Ok 0
given_length is_post (Once value) = served_length (decimal_up_to (2 ^ 32 - 1) value)
given_length is_post Repeated = Err 400

-- no transfer coding is served
abbrev pub uncoded_length : Occurs → Result ℕ ℕ → Result ℕ ℕ
uncoded_length Never length = length
uncoded_length (Once coding) length = Err 400
uncoded_length Repeated length = Err 400

-- the length of the body, or the code of the reply to a head whose body isn't served
abbrev pub body_length : PlainHead → Result ℕ ℕ
body_length head =
    uncoded_length (field (codes "Transfer-Encoding") head)
    (given_length (bytes_eq head.method (codes "POST")) (field (codes "Content-Length") head))
