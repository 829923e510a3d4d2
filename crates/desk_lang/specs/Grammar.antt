-- The lines of the desk language: what each means, and where one goes wrong.
use Rattle.std.specs.Prelude.{◌≡◌, ◌≤◌, ℕ, zero, suc, Bool, true, false, ◌==◌, nat_lt, if◌then◌else◌, List, [], ◌∷◌, ◌++◌, length, Option, None, Some, Result, Ok, Err, codes}
use Rattle.std.specs.Str.{bytes_eq}
use Rattle.num_range.specs.Number.{PlainNumber}
use Rattle.num_range.specs.Range.{PlainRange}
use Rattle.addr_text.specs.Reading.{number_of, range_of}
use Rattle.reg_entry.specs.declared.holder.Holder.{Holder}
use Rattle.reg_entry.specs.declared.request.Request.{Request as ARequest}
use Rattle.reg_entry.specs.declared.request.Request.TheVariants.{Receive, AddHolder, EditHolder, Delegate, Reserve, Unreserve, SubAssign, SubReturn, Return, Release, Split, Join, Transfer, SetReverse, ClearReverse}
use Rattle.reg_entry.specs.Cc.{is_cc}
use Rattle.reg_entry.specs.Days.{last_date, day_of_text}
use Rattle.reg_entry.specs.Handle.{is_handle}
use Rattle.reg_entry.specs.Host.{is_host}
use Rattle.reg_entry.specs.Name.{is_name}
use Rattle.reg_entry.specs.Text.{is_text}
use Rattle.reg_entry.specs.Request.{is_request, is_number, IsSizedRequest}
use Rattle.desk_lang.specs.declared.line.Line.{Line}
use Rattle.desk_lang.specs.declared.line.Line.TheVariants.{Request, Show, Due, Day, By, Nothing}
use Rattle.desk_lang.specs.declared.verb.Verb.{Verb}
use Rattle.desk_lang.specs.declared.verb.Verb.TheVariants as verbs
use Rattle.desk_lang.specs.declared.rest.Form.TheVariants.{Plain, Quoted}
use Rattle.desk_lang.specs.declared.rest.Malformed.{Malformed}
use Rattle.desk_lang.specs.Words.{PlainRest, PlainWord, rest_at, first_word, same_form, next_value, at_end, malformed_at, ◌>>=◌}
use Rattle.desk_lang.specs.Values.{label_of, kind_of, space_of, delegation_of, amount_of}

-- ---- what stands behind the first word

-- `RANGE`
unfoldable pub range_line : PlainRest → Result PlainRange Malformed
range_line rest = do
  range ← next_value Plain range_of rest
  at_end range.0 range.1

-- `NUMBER`
unfoldable pub number_line : PlainRest → Result PlainNumber Malformed
number_line rest = do
  number ← next_value Plain number_of rest
  at_end number.0 number.1

-- `RANGE HANDLE`
unfoldable pub range_and_handle : PlainRest → Result (PlainRange × List ℕ) Malformed
range_and_handle rest = do
  range ← next_value Plain range_of rest
  handle ← next_value Plain (label_of is_handle) range.1
  at_end (range.0, handle.0) handle.1

-- `HANDLE KIND CC "NAME" "EMAIL"`
unfoldable pub holder_line : PlainRest → Result Holder Malformed
holder_line rest = do
  handle ← next_value Plain (label_of is_handle) rest
  kind ← next_value Plain kind_of handle.1
  cc ← next_value Plain (label_of is_cc) kind.1
  name ← next_value Quoted (label_of is_text) cc.1
  email ← next_value Quoted (label_of is_text) name.1
  at_end (record { handle = handle.0; kind = kind.0; cc = cc.0; name = name.0; email = email.0 }) email.1

-- `SPACE AMOUNT STATUS HANDLE`
unfoldable pub delegate_line : PlainRest → Result ARequest Malformed
delegate_line rest = do
  space ← next_value Plain space_of rest
  amount ← next_value Plain (amount_of space.0) space.1
  status ← next_value Plain delegation_of amount.1
  handle ← next_value Plain (label_of is_handle) status.1
  at_end (Delegate space.0 amount.0 status.0 handle.0) handle.1

-- `RANGE HANDLE HANDLE`
unfoldable pub transfer_line : PlainRest → Result ARequest Malformed
transfer_line rest = do
  range ← next_value Plain range_of rest
  from ← next_value Plain (label_of is_handle) range.1
  to ← next_value Plain (label_of is_handle) from.1
  at_end (Transfer range.0 from.0 to.0) to.1

-- up to so many hosts more, behind those that came
abbrev pub more_hosts : ℕ → List (List ℕ) → PlainRest → Result (List (List ℕ)) Malformed
more_hosts zero hosts rest = at_end hosts rest
more_hosts (suc room) hosts rest =
    elim (first_word rest) [
      | None ↦ Ok hosts
      | Some word ↦ next_value Plain (label_of is_host) rest >>= λ host. more_hosts room (hosts ++ host.0 ∷ []) host.1
    ]

-- `RANGE HOST`, and up to three hosts more
unfoldable pub reverse_line : PlainRest → Result ARequest Malformed
reverse_line rest = do
  range ← next_value Plain range_of rest
  host ← next_value Plain (label_of is_host) range.1
  hosts ← more_hosts 3 (host.0 ∷ []) host.1
  Ok (SetReverse range.0 hosts)

-- `YYYYMMDD`
unfoldable pub day_line : PlainRest → Result ℕ Malformed
day_line rest = do
  day ← next_value Plain day_of_text rest
  at_end day.0 day.1

-- `NAME`, a hostmaster's
unfoldable pub by_line : PlainRest → Result (List ℕ) Malformed
by_line rest = do
  name ← next_value Plain (label_of is_name) rest
  at_end name.0 name.1

-- ---- the table

abbrev pub verb_of : List ℕ → Option Verb
verb_of word =
    if bytes_eq word (codes "receive") then Some verbs.Receive
    else (if bytes_eq word (codes "holder") then Some verbs.Holder
    else (if bytes_eq word (codes "edit") then Some verbs.Edit
    else (if bytes_eq word (codes "delegate") then Some verbs.Delegate
    else (if bytes_eq word (codes "reserve") then Some verbs.Reserve
    else (if bytes_eq word (codes "unreserve") then Some verbs.Unreserve
    else (if bytes_eq word (codes "sub") then Some verbs.Sub
    else (if bytes_eq word (codes "unsub") then Some verbs.Unsub
    else (if bytes_eq word (codes "return") then Some verbs.Return
    else (if bytes_eq word (codes "release") then Some verbs.Release
    else (if bytes_eq word (codes "split") then Some verbs.Split
    else (if bytes_eq word (codes "join") then Some verbs.Join
    else (if bytes_eq word (codes "transfer") then Some verbs.Transfer
    else (if bytes_eq word (codes "reverse") then Some verbs.Reverse
    else (if bytes_eq word (codes "unreverse") then Some verbs.Unreverse
    else (if bytes_eq word (codes "show") then Some verbs.Show
    else (if bytes_eq word (codes "due") then Some verbs.Due
    else (if bytes_eq word (codes "day") then Some verbs.Day
    else (if bytes_eq word (codes "by") then Some verbs.By else None))))))))))))))))))

-- the request that a value makes
abbrev pub requested : {T : Type 0} → (T → ARequest) → Result T Malformed → Result Line Malformed
requested request value = value >>= λ x. Ok (Request (request x))

abbrev pub line_of_verb : Verb → PlainRest → Result Line Malformed
line_of_verb verbs.Receive rest = requested (λ range. Receive range) (range_line rest)
line_of_verb verbs.Holder rest = requested (λ holder. AddHolder holder) (holder_line rest)
line_of_verb verbs.Edit rest = requested (λ holder. EditHolder holder) (holder_line rest)
line_of_verb verbs.Delegate rest = requested (λ request. request) (delegate_line rest)
line_of_verb verbs.Reserve rest = requested (λ range. Reserve range) (range_line rest)
line_of_verb verbs.Unreserve rest = requested (λ range. Unreserve range) (range_line rest)
line_of_verb verbs.Sub rest = requested (λ p. SubAssign p.0 p.1) (range_and_handle rest)
line_of_verb verbs.Unsub rest = requested (λ range. SubReturn range) (range_line rest)
line_of_verb verbs.Return rest = requested (λ p. Return p.0 p.1) (range_and_handle rest)
line_of_verb verbs.Release rest = requested (λ range. Release range) (range_line rest)
line_of_verb verbs.Split rest = requested (λ at. Split at) (number_line rest)
line_of_verb verbs.Join rest = requested (λ at. Join at) (number_line rest)
line_of_verb verbs.Transfer rest = requested (λ request. request) (transfer_line rest)
line_of_verb verbs.Reverse rest = requested (λ request. request) (reverse_line rest)
line_of_verb verbs.Unreverse rest = requested (λ range. ClearReverse range) (range_line rest)
line_of_verb verbs.Show rest = number_line rest >>= λ number. Ok (Show number)
line_of_verb verbs.Due rest = at_end Due rest
line_of_verb verbs.Day rest = day_line rest >>= λ day. Ok (Day day)
line_of_verb verbs.By rest = by_line rest >>= λ name. Ok (By name)

-- a comment begins with `#`
abbrev pub is_comment : List ℕ → Bool
is_comment [] = false
is_comment (b ∷ bs) = b == 35

-- a line by its first word, which is the verb
abbrev pub line_of_first : PlainWord → Option Verb → Result Line Malformed
line_of_first word None = Err (malformed_at word.place)
line_of_first word (Some verb) = line_of_verb verb word.behind

abbrev pub line_of_word : Option PlainWord → Result Line Malformed
line_of_word None = Ok Nothing
line_of_word (Some word) =
    if same_form word.form Plain
    then (if is_comment word.bytes then Ok Nothing else line_of_first word (verb_of word.bytes))
    else Err (malformed_at word.place)

-- a Delegate asks for an amount that has a size
abbrev pub IsSizedLine : Line → Type 0
IsSizedLine (Request request) = IsSizedRequest request
IsSizedLine line = Unit {0}

-- the ranges and numbers that a line names are those of their spaces
abbrev pub IsValidLine : Line → Type 0
IsValidLine (Request request) = (is_request request ≡ true) × IsSizedRequest request
IsValidLine (Show n) = is_number n ≡ true
IsValidLine line = Unit {0}

-- a day that is named is one of the calendar's from 1970-01-02 on
abbrev pub IsDatedLine : Line → Type 0
IsDatedLine (Day day) = (1 ≤ day) × (day ≤ last_date)
IsDatedLine line = Unit {0}

-- a line, of which 1,024 bytes are read
abbrev pub line_of : List ℕ → Result Line Malformed
line_of text = if nat_lt 1024 (length text) then Err (malformed_at 1025) else line_of_word (first_word (rest_at 1 text))
