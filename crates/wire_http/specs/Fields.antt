-- The header lines of a head, by their names (RFC 9110 5.1, 5.5).
use Rattle.std.specs.Prelude.{ℕ, ◌==◌, Bool, false, ◌||◌, ◌-◌, ◌^◌, if◌then◌else◌, List, [], ◌∷◌, take, drop, codes, Option, None, Some}
use Rattle.std.specs.Str.{str_eq_ignore_ascii_case}
use Rattle.addr_text.specs.Reading.{decimal_up_to}
use Rattle.wire_http.specs.Head.{PlainHead}

-- the values of the header lines of a name, which is compared without case
abbrev pub values_named : List ℕ → List (List ℕ × List ℕ) → List (List ℕ)
values_named name [] = []
values_named name (field ∷ fields) =
    if str_eq_ignore_ascii_case field.0 name then field.1 ∷ values_named name fields else values_named name fields

-- how often a name occurs, and its value where that is once
pub data Occurs : Type 0 where
  Never Repeated : Occurs
  Once : List ℕ → Occurs

abbrev pub occurs_of : List (List ℕ) → Occurs
occurs_of [] = Never
occurs_of (value ∷ []) = Once value
occurs_of (first ∷ second ∷ more) = Repeated

abbrev pub field : List ℕ → PlainHead → Occurs
field name head = occurs_of (values_named name head.fields)

-- ---- Connection (RFC 9110 7.6.1, RFC 9112 9.3)

-- the one value is `close`, in any case
abbrev pub is_close : Occurs → Bool
is_close Never = false
is_close (Once value) = str_eq_ignore_ascii_case value (codes "close")
is_close Repeated = false

-- the connection ends behind this message: it is HTTP/1.0, or its one Connection line says so
abbrev pub asks_to_close : PlainHead → Bool
asks_to_close head = (head.minor == 0) || is_close (field (codes "Connection") head)

-- ---- Authorization (RFC 9110 11.6.2, RFC 6750 2.1)

-- the key behind the scheme, which is compared without case, and one blank
abbrev pub bearer_key : List ℕ → Option (List ℕ)
bearer_key value = if str_eq_ignore_ascii_case (take 7 value) (codes "Bearer ") then Some (drop 7 value) else None

abbrev pub only_key : Occurs → Option (List ℕ)
only_key Never = None
only_key (Once value) = bearer_key value
only_key Repeated = None

-- the key of the one line, where it has one
abbrev pub key_of : PlainHead → Option (List ℕ)
key_of head = only_key (field (codes "Authorization") head)

-- ---- Register-At-Least

-- how many entries are asked for: none where no line asks, and else the one line's number, which has 64 bits and is
-- written without sign or leading zero; nothing where that is bad
abbrev pub only_number : Occurs → Option ℕ
only_number Never = Some 0
only_number (Once value) = decimal_up_to (2 ^ 64 - 1) value
only_number Repeated = None

abbrev pub at_least_of : PlainHead → Option ℕ
at_least_of head = only_number (field (codes "Register-At-Least") head)
