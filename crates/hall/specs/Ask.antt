-- What a message asks for, or the code of the reply that refuses it.
use Rattle.std.specs.Prelude.{◌≡◌, ℕ, ⊤, ◌||◌, Bool, true, false, if◌then◌else◌, List, [], ◌∷◌, Option, None, Some, Result, Ok, Err, bytes_eq, codes}
use Rattle.std.specs.Option.{option_and_then}
use Rattle.reg_entry.specs.Policy.{PlainPolicy}
use Rattle.policy_table.specs.Policy.{hostmaster_with}
use Rattle.desk_lang.specs.declared.line.Line.{Line}
use Rattle.desk_lang.specs.declared.line.Line.TheVariants.{Request}
use Rattle.desk_lang.specs.declared.rest.Malformed.{Malformed}
use Rattle.desk_lang.specs.Grammar.{line_of}
use Rattle.wire_http.specs.Head.{PlainHead}
use Rattle.wire_http.specs.Fields.{at_least_of, key_of}
use Rattle.hall.specs.declared.ask.Ask.{Ask}
use Rattle.hall.specs.declared.ask.Ask.TheVariants.{Refused, Look, Submit, Unread}
use Rattle.hall.specs.declared.lookup.Lookup.{Lookup}
use Rattle.hall.specs.Path.{path_of, segments_of, is_lookup_name, is_desk_name}
use Rattle.hall.specs.Lookup.{IsNamed}
use Rattle.hall.specs.Line.{without_line_end}
use Rattle.hall.specs.Reply.{IsErrorCode}

-- the method asks for what is there (RFC 9110 9.3.1, 9.3.2)
abbrev pub is_reading : PlainHead → Bool
is_reading head = bytes_eq head.method (codes "GET") || bytes_eq head.method (codes "HEAD")

abbrev pub is_posting : PlainHead → Bool
is_posting head = bytes_eq head.method (codes "POST")

-- ---- lookups

abbrev pub look_up : Option Lookup → Option ℕ → Ask
look_up (Some lookup) (Some least) = Look lookup least
look_up (Some lookup) None = Refused 400 false
look_up None least = Refused 400 false

abbrev pub lookup_ask : PlainHead → Option Lookup → Ask
lookup_ask head named = if is_reading head then look_up named (at_least_of head) else Refused 405 false

-- ---- the desk

-- only requests are submitted; every other line is read as one that is none from its first byte on
abbrev pub line_ask : List ℕ → Result Line Malformed → Ask
line_ask who (Ok (Request request)) = Submit who request
line_ask who (Ok line) = Unread 1
line_ask who (Err fault) = Unread fault.place

abbrev pub keyed_ask : List ℕ → Option (List ℕ) → Ask
keyed_ask body None = Refused 401 false
keyed_ask body (Some who) = line_ask who (line_of (without_line_end body))

abbrev pub desk_ask : PlainPolicy → PlainHead → List ℕ → Bool → Ask
desk_ask policy head body is_whole_path =
    if is_posting head then
    (if is_whole_path then keyed_ask body (option_and_then (hostmaster_with policy) (key_of head)) else Refused 400 false)
    else Refused 405 true

-- ---- messages

abbrev pub is_none_behind : List (List ℕ) → Bool
is_none_behind [] = true
is_none_behind (second ∷ more) = false

-- what is asked for under a first segment, which is the desk's name or that of a lookup, where more follow
abbrev pub AsksUnder : PlainPolicy → PlainHead → List ℕ → List ℕ → List (List ℕ) → Bool → Bool → Ask → Type 0
AsksUnder policy head body first more true is_lookup ask = ask ≡ desk_ask policy head body (is_none_behind more)
AsksUnder policy head body first more false true ask =
    (named : Option Lookup) × IsNamed (first ∷ more) named × (ask ≡ lookup_ask head named)
AsksUnder policy head body first more false false ask = ask ≡ Refused 404 false

-- of a path that begins with a slash; the others are refused
abbrev pub AsksAt : PlainPolicy → PlainHead → List ℕ → Option (List (List ℕ)) → Ask → Type 0
AsksAt policy head body None ask = ask ≡ Refused 400 false
AsksAt policy head body (Some []) ask = ask ≡ Refused 404 false
AsksAt policy head body (Some (first ∷ more)) ask =
    AsksUnder policy head body first more (is_desk_name first) (is_lookup_name first) ask

-- the message of this head and body asks for this
abbrev pub Asks : PlainPolicy → PlainHead → List ℕ → Ask → Type 0
Asks policy head body ask = AsksAt policy head body (segments_of (path_of head.target)) ask

-- a refusal has the code of an error
abbrev pub HasErrorCode : Ask → Type 0
HasErrorCode (Refused code post) = IsErrorCode code
HasErrorCode (Look lookup least) = ⊤
HasErrorCode (Submit who request) = ⊤
HasErrorCode (Unread place) = ⊤
