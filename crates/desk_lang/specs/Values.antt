-- What the words of a line stand for: the value, or nothing where the word isn't of the form.
use Rattle.std.specs.Prelude.{ℕ, ◌-◌, ◌^◌, Bool, ◌==◌, if◌then◌else◌, List, [], ◌∷◌, Option, None, Some}
use Rattle.std.specs.Option.{option_and_then}
use Rattle.std.specs.Str.{bytes_eq}
use Rattle.num_range.specs.declared.space.Space.{Space}
use Rattle.num_range.specs.declared.space.Space.TheVariants.{Asn, Ipv4, Ipv6}
use Rattle.addr_text.specs.Reading.{decimal_up_to}
use Rattle.reg_entry.specs.declared.card.Status.TheVariants.{Allocated, Assigned}
use Rattle.reg_entry.specs.declared.kind.Kind.{Kind}
use Rattle.reg_entry.specs.declared.kind.Kind.TheVariants.{Lir, EndUser}
use Rattle.reg_entry.specs.declared.request.Delegation.{Delegation}
use Rattle.reg_entry.specs.declared.request.Delegation.TheVariants.{Allocate, Assign}
use Rattle.reg_entry.specs.Request.{has_size}
use Rattle.desk_text.specs.Vocabulary.{space_word, kind_word, status_word}

-- the bytes themselves, where they are of a form
abbrev pub label_of : (List ℕ → Bool) → List ℕ → Option (List ℕ)
label_of is_form bytes = if is_form bytes then Some bytes else None

abbrev pub kind_of : List ℕ → Option Kind
kind_of word =
    if bytes_eq word (kind_word Lir) then Some Lir else (if bytes_eq word (kind_word EndUser) then Some EndUser else None)

abbrev pub space_of : List ℕ → Option Space
space_of word =
    if bytes_eq word (space_word Asn) then Some Asn
    else (if bytes_eq word (space_word Ipv4) then Some Ipv4 else (if bytes_eq word (space_word Ipv6) then Some Ipv6 else None))

-- the status of a delegation
abbrev pub delegation_of : List ℕ → Option Delegation
delegation_of word =
    if bytes_eq word (status_word Allocated) then Some Allocate
    else (if bytes_eq word (status_word Assigned) then Some Assign else None)

abbrev pub decimal_of : List ℕ → Option ℕ
decimal_of = decimal_up_to (2 ^ 32 - 1)

-- a prefix length behind `/`
abbrev pub length_of : List ℕ → Option ℕ
length_of [] = None
length_of (b ∷ bs) = if b == 47 then decimal_of bs else None

-- a count of AS numbers, or the prefix length of a block
abbrev pub spelled_amount : Space → List ℕ → Option ℕ
spelled_amount Asn word = decimal_of word
spelled_amount Ipv4 word = length_of word
spelled_amount Ipv6 word = length_of word

-- an amount that can be asked for
abbrev pub amount_of : Space → List ℕ → Option ℕ
amount_of space word = option_and_then (λ amount. if has_size space amount then Some amount else None) (spelled_amount space word)
