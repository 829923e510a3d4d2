-- What was written of a value has that value.
use Rattle.std.proofs.Common.{◌≡◌, ℕ, ◌-◌, ◌^◌, ◌<◌, Bool, true, nat_le, List, None, Some, decimal, refl, sym, ap, ◌∙◌, arith, cond}
use Rattle.std.proofs.lemmas.Bool.{and_parts, leb-true, cond-true}
use Rattle.std.specs.Option.{option_and_then}
use Rattle.num_range.specs.declared.space.Space.{Space}
use Rattle.num_range.specs.declared.space.Space.TheVariants.{Asn, Ipv4, Ipv6}
use Rattle.num_range.specs.Number.{PlainNumber, IsNumber}
use Rattle.num_range.specs.Range.{PlainRange, IsRange}
use Rattle.addr_text.specs.Number.{SpellsNumber, number_text}
use Rattle.addr_text.specs.Range.{SpellsRange}
use Rattle.addr_text.specs.Reading.{number_of, range_of}
use Rattle.addr_text.proofs.Computed.{same_value, decimal_found, number_spelled, range_spelled}
use Rattle.addr_text.proofs.Once.{number_once, range_once}
use Rattle.addr_text.proofs.Written.{number_written, range_written}
use Rattle.reg_entry.specs.declared.kind.Kind.{Kind}
use Rattle.reg_entry.specs.declared.kind.Kind.TheVariants.{Lir, EndUser}
use Rattle.reg_entry.specs.declared.request.Delegation.{Delegation}
use Rattle.reg_entry.specs.declared.request.Delegation.TheVariants.{Allocate, Assign}
use Rattle.reg_entry.specs.Request.{status_of, has_size}
use Rattle.desk_text.specs.RequestText.{range_word}
use Rattle.desk_lang.specs.Values.{label_of, kind_of, space_of, delegation_of, decimal_of, spelled_amount, amount_of}
use Rattle.desk_text.specs.Vocabulary.{space_word, kind_word, status_word, amount_text}

pub number_back : (n : PlainNumber) → IsNumber n → number_of (number_text n) ≡ Some n
number_back n h =
    sym (same_value (SpellsNumber (number_text n)) (number_once (number_text n)) (Some n) (number_of (number_text n)) (number_written n h) tt (number_spelled (number_text n)))

pub range_back : (r : PlainRange) → IsRange r → range_of (range_word r) ≡ Some r
range_back r h =
    sym (same_value (SpellsRange (range_word r)) (range_once (range_word r)) (Some r) (range_of (range_word r)) (range_written r h) tt (range_spelled (range_word r)))

pub label_back : (is_form : List ℕ → Bool) (bytes : List ℕ) → is_form bytes ≡ true → label_of is_form bytes ≡ Some bytes
label_back is_form bytes h = cond-true (is_form bytes) (Some bytes) None h

pub kind_back : (kind : Kind) → kind_of (kind_word kind) ≡ Some kind
kind_back Lir = refl
kind_back EndUser = refl

pub space_back : (space : Space) → space_of (space_word space) ≡ Some space
space_back Asn = refl
space_back Ipv4 = refl
space_back Ipv6 = refl

pub delegation_back : (status : Delegation) → delegation_of (status_word (status_of status)) ≡ Some status
delegation_back Allocate = refl
delegation_back Assign = refl

pub decimal_back : (n : ℕ) → n < 2 ^ 32 → decimal_of (decimal n) ≡ Some n
decimal_back n fits = decimal_found (2 ^ 32 - 1) n (decimal n) refl (omega arith) (omega arith)

-- an amount that can be asked for is at most 1,024
pub amount_fits : (space : Space) (amount : ℕ) → has_size space amount ≡ true → amount < 2 ^ 32
amount_fits Asn amount h = let most = leb-true amount 1024 (and_parts (nat_le 1 amount) (nat_le amount 1024) h).1 in omega arith
amount_fits Ipv4 amount h = let most = leb-true amount 32 h in omega arith
amount_fits Ipv6 amount h = let most = leb-true amount 128 (and_parts (nat_le 3 amount) (nat_le amount 128) h).1 in omega arith

spelled_back : (space : Space) (amount : ℕ) → amount < 2 ^ 32 → spelled_amount space (amount_text space amount) ≡ Some amount
spelled_back Asn amount h = decimal_back amount h
spelled_back Ipv4 amount h = decimal_back amount h
spelled_back Ipv6 amount h = decimal_back amount h

pub amount_back : (space : Space) (amount : ℕ) → has_size space amount ≡ true → amount_of space (amount_text space amount) ≡ Some amount
amount_back space amount h =
    ap (option_and_then (λ a. cond (has_size space a) (Some a) None)) (spelled_back space amount (amount_fits space amount h))
    ∙ cond-true (has_size space amount) (Some amount) None h
