-- The bytes of what is written as values: no line end and no `#` is among them.
use Rattle.std.proofs.Common.{◌≡◌, ◌≢◌, ℕ, ◌+◌, ◌/◌, ◌%◌, ◌^◌, ◌<◌, ◌≤◌, Bool, true, not, ◌==◌, ◌&&◌, nat_le, List, [], ◌∷◌, ◌++◌, length, map, filter, flat_map, All, decimal, codes, refl, sym, ap, ◌∙◌, inl, inr, arith}
use Rattle.std.proofs.lemmas.Bool.{and_parts, and_from, eqb-true, cases_Bool, cond_both, cond-true, cond-false}
use Rattle.std.proofs.lemmas.Bool.Decides.{nat_tests}
use Rattle.std.proofs.lemmas.Fmt.{decimal_is_IsNumeral}
use Rattle.std.proofs.lemmas.List.Elements.{All-nil, All-cons, All-append, All-weaker, All-from_get_or}
use Rattle.std.proofs.lemmas.Str.Parse.{digit_at}
use Rattle.std.proofs.NetLemmas.Alphabet.{IsDigitOrDot, IsHexOrColon, All-ipv4_text, All-hex_groups_text}
use Rattle.std.specs.Char.{digit_char}
use Rattle.std.specs.Int.{w32, to_be_bytes}
use Rattle.std.specs.List.{list_all, onto_first}
use Rattle.num_range.specs.declared.space.Space.{Space}
use Rattle.num_range.specs.declared.space.Space.TheVariants.{Asn, Ipv4, Ipv6}
use Rattle.num_range.specs.Space.{top_of}
use Rattle.num_range.specs.Range.{PlainRange, IsRange, size_of}
use Rattle.addr_text.specs.Address.{groups_of}
use Rattle.addr_text.specs.Number.{text_of}
use Rattle.addr_text.proofs.Written.{four_bytes, eight_groups}
use Rattle.reg_entry.specs.declared.card.Status.{Status}
use Rattle.reg_entry.specs.declared.card.Status.TheVariants.{Available, Reserved, Quarantine, Allocated, Assigned}
use Rattle.reg_entry.specs.declared.kind.Kind.{Kind}
use Rattle.reg_entry.specs.declared.kind.Kind.TheVariants.{Lir, EndUser}
use Rattle.reg_entry.specs.Cc.{is_cc}
use Rattle.reg_entry.specs.Days.{date_text, date_of_day, day_text}
use Rattle.reg_entry.specs.Handle.{is_capital, is_handle_byte, is_handle}
use Rattle.reg_entry.specs.Host.{is_host_byte, is_host_label, host_labels, is_host}
use Rattle.reg_entry.specs.Text.{is_text_byte, is_bare_of, is_text}
use Rattle.desk_text.specs.Vocabulary.{kind_word, status_word}
use Rattle.desk_text.specs.ReplyText.{spaced_range}
use Rattle.reverse_zone.specs.Apex.{label_text, labels_text}
use Rattle.reverse_zone.specs.Zone.{label_bits, label_at}
use Rattle.reverse_zone.specs.Delegated.{address_places, domain_of, reverse_name}
use Rattle.rpsl_text.specs.Forms.{is_source_byte, is_source}

abbrev pub IsValueByte : ℕ → Type 0
IsValueByte b = (32 ≤ b) × (b ≢ 35)

-- `All`, in a record so that antt reads the list off a goal
pub record IsValue (value : List ℕ) : Type 0 where
  pub bytes : All IsValueByte value

nil : IsValue []
nil = record { bytes = All-nil IsValueByte }

cons : {b : ℕ} {bs : List ℕ} → IsValueByte b → IsValue bs → IsValue (b ∷ bs)
cons {b} {bs} h k = record { bytes = All-cons IsValueByte b bs h k.bytes }

and : {xs ys : List ℕ} → IsValue xs → IsValue ys → IsValue (xs ++ ys)
and {xs} {ys} h k = record { bytes = All-append IsValueByte xs ys h.bytes k.bytes }

-- ---- by tests

from_test : (test : ℕ → Bool) → ((b : ℕ) → test b ≡ true → IsValueByte b) → (bytes : List ℕ) → list_all test bytes ≡ true → IsValue bytes
from_test test tells [] h = nil
from_test test tells (b ∷ bytes) h =
    let parts = and_parts (test b) (list_all test bytes) h in
    cons (tells b parts.0) (from_test test tells bytes parts.1)

abbrev is_value_byte : ℕ → Bool
is_value_byte b = nat_le 32 b && not (b == 35)

capital_byte : (b : ℕ) → is_capital b ≡ true → IsValueByte b
capital_byte b h = (grind (arith, nat_tests), λ e. grind (arith, nat_tests))

handle_byte : (b : ℕ) → is_handle_byte b ≡ true → IsValueByte b
handle_byte b h = (grind (arith, nat_tests), λ e. grind (arith, nat_tests))

text_byte : (b : ℕ) → is_text_byte b ≡ true → IsValueByte b
text_byte b h = (grind (arith, nat_tests), λ e. grind (arith, nat_tests))

source_byte : (b : ℕ) → is_source_byte b ≡ true → IsValueByte b
source_byte b h = (grind (arith, nat_tests), λ e. grind (arith, nat_tests))

host_byte : (b : ℕ) → is_host_byte b ≡ true → IsValueByte b
host_byte b h = (grind (arith, nat_tests), λ e. grind (arith, nat_tests))

pub handle_value : (bytes : List ℕ) → is_handle bytes ≡ true → IsValue bytes
handle_value [] h = nil
handle_value (b ∷ bytes) h =
    let front = (and_parts (is_capital b && list_all is_handle_byte bytes) (nat_le (length bytes) 23) h).0 in
    let parts = and_parts (is_capital b) (list_all is_handle_byte bytes) front in
    cons (capital_byte b parts.0) (from_test is_handle_byte handle_byte bytes parts.1)

pub cc_value : (bytes : List ℕ) → is_cc bytes ≡ true → IsValue bytes
cc_value bytes h = from_test is_capital capital_byte bytes (and_parts (length bytes == 2) (list_all is_capital bytes) h).1

pub text_value : (bytes : List ℕ) → is_text bytes ≡ true → IsValue bytes
text_value bytes h =
    let front = (and_parts (nat_le 1 (length bytes) && nat_le (length bytes) 96 && list_all is_text_byte bytes) (is_bare_of 32 bytes) h).0 in
    from_test is_text_byte text_byte bytes (and_parts (nat_le 1 (length bytes) && nat_le (length bytes) 96) (list_all is_text_byte bytes) front).1

pub source_value : (bytes : List ℕ) → is_source bytes ≡ true → IsValue bytes
source_value bytes h =
    from_test is_source_byte source_byte bytes (and_parts (nat_le 1 (length bytes) && nat_le (length bytes) 24) (list_all is_source_byte bytes) h).1

-- ---- words

value_byte : (b : ℕ) → is_value_byte b ≡ true → IsValueByte b
value_byte b h = (grind (arith, nat_tests), λ e. grind (arith, nat_tests))

word : (bytes : List ℕ) → list_all is_value_byte bytes ≡ true → IsValue bytes
word bytes h = from_test is_value_byte value_byte bytes h

pub kind_value : (kind : Kind) → IsValue (kind_word kind)
kind_value Lir = word (codes "lir") refl
kind_value EndUser = word (codes "enduser") refl

pub status_value : (status : Status) → IsValue (status_word status)
status_value Available = word (codes "available") refl
status_value Reserved = word (codes "reserved") refl
status_value Quarantine = word (codes "quarantine") refl
status_value Allocated = word (codes "allocated") refl
status_value Assigned = word (codes "assigned") refl

-- ---- days and numbers

digit : (n : ℕ) → IsValueByte (48 + n)
digit n = (omega arith, omega arith)

date_value : (year month day : ℕ) → IsValue (date_text year month day)
date_value year month day =
    cons (digit _) (cons (digit _) (cons (digit _) (cons (digit _) (cons (digit _) (cons (digit _) (cons (digit _) (cons (digit _) nil)))))))

pub day_value : (day : ℕ) → IsValue (day_text day)
day_value day = let date = date_of_day day in date_value date.0 date.1 date.2

decimal_value : (n : ℕ) → n < 2 ^ 64 → IsValue (decimal n)
decimal_value n fits = record {
  bytes = All-from_get_or IsValueByte (decimal n) 0 λ i h.
      let digit = digit_at (decimal n) i (decimal_is_IsNumeral n fits).0.1 h in
      (omega arith, omega arith);
}

digit_or_dot : (b : ℕ) → IsDigitOrDot b → IsValueByte b
digit_or_dot b (inl h) = (omega arith, omega arith)
digit_or_dot b (inr h) = (omega arith, omega arith)

hex_or_colon : (b : ℕ) → IsHexOrColon b → IsValueByte b
hex_or_colon b (inl h) = (omega arith, omega arith)
hex_or_colon b (inr h) = (omega arith, omega arith)

number_value : (space : Space) (value : ℕ) → value ≤ top_of space → IsValue (text_of space value)
number_value Asn value fits = and (word (codes "AS") refl) (decimal_value value (omega arith))
number_value Ipv4 value fits = record {
  bytes = All-weaker IsDigitOrDot IsValueByte digit_or_dot (text_of Ipv4 value) (All-ipv4_text (to_be_bytes w32 value) (four_bytes value).at);
}
number_value Ipv6 value fits = record {
  bytes = All-weaker IsHexOrColon IsValueByte hex_or_colon (text_of Ipv6 value) (All-hex_groups_text (groups_of value) (eight_groups value).at);
}

pub range_value : (r : PlainRange) → IsRange r → IsValue (spaced_range r)
range_value r h =
    and (and (number_value r.space r.first (omega (arith, h))) (word (codes " - ") refl)) (number_value r.space r.last h.1)

-- ---- names

hex_digit : (n : ℕ) → IsValueByte (digit_char n)
hex_digit n = cond_both _ (48 + n) (87 + n) IsValueByte (λ _. digit n) (λ _. (omega arith, omega arith))

-- a label of a space is the rest of some number by the count of labels
label_of : (space : Space) (n : ℕ) → IsValue (label_text space (n % 2 ^ label_bits space))
label_of Asn n = nil
label_of Ipv4 n = decimal_value (n % 2 ^ 8) (omega arith)
label_of Ipv6 n = cons (hex_digit (n % 2 ^ 4)) nil

label_value : (block : PlainRange) (place : ℕ) → IsValue (label_text block.space (label_at block place))
label_value block place = label_of block.space (block.first / 2 ^ place)

labels_value : (block : PlainRange) (places : List ℕ) → IsValue (flat_map (λ l. codes "." ++ label_text block.space l) (map (label_at block) places))
labels_value block [] = nil
labels_value block (place ∷ places) = and (and (word (codes ".") refl) (label_value block place)) (labels_value block places)

name_value : (block : PlainRange) (places : List ℕ) → IsValue (labels_text block.space (map (label_at block) places))
name_value block [] = nil
name_value block (place ∷ places) = and (label_value block place) (labels_value block places)

domain_value : (space : Space) → IsValue (domain_of space)
domain_value Asn = nil
domain_value Ipv4 = word (codes ".in-addr.arpa") refl
domain_value Ipv6 = word (codes ".ip6.arpa") refl

pub reverse_value : (block : PlainRange) → IsValue (reverse_name block)
reverse_value block =
    and (name_value block (filter (λ place. nat_le (size_of block) (2 ^ place)) (address_places block.space))) (domain_value block.space)

-- ---- hosts

abbrev are_host_bytes : List ℕ → Bool
are_host_bytes bytes = list_all is_host_byte bytes

onto_parts : (b : ℕ) (parts : List (List ℕ)) → list_all are_host_bytes (onto_first b parts) ≡ true → (is_host_byte b ≡ true) × (list_all are_host_bytes parts ≡ true)
onto_parts b [] h =
    let both = and_parts (are_host_bytes (b ∷ [])) true h in
    ((and_parts (is_host_byte b) true both.0).0, refl)
onto_parts b (part ∷ parts) h =
    let both = and_parts (are_host_bytes (b ∷ part)) (list_all are_host_bytes parts) h in
    let front = and_parts (is_host_byte b) (are_host_bytes part) both.0 in
    (front.0, and_from (are_host_bytes part) (list_all are_host_bytes parts) front.1 both.1)

parts_value : (bytes : List ℕ) → list_all are_host_bytes (host_labels bytes) ≡ true → IsValue bytes
parts_value [] h = nil
parts_value (b ∷ bytes) h =
    elim (cases_Bool (b == 46)) [
      | inl dot ↦
          let same = eqb-true b 46 dot in
          cons (omega arith, omega arith)
          (parts_value bytes (ap (list_all are_host_bytes) (sym (cond-true (b == 46) ([] ∷ host_labels bytes) (onto_first b (host_labels bytes)) dot)) ∙ h))
      | inr other ↦
          let parts = onto_parts b (host_labels bytes) (ap (list_all are_host_bytes) (sym (cond-false (b == 46) ([] ∷ host_labels bytes) (onto_first b (host_labels bytes)) other)) ∙ h) in
          cons (host_byte b parts.0) (parts_value bytes parts.1)
    ]

labels_bytes : (labels : List (List ℕ)) → list_all is_host_label labels ≡ true → list_all are_host_bytes labels ≡ true
labels_bytes [] h = refl
labels_bytes (label ∷ labels) h =
    let both = and_parts (is_host_label label) (list_all is_host_label labels) h in
    let front = (and_parts (nat_le 1 (length label) && nat_le (length label) 63 && are_host_bytes label) (is_bare_of 45 label) both.0).0 in
    and_from (are_host_bytes label) (list_all are_host_bytes labels) (and_parts (nat_le 1 (length label) && nat_le (length label) 63) (are_host_bytes label) front).1
    (labels_bytes labels both.1)

pub host_value : (bytes : List ℕ) → is_host bytes ≡ true → IsValue bytes
host_value bytes h =
    let labels = (and_parts (nat_le (length bytes) 96 && nat_le 2 (length (host_labels bytes))) (list_all is_host_label (host_labels bytes)) h).1 in
    parts_value bytes (labels_bytes (host_labels bytes) labels)
