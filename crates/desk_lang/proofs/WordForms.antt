-- What is written as one word is one: it has a byte, and neither a blank nor a quote.
use Rattle.std.proofs.Common.{◌≡◌, ◌≢◌, ℕ, ◌+◌, ◌*◌, ◌^◌, ◌<◌, ◌≤◌, Bool, true, ◌==◌, ◌&&◌, nat_le, List, [], ◌∷◌, ◌++◌, length, take, drop, flat_map, All, decimal, codes, refl, sym, ap, ◌∙◌, inl, inr, arith, length-append, length-drop, length-take, ltb, true≢false}
use Rattle.std.proofs.lemmas.Bool.{and_parts, and_from, eqb-true, leb-true, cases_Bool, cond_both, cond-true, cond-false}
use Rattle.std.proofs.lemmas.Bool.Decides.{nat_tests}
use Rattle.std.proofs.lemmas.Fmt.{decimal_is_IsNumeral, length-decimal-le}
use Rattle.std.proofs.lemmas.List.Elements.{All-nil, All-cons, All-append, All-weaker, All-from_get_or}
use Rattle.std.proofs.lemmas.Str.Parse.{digit_at}
use Rattle.std.proofs.NetLemmas.Alphabet.{IsDigitOrDot, IsHexOrColon, All-ipv4_text, All-hex_groups_text}
use Rattle.std.specs.Int.{w32, to_be_bytes}
use Rattle.std.specs.List.{list_all, onto_first}
use Rattle.std.specs.Net.Text.{dotted_text, hex, groups_text, longest_zero_run, compressed_text, hex_groups_text}
use Rattle.num_range.specs.declared.space.Space.{Space}
use Rattle.num_range.specs.declared.space.Space.TheVariants.{Asn, Ipv4, Ipv6}
use Rattle.num_range.specs.Space.{top_of}
use Rattle.num_range.specs.Range.{PlainRange, IsRange}
use Rattle.addr_text.specs.Address.{groups_of}
use Rattle.addr_text.specs.Number.{text_of}
use Rattle.addr_text.proofs.Written.{four_bytes, eight_groups}
use Rattle.reg_entry.specs.Cc.{is_cc}
use Rattle.reg_entry.specs.Handle.{is_capital, is_handle_byte, is_handle}
use Rattle.reg_entry.specs.Host.{is_host_byte, is_host_label, host_labels, is_host}
use Rattle.reg_entry.specs.Text.{is_text_byte, is_bare_of, is_text}
use Rattle.desk_text.specs.RequestText.{range_word}
use Rattle.desk_lang.proofs.ReadWords.{IsWordByte, IsWord}

-- ---- decimals and addresses

pub decimal_bytes : (n : ℕ) → n < 2 ^ 64 → All IsWordByte (decimal n)
decimal_bytes n fits =
    All-from_get_or IsWordByte (decimal n) 0 λ i h.
    let digit = digit_at (decimal n) i (decimal_is_IsNumeral n fits).0.1 h in
    (omega arith, omega arith, omega arith)

digit_or_dot : (b : ℕ) → IsDigitOrDot b → IsWordByte b
digit_or_dot b (inl h) = (omega arith, omega arith, omega arith)
digit_or_dot b (inr h) = (omega arith, omega arith, omega arith)

hex_or_colon : (b : ℕ) → IsHexOrColon b → IsWordByte b
hex_or_colon b (inl h) = (omega arith, omega arith, omega arith)
hex_or_colon b (inr h) = (omega arith, omega arith, omega arith)

pub number_bytes : (space : Space) (value : ℕ) → value ≤ top_of space → All IsWordByte (text_of space value)
number_bytes Asn value fits =
    All-cons IsWordByte 65 (83 ∷ decimal value) (omega arith, omega arith, omega arith)
    (All-cons IsWordByte 83 (decimal value) (omega arith, omega arith, omega arith) (decimal_bytes value (omega arith)))
number_bytes Ipv4 value fits =
    All-weaker IsDigitOrDot IsWordByte digit_or_dot (text_of Ipv4 value) (All-ipv4_text (to_be_bytes w32 value) (four_bytes value).at)
number_bytes Ipv6 value fits =
    All-weaker IsHexOrColon IsWordByte hex_or_colon (text_of Ipv6 value) (All-hex_groups_text (groups_of value) (eight_groups value).at)

-- ---- their lengths

length_dotted : (a b c d : ℕ) → a < 2 ^ 8 → b < 2 ^ 8 → c < 2 ^ 8 → d < 2 ^ 8 → length (dotted_text a b c d) ≤ 42
length_dotted a b c d ha hb hc hd =
    let la = length-decimal-le 3 a (omega arith) (omega arith) (omega arith) in
    let lb = length-decimal-le 3 b (omega arith) (omega arith) (omega arith) in
    let lc = length-decimal-le 3 c (omega arith) (omega arith) (omega arith) in
    let ld = length-decimal-le 3 d (omega arith) (omega arith) (omega arith) in
    omega (arith, length-append {A = ℕ})

length_hex : (n : ℕ) → length (hex n) ≤ 4
unfolding hex
length_hex n = omega (arith, length-drop {A = ℕ})

length_more : (xs : List ℕ) → length (flat_map (λ t. codes ":" ++ hex t) xs) ≤ 5 * length xs
length_more [] = omega arith
length_more (x ∷ xs) =
    let first = length_hex x in
    let later = length_more xs in
    let both = length-append (codes ":" ++ hex x) (flat_map (λ t. codes ":" ++ hex t) xs) in
    let one = length-append (codes ":") (hex x) in
    omega (arith, first, later, both, one)

length_groups : (xs : List ℕ) → length (groups_text xs) ≤ 5 * length xs
length_groups [] = omega arith
length_groups (x ∷ xs) =
    let first = length_hex x in
    let later = length_more xs in
    let both = length-append (hex x) (flat_map (λ t. codes ":" ++ hex t) xs) in
    omega (arith, first, later, both)

length_take_drop : (i j : ℕ) (xs : List ℕ) → length (take i xs) + length (drop (i + j) xs) ≤ length xs
length_take_drop i j xs = omega (arith, length-take i xs, length-drop (i + j) xs)

length_compressed : (xs : List ℕ) (run : ℕ × ℕ) → length (compressed_text xs run) ≤ 2 + 5 * length xs
length_compressed xs run =
    let front = length_groups (take run.0 xs) in
    let back = length_groups (drop (run.0 + run.1) xs) in
    let parts = length_take_drop run.0 run.1 xs in
    let whole = length_groups xs in
    let one = length-append (groups_text (take run.0 xs) ++ codes "::") (groups_text (drop (run.0 + run.1) xs)) in
    let two = length-append (groups_text (take run.0 xs)) (codes "::") in
    cond_both (ltb 1 run.1) (groups_text (take run.0 xs) ++ codes "::" ++ groups_text (drop (run.0 + run.1) xs)) (groups_text xs)
    (λ (t : List ℕ). length t ≤ 2 + 5 * length xs) (λ _. omega (arith, front, back, parts, one, two)) (λ _. omega arith)

length_ipv6 : (xs : List ℕ) → length xs ≡ 8 → length (hex_groups_text xs) ≤ 42
unfolding hex_groups_text
length_ipv6 xs h = let whole = length_compressed xs (longest_zero_run xs) in omega arith

pub length_number : (space : Space) (value : ℕ) → value ≤ top_of space → length (text_of space value) ≤ 42
length_number Asn value fits =
    let len = length-decimal-le 10 value (omega arith) (omega arith) (omega arith) in
    omega arith
length_number Ipv4 value fits =
    let bytes = (four_bytes value).at in
    length_dotted _ _ _ _ (bytes 0) (bytes 1) (bytes 2) (bytes 3)
length_number Ipv6 value fits = length_ipv6 (groups_of value) refl

pub length_range : (r : PlainRange) → IsRange r → length (range_word r) ≤ 85
length_range r h =
    let first = length_number r.space r.first (omega (arith, h)) in
    let last = length_number r.space r.last h.1 in
    omega (arith, length-append {A = ℕ})

pub range_is_word : (r : PlainRange) → IsRange r → IsWord (range_word r)
range_is_word r h = record {
  some = omega (arith, length-append {A = ℕ});
  bytes =
      All-append IsWordByte (text_of r.space r.first ++ codes "-") (text_of r.space r.last)
      (All-append IsWordByte (text_of r.space r.first) (codes "-") (number_bytes r.space r.first (omega (arith, h))) (All-cons IsWordByte 45 [] (omega arith, omega arith, omega arith) (All-nil IsWordByte)))
      (number_bytes r.space r.last h.1);
}

-- ---- handles, country codes, hosts and texts

pub all_from_test : (test : ℕ → Bool) (P : ℕ → Type 0) → ((b : ℕ) → test b ≡ true → P b) → (bytes : List ℕ) → list_all test bytes ≡ true → All P bytes
all_from_test test P tells [] h = All-nil P
all_from_test test P tells (b ∷ bytes) h =
    let parts = and_parts (test b) (list_all test bytes) h in
    All-cons P b bytes (tells b parts.0) (all_from_test test P tells bytes parts.1)

capital_byte : (b : ℕ) → is_capital b ≡ true → IsWordByte b
capital_byte b h =
    let parts = and_parts _ _ h in
    let low = leb-true 65 b parts.0 in
    (omega arith, omega arith, omega arith)

handle_byte : (b : ℕ) → is_handle_byte b ≡ true → IsWordByte b
handle_byte b h = (λ e. grind (arith, nat_tests), λ e. grind (arith, nat_tests), λ e. grind (arith, nat_tests))

pub handle_is_word : (bytes : List ℕ) → is_handle bytes ≡ true → IsWord bytes
handle_is_word [] h = absurd (true≢false (sym h))
handle_is_word (b ∷ bytes) h =
    let front = (and_parts (is_capital b && list_all is_handle_byte bytes) (nat_le (length bytes) 23) h).0 in
    let parts = and_parts (is_capital b) (list_all is_handle_byte bytes) front in
    record {
      some = omega arith;
      bytes = All-cons IsWordByte b bytes (capital_byte b parts.0) (all_from_test is_handle_byte IsWordByte handle_byte bytes parts.1);
    }

pub length_handle : (bytes : List ℕ) → is_handle bytes ≡ true → length bytes ≤ 24
length_handle [] h = omega arith
length_handle (b ∷ bytes) h =
    let few = leb-true (length bytes) 23 (and_parts (is_capital b && list_all is_handle_byte bytes) (nat_le (length bytes) 23) h).1 in
    omega arith

pub length_cc : (bytes : List ℕ) → is_cc bytes ≡ true → length bytes ≡ 2
length_cc bytes h = eqb-true (length bytes) 2 (and_parts (length bytes == 2) (list_all is_capital bytes) h).0

pub cc_is_word : (bytes : List ℕ) → is_cc bytes ≡ true → IsWord bytes
cc_is_word bytes h =
    let parts = and_parts (length bytes == 2) (list_all is_capital bytes) h in
    let two = length_cc bytes h in
    record { some = omega arith; bytes = all_from_test is_capital IsWordByte capital_byte bytes parts.1 }

text_byte : (b : ℕ) → is_text_byte b ≡ true → b ≢ 34
text_byte b h e = grind (arith, nat_tests)

pub text_has_no_quote : (bytes : List ℕ) → is_text bytes ≡ true → All (λ b. b ≢ 34) bytes
text_has_no_quote bytes h =
    let front = (and_parts (nat_le 1 (length bytes) && nat_le (length bytes) 96 && list_all is_text_byte bytes) (is_bare_of 32 bytes) h).0 in
    all_from_test is_text_byte (λ b. b ≢ 34) text_byte bytes (and_parts (nat_le 1 (length bytes) && nat_le (length bytes) 96) (list_all is_text_byte bytes) front).1

pub length_text : (bytes : List ℕ) → is_text bytes ≡ true → length bytes ≤ 96
length_text bytes h =
    let front = (and_parts (nat_le 1 (length bytes) && nat_le (length bytes) 96 && list_all is_text_byte bytes) (is_bare_of 32 bytes) h).0 in
    let lengths = (and_parts (nat_le 1 (length bytes) && nat_le (length bytes) 96) (list_all is_text_byte bytes) front).0 in
    leb-true (length bytes) 96 (and_parts (nat_le 1 (length bytes)) (nat_le (length bytes) 96) lengths).1

host_byte : (b : ℕ) → is_host_byte b ≡ true → IsWordByte b
host_byte b h = (λ e. grind (arith, nat_tests), λ e. grind (arith, nat_tests), λ e. grind (arith, nat_tests))

abbrev are_host_bytes : List ℕ → Bool
are_host_bytes bytes = list_all is_host_byte bytes

onto_parts : (b : ℕ) (parts : List (List ℕ)) → list_all are_host_bytes (onto_first b parts) ≡ true → (is_host_byte b ≡ true) × (list_all are_host_bytes parts ≡ true)
onto_parts b [] h =
    let both = and_parts (are_host_bytes (b ∷ [])) true h in
    ((and_parts (is_host_byte b) true both.0).0, refl)
onto_parts b (part ∷ parts) h =
    let both = and_parts (are_host_bytes (b ∷ part)) (list_all are_host_bytes parts) h in
    let front = and_parts (is_host_byte b) (are_host_bytes part) both.0 in
    (front.0, and_from (are_host_bytes part) (list_all are_host_bytes parts) front.1 both.1)

parts_bytes : (bytes : List ℕ) → list_all are_host_bytes (host_labels bytes) ≡ true → All IsWordByte bytes
parts_bytes [] h = All-nil IsWordByte
parts_bytes (b ∷ bytes) h =
    elim (cases_Bool (b == 46)) [
      | inl dot ↦
          let same = eqb-true b 46 dot in
          All-cons IsWordByte b bytes (omega arith, omega arith, omega arith)
          (parts_bytes bytes (ap (list_all are_host_bytes) (sym (cond-true (b == 46) ([] ∷ host_labels bytes) (onto_first b (host_labels bytes)) dot)) ∙ h))
      | inr other ↦
          let parts = onto_parts b (host_labels bytes) (ap (list_all are_host_bytes) (sym (cond-false (b == 46) ([] ∷ host_labels bytes) (onto_first b (host_labels bytes)) other)) ∙ h) in
          All-cons IsWordByte b bytes (host_byte b parts.0) (parts_bytes bytes parts.1)
    ]

labels_bytes : (labels : List (List ℕ)) → list_all is_host_label labels ≡ true → list_all are_host_bytes labels ≡ true
labels_bytes [] h = refl
labels_bytes (label ∷ labels) h =
    let both = and_parts (is_host_label label) (list_all is_host_label labels) h in
    let front = (and_parts (nat_le 1 (length label) && nat_le (length label) 63 && are_host_bytes label) (is_bare_of 45 label) both.0).0 in
    and_from (are_host_bytes label) (list_all are_host_bytes labels) (and_parts (nat_le 1 (length label) && nat_le (length label) 63) (are_host_bytes label) front).1
    (labels_bytes labels both.1)

pub length_host : (bytes : List ℕ) → is_host bytes ≡ true → length bytes ≤ 96
length_host bytes h =
    let front = (and_parts (nat_le (length bytes) 96 && nat_le 2 (length (host_labels bytes))) (list_all is_host_label (host_labels bytes)) h).0 in
    leb-true (length bytes) 96 (and_parts (nat_le (length bytes) 96) (nat_le 2 (length (host_labels bytes))) front).0

pub host_is_word : (bytes : List ℕ) → is_host bytes ≡ true → IsWord bytes
host_is_word [] h = absurd (true≢false (sym h))
host_is_word (b ∷ bytes) h =
    let host = b ∷ bytes in
    let labels = (and_parts (nat_le (length host) 96 && nat_le 2 (length (host_labels host))) (list_all is_host_label (host_labels host)) h).1 in
    record { some = omega arith; bytes = parts_bytes (b ∷ bytes) (labels_bytes (host_labels (b ∷ bytes)) labels) }
