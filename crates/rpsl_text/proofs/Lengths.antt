-- How long the values of attributes are.
use Rattle.std.proofs.Common.{◌≡◌, ℕ, ◌+◌, ◌*◌, ◌/◌, ◌^◌, ◌%◌, ◌<◌, ◌≤◌, Bool, true, ◌&&◌, ◌==◌, nat_le, List, [], ◌∷◌, ◌++◌, length, take, drop, flat_map, map, filter, codes, decimal, arith, length-append, length-drop, length-take, ltb}
use Rattle.std.proofs.lemmas.Bool.{and_parts, eqb-true, leb-true, cond_both}
use Rattle.std.proofs.lemmas.Fmt.{length-decimal-le}
use Rattle.std.specs.List.{list_all}
use Rattle.std.specs.Net.Text.{dotted_text, hex, groups_text, longest_zero_run, compressed_text, hex_groups_text}
use Rattle.num_range.specs.declared.space.Space.{Space}
use Rattle.num_range.specs.declared.space.Space.TheVariants.{Asn, Ipv4, Ipv6}
use Rattle.num_range.specs.Space.{top_of}
use Rattle.num_range.specs.Range.{PlainRange, IsRange, size_of}
use Rattle.addr_text.specs.Address.{groups_of}
use Rattle.addr_text.specs.Number.{text_of}
use Rattle.addr_text.proofs.Written.{four_bytes}
use Rattle.reg_entry.specs.declared.card.Status.{Status}
use Rattle.reg_entry.specs.declared.card.Status.TheVariants.{Available, Reserved, Quarantine, Allocated, Assigned}
use Rattle.reg_entry.specs.declared.kind.Kind.{Kind}
use Rattle.reg_entry.specs.declared.kind.Kind.TheVariants.{Lir, EndUser}
use Rattle.reg_entry.specs.Cc.{is_cc}
use Rattle.reg_entry.specs.Handle.{is_capital, is_handle_byte, is_handle}
use Rattle.reg_entry.specs.Host.{is_host_label, host_labels, is_host}
use Rattle.reg_entry.specs.Text.{is_text_byte, is_bare_of, is_text}
use Rattle.desk_text.specs.Vocabulary.{kind_word, status_word}
use Rattle.desk_text.specs.ReplyText.{spaced_range}
use Rattle.reverse_zone.specs.Apex.{label_text, labels_text}
use Rattle.reverse_zone.specs.Zone.{label_bits, label_at}
use Rattle.reverse_zone.specs.Delegated.{address_places, domain_of, reverse_name}
use Rattle.rpsl_text.specs.Forms.{is_source_byte, is_source}

-- ---- labels

pub length_octet : (n : ℕ) → n < 256 → length (decimal n) ≤ 3
length_octet n h = length-decimal-le 3 n (omega arith) (omega arith) (omega arith)

pub handle_length : (bytes : List ℕ) → is_handle bytes ≡ true → length bytes ≤ 141
handle_length [] h = omega arith
handle_length (b ∷ bytes) h =
    let most = leb-true (length bytes) 23 (and_parts (is_capital b && list_all is_handle_byte bytes) (nat_le (length bytes) 23) h).1 in
    omega arith

pub cc_length : (bytes : List ℕ) → is_cc bytes ≡ true → length bytes ≤ 141
cc_length bytes h = let two = eqb-true (length bytes) 2 (and_parts (length bytes == 2) (list_all is_capital bytes) h).0 in omega arith

pub text_length : (bytes : List ℕ) → is_text bytes ≡ true → length bytes ≤ 141
text_length bytes h =
    let front = (and_parts (nat_le 1 (length bytes) && nat_le (length bytes) 96 && list_all is_text_byte bytes) (is_bare_of 32 bytes) h).0 in
    let ends = (and_parts (nat_le 1 (length bytes) && nat_le (length bytes) 96) (list_all is_text_byte bytes) front).0 in
    let most = leb-true (length bytes) 96 (and_parts (nat_le 1 (length bytes)) (nat_le (length bytes) 96) ends).1 in
    omega arith

pub source_length : (bytes : List ℕ) → is_source bytes ≡ true → length bytes ≤ 141
source_length bytes h =
    let ends = (and_parts (nat_le 1 (length bytes) && nat_le (length bytes) 24) (list_all is_source_byte bytes) h).0 in
    let most = leb-true (length bytes) 24 (and_parts (nat_le 1 (length bytes)) (nat_le (length bytes) 24) ends).1 in
    omega arith

pub host_length : (bytes : List ℕ) → is_host bytes ≡ true → length bytes ≤ 141
host_length bytes h =
    let front = (and_parts (nat_le (length bytes) 96 && nat_le 2 (length (host_labels bytes))) (list_all is_host_label (host_labels bytes)) h).0 in
    let most = leb-true (length bytes) 96 (and_parts (nat_le (length bytes) 96) (nat_le 2 (length (host_labels bytes))) front).0 in
    omega arith

pub kind_length : (kind : Kind) → length (kind_word kind) ≤ 141
kind_length Lir = omega arith
kind_length EndUser = omega arith

pub status_length : (status : Status) → length (status_word status) ≤ 141
status_length Available = omega arith
status_length Reserved = omega arith
status_length Quarantine = omega arith
status_length Allocated = omega arith
status_length Assigned = omega arith

-- ---- numbers and ranges

length_dotted : (a b c d : ℕ) → a < 2 ^ 8 → b < 2 ^ 8 → c < 2 ^ 8 → d < 2 ^ 8 → length (dotted_text a b c d) ≤ 42
length_dotted a b c d ha hb hc hd =
    let la = length_octet a ha in
    let lb = length_octet b hb in
    let lc = length_octet c hc in
    let ld = length_octet d hd in
    omega (arith, length-append {A = ℕ})

length_hex : (n : ℕ) → length (hex n) ≤ 4
unfolding hex
length_hex n = omega (arith, length-drop {A = ℕ})

length_more : (xs : List ℕ) → length (flat_map (λ t. codes ":" ++ hex t) xs) ≤ 5 * length xs
length_more [] = omega arith
length_more (x ∷ xs) =
    let first = length_hex x in
    let later = length_more xs in
    let both = length-append (codes ":" ++ hex x) (flat_map (λ t. codes ":" ++ hex t) xs) in
    let one = length-append (codes ":") (hex x) in
    omega (arith, first, later, both, one)

length_groups : (xs : List ℕ) → length (groups_text xs) ≤ 5 * length xs
length_groups [] = omega arith
length_groups (x ∷ xs) =
    let first = length_hex x in
    let later = length_more xs in
    let both = length-append (hex x) (flat_map (λ t. codes ":" ++ hex t) xs) in
    omega (arith, first, later, both)

length_take_drop : (i j : ℕ) (xs : List ℕ) → length (take i xs) + length (drop (i + j) xs) ≤ length xs
length_take_drop i j xs = omega (arith, length-take i xs, length-drop (i + j) xs)

length_compressed : (xs : List ℕ) (run : ℕ × ℕ) → length (compressed_text xs run) ≤ 2 + 5 * length xs
length_compressed xs run =
    let front = length_groups (take run.0 xs) in
    let back = length_groups (drop (run.0 + run.1) xs) in
    let parts = length_take_drop run.0 run.1 xs in
    let whole = length_groups xs in
    let one = length-append (groups_text (take run.0 xs) ++ codes "::") (groups_text (drop (run.0 + run.1) xs)) in
    let two = length-append (groups_text (take run.0 xs)) (codes "::") in
    cond_both (ltb 1 run.1) (groups_text (take run.0 xs) ++ codes "::" ++ groups_text (drop (run.0 + run.1) xs)) (groups_text xs)
    (λ (t : List ℕ). length t ≤ 2 + 5 * length xs) (λ _. omega (arith, front, back, parts, one, two)) (λ _. omega arith)

length_ipv6 : (xs : List ℕ) → length xs ≡ 8 → length (hex_groups_text xs) ≤ 42
unfolding hex_groups_text
length_ipv6 xs h = let whole = length_compressed xs (longest_zero_run xs) in omega arith

length_number : (space : Space) (value : ℕ) → value ≤ top_of space → length (text_of space value) ≤ 42
length_number Asn value fits =
    let len = length-decimal-le 10 value (omega arith) (omega arith) (omega arith) in
    omega arith
length_number Ipv4 value fits =
    let bytes = (four_bytes value).at in
    length_dotted _ _ _ _ (bytes 0) (bytes 1) (bytes 2) (bytes 3)
length_number Ipv6 value fits = length_ipv6 (groups_of value) (omega arith)

pub range_length : (r : PlainRange) → IsRange r → length (spaced_range r) ≤ 141
range_length r h =
    let first = length_number r.space r.first (omega (arith, h)) in
    let last = length_number r.space r.last h.1 in
    omega (arith, length-append {A = ℕ})

-- ---- names of reverse cuts

length_label : (space : Space) (n : ℕ) → length (label_text space (n % 2 ^ label_bits space)) ≤ 3
length_label Asn n = omega arith
length_label Ipv4 n = length_octet (n % 2 ^ 8) (omega arith)
length_label Ipv6 n = omega arith

length_more_labels : (block : PlainRange) (places : List ℕ)
    → length (flat_map (λ l. codes "." ++ label_text block.space l) (map (label_at block) places)) ≤ 4 * length places
length_more_labels block [] = omega arith
length_more_labels block (place ∷ places) =
    let label = length_label block.space (block.first / 2 ^ place) in
    let later = length_more_labels block places in
    let both =
    length-append (codes "." ++ label_text block.space (label_at block place)) (flat_map (λ l. codes "." ++ label_text block.space l) (map (label_at block) places)) in
    omega (arith, label, later, both)

length_labels : (block : PlainRange) (places : List ℕ) → length (labels_text block.space (map (label_at block) places)) ≤ 4 * length places
length_labels block [] = omega arith
length_labels block (place ∷ places) =
    let label = length_label block.space (block.first / 2 ^ place) in
    let later = length_more_labels block places in
    let both = length-append (label_text block.space (label_at block place)) (flat_map (λ l. codes "." ++ label_text block.space l) (map (label_at block) places)) in
    omega (arith, label, later, both)

length_filter : (test : ℕ → Bool) (xs : List ℕ) → length (filter test xs) ≤ length xs
length_filter test [] = omega arith
length_filter test (x ∷ xs) =
    let later = length_filter test xs in
    cond_both (test x) (x ∷ filter test xs) (filter test xs) (λ (ys : List ℕ). length ys ≤ length (x ∷ xs)) (λ _. omega (arith, later)) (λ _. omega (arith, later))

places_and_domain : (space : Space) → 4 * length (address_places space) + length (domain_of space) ≤ 141
places_and_domain Asn = omega arith
places_and_domain Ipv4 = omega arith
places_and_domain Ipv6 = omega arith

pub reverse_length : (block : PlainRange) → length (reverse_name block) ≤ 141
reverse_length block =
    let places = filter (λ place. nat_le (size_of block) (2 ^ place)) (address_places block.space) in
    let few = length_filter (λ place. nat_le (size_of block) (2 ^ place)) (address_places block.space) in
    let labels = length_labels block places in
    let all = places_and_domain block.space in
    omega (arith, few, labels, all, length-append (labels_text block.space (map (label_at block) places)) (domain_of block.space))
