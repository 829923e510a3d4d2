-- A text spells at most one address, number, block and range.
use Rattle.std.proofs.Common.{◌≡◌, ◌≢◌, ℕ, ◌<◌, ◌≤◌, ◌^◌, List, [], ◌∷◌, ◌++◌, All, decimal, drop, codes, refl, sym, ap, ◌∙◌, subst, inl, inr, arith, append_assoc}
use Rattle.std.proofs.lemmas.List.Elements.{All-nil, All-cons, All-head, All-tail, All-append, All-same}
use Rattle.std.proofs.lemmas.Fmt.{decimal_injective}
use Rattle.std.specs.Int.{w32, w128, from_be_bytes}
use Rattle.std.specs.Net.Addr.{ipv4_octets, ipv6_segments, octets_of}
use Rattle.std.specs.Net.Grammar.{IsDotted, IsColonHex}
use Rattle.std.proofs.NetLemmas.Theorems.{IsIpv4Text_unique, IsIpv6Text_unique}
use Rattle.std.proofs.NetLemmas.Ipv6.{IsDotted-not_colon_hex}
use Rattle.num_range.specs.declared.space.Space.{Space}
use Rattle.num_range.specs.declared.space.Space.TheVariants.{Asn, Ipv4, Ipv6}
use Rattle.num_range.specs.Space.{width_of}
use Rattle.num_range.specs.Number.{PlainNumber}
use Rattle.num_range.specs.Range.{PlainRange}
use Rattle.num_range.specs.Block.{block_of}
use Rattle.addr_text.specs.Address.{SpellsAddressOf, SpellsAddress}
use Rattle.addr_text.specs.Number.{SpellsNumberOf, SpellsNumber, SpellsAsn}
use Rattle.addr_text.specs.Block.{SpellsBlock}
use Rattle.addr_text.specs.Range.{IsOneNumber, IsWholeBlock, IsFirstToLast, SpellsRange}
use Rattle.addr_text.proofs.Separators.{IsAddressByte, address_bytes, address_no_dash, address_no_slash, number_no_dash, number_no_slash, decimal_no_dash, no_parts, same_parts}

octets_once : (text o p : List ℕ) → IsDotted text o → IsDotted text p → o ≡ p
octets_once text o p h k = ap ipv4_octets (IsIpv4Text_unique text (record { octets = o }) (record { octets = p }) h k)

groups_once : (text g h : List ℕ) → IsColonHex text g → IsColonHex text h → g ≡ h
groups_once text g h a b = ap ipv6_segments (IsIpv6Text_unique text (record { segments = g }) (record { segments = h }) a b)

address_of_once : (s t : Space) (text : List ℕ) (v w : ℕ) → SpellsAddressOf s text v → SpellsAddressOf t text w → (s ≡ t) × (v ≡ w)
address_of_once Asn t text v w h k = absurd h
address_of_once Ipv4 Asn text v w h k = absurd k
address_of_once Ipv4 Ipv4 text v w h k =
    (refl, h.2 ∙ ap (from_be_bytes w32) (octets_once text h.0 k.0 h.1 k.1) ∙ sym k.2)
address_of_once Ipv4 Ipv6 text v w h k = absurd (IsDotted-not_colon_hex text h.0 k.0 h.1 k.1)
address_of_once Ipv6 Asn text v w h k = absurd k
address_of_once Ipv6 Ipv4 text v w h k = absurd (IsDotted-not_colon_hex text k.0 h.0 k.1 h.1)
address_of_once Ipv6 Ipv6 text v w h k =
    (refl, h.2 ∙ ap (λ g. from_be_bytes w128 (octets_of g)) (groups_once text h.0 k.0 h.1 k.1) ∙ sym k.2)

same_number : (m n : PlainNumber) → (m.space ≡ n.space) × (m.value ≡ n.value) → m ≡ n
same_number m n e = λ i. record { space = e.0 i; value = e.1 i }

pub address_once : (text : List ℕ) (m n : PlainNumber) → SpellsAddress text m → SpellsAddress text n → m ≡ n
address_once text m n h k = same_number m n (address_of_once m.space n.space text m.value n.value h k)

-- `AS` begins no address, since `S` is no byte of one
pub as_address : (space : Space) (text rest : List ℕ) (value : ℕ) → text ≡ codes "AS" ++ rest → SpellsAddressOf space text value → ⊥
as_address space text rest value e h =
    let bytes = All-same IsAddressByte (65 ∷ 83 ∷ rest) text (sym e) (address_bytes space text value h) in
    (All-head IsAddressByte 83 rest (All-tail IsAddressByte 65 (83 ∷ rest) bytes)).2 refl

number_of_once : (s t : Space) (text : List ℕ) (v w : ℕ) → SpellsNumberOf s text v → SpellsNumberOf t text w → (s ≡ t) × (v ≡ w)
number_of_once Asn Asn text v w h k =
    let same : decimal v ≡ decimal w = ap (λ t. drop 2 t) (sym h.0 ∙ k.0) in
    (refl, decimal_injective v w (omega (arith, h.1)) (omega (arith, k.1)) same)
number_of_once Asn Ipv4 text v w h k = absurd (as_address Ipv4 text (decimal v) w h.0 k)
number_of_once Asn Ipv6 text v w h k = absurd (as_address Ipv6 text (decimal v) w h.0 k)
number_of_once Ipv4 Asn text v w h k = absurd (as_address Ipv4 text (decimal w) v k.0 h)
number_of_once Ipv4 Ipv4 text v w h k = address_of_once Ipv4 Ipv4 text v w h k
number_of_once Ipv4 Ipv6 text v w h k = address_of_once Ipv4 Ipv6 text v w h k
number_of_once Ipv6 Asn text v w h k = absurd (as_address Ipv6 text (decimal w) v k.0 h)
number_of_once Ipv6 Ipv4 text v w h k = address_of_once Ipv6 Ipv4 text v w h k
number_of_once Ipv6 Ipv6 text v w h k = address_of_once Ipv6 Ipv6 text v w h k

pub number_once : (text : List ℕ) (m n : PlainNumber) → SpellsNumber text m → SpellsNumber text n → m ≡ n
number_once text m n h k = same_number m n (number_of_once m.space n.space text m.value n.value h k)

pub asn_once : (text : List ℕ) (m n : PlainNumber) → SpellsAsn text m → SpellsAsn text n → m ≡ n
asn_once text m n h k =
    same_number m n (h.0 ∙ sym k.0, decimal_injective m.value n.value (omega (arith, h.2)) (omega (arith, k.2)) (sym h.1 ∙ k.1))

-- a length has few digits
pub below : (space : Space) (len : ℕ) → len ≤ width_of space → len < 2 ^ 32
below Asn len h = omega arith
below Ipv4 len h = omega arith
below Ipv6 len h = omega arith

-- the parts of a block's text are the address and the length
pub block_parts : (text : List ℕ) (front back : List ℕ) (n : PlainNumber) (len : ℕ) → text ≡ front ++ 47 ∷ back → All (λ byte. byte ≢ 47) front → (h : SpellsBlock text n len) → (front ≡ h.0) × (back ≡ decimal len)
block_parts text front back n len e first h =
    same_parts 47 front back h.0 (decimal len) first (address_no_slash n.space h.0 n.value h.2) (sym e ∙ h.1 ∙ append_assoc h.0 (47 ∷ []) (decimal len))

pub block_once : (text : List ℕ) (m n : PlainNumber) (k l : ℕ) → SpellsBlock text m k → SpellsBlock text n l → (m ≡ n) × (k ≡ l)
block_once text m n k l g h =
    let parts = block_parts text g.0 (decimal k) n l (g.1 ∙ append_assoc g.0 (47 ∷ []) (decimal k)) (address_no_slash m.space g.0 m.value g.2) h in
    (address_once h.0 m n (subst (λ t. SpellsAddress t m) parts.0 g.2) h.2, decimal_injective k l (omega (arith, below m.space k g.3)) (omega (arith, below n.space l h.3)) parts.1)

one_once : (text : List ℕ) (r s : PlainRange) → IsOneNumber text r → IsOneNumber text s → r ≡ s
one_once text r s h k =
    let f : PlainNumber → PlainRange = λ n. record { space = n.space; first = n.value; last = n.value } in
    h.2 ∙ ap f (number_once text h.0 k.0 h.1 k.1) ∙ sym k.2

-- a number has no `/`
one_not_block : (text : List ℕ) (r s : PlainRange) → IsOneNumber text r → IsWholeBlock text s → ⊥
one_not_block text r s h (n, len, (address, spelled, is_address, fits), start, value) =
    let parted = spelled ∙ append_assoc address (47 ∷ []) (decimal len) in
    no_parts 47 address (decimal len) (All-same (λ byte. byte ≢ 47) (address ++ 47 ∷ decimal len) text (sym parted) (number_no_slash text h.0 h.1))

-- a number has no `-`
one_not_pair : (text : List ℕ) (r s : PlainRange) → IsOneNumber text r → IsFirstToLast text s → ⊥
one_not_pair text r s h (first, last, spelled, is_first, is_last, order) =
    let parted = spelled ∙ append_assoc first (45 ∷ []) last in
    no_parts 45 first last (All-same (λ byte. byte ≢ 45) (first ++ 45 ∷ last) text (sym parted) (number_no_dash text h.0 h.1))

block_range_once : (text : List ℕ) (r s : PlainRange) → IsWholeBlock text r → IsWholeBlock text s → r ≡ s
block_range_once text r s (m, k, g, start, value) (n, l, h, start', value') =
    let same = block_once text m n k l g h in
    value ∙ ap (λ n. block_of n.space n.value k) same.0 ∙ ap (λ len. block_of n.space n.value len) same.1 ∙ sym value'

-- a block has no `-`
block_not_pair : (text : List ℕ) (r s : PlainRange) → IsWholeBlock text r → IsFirstToLast text s → ⊥
block_not_pair text r s (n, len, (address, spelled, is_address, fits), start, value) (first, last, spelled', is_first, is_last, order) =
    let P : ℕ → Type 0 = λ byte. byte ≢ 45 in
    let slash : All P (47 ∷ []) = All-cons P 47 [] (omega arith) (All-nil P) in
    let front = All-append P address (47 ∷ []) (address_no_dash n.space address n.value is_address) slash in
    let whole = All-append P (address ++ 47 ∷ []) (decimal len) front (decimal_no_dash len (omega (arith, below n.space len fits))) in
    let parted = sym spelled ∙ spelled' ∙ append_assoc first (45 ∷ []) last in
    no_parts 45 first last (All-same P (first ++ 45 ∷ last) (address ++ (47 ∷ []) ++ decimal len) (sym parted) whole)

-- the parts of a range's text are the numbers
pub pair_parts : (text front back : List ℕ) (r : PlainRange) → text ≡ front ++ 45 ∷ back → All (λ byte. byte ≢ 45) front → (h : IsFirstToLast text r) → (front ≡ h.0) × (back ≡ h.1)
pair_parts text front back r e first h =
    same_parts 45 front back h.0 h.1 first (number_no_dash h.0 _ h.3) (sym e ∙ h.2 ∙ append_assoc h.0 (45 ∷ []) h.1)

pair_once : (text : List ℕ) (r s : PlainRange) → IsFirstToLast text r → IsFirstToLast text s → r ≡ s
pair_once text r s h k =
    let parts = pair_parts text h.0 h.1 s (h.2 ∙ append_assoc h.0 (45 ∷ []) h.1) (number_no_dash h.0 _ h.3) k in
    let first = number_once k.0 _ _ (subst (λ t. SpellsNumber t (record { space = r.space; value = r.first })) parts.0 h.3) k.3 in
    let last = number_once k.1 _ _ (subst (λ t. SpellsNumber t (record { space = r.space; value = r.last })) parts.1 h.4) k.4 in
    λ i. record { space = (first i).space; first = (first i).value; last = (last i).value }

pub range_once : (text : List ℕ) (r s : PlainRange) → SpellsRange text r → SpellsRange text s → r ≡ s
range_once text r s (inl h) (inl k) = one_once text r s h k
range_once text r s (inl h) (inr (inl k)) = absurd (one_not_block text r s h k)
range_once text r s (inl h) (inr (inr k)) = absurd (one_not_pair text r s h k)
range_once text r s (inr (inl h)) (inl k) = absurd (one_not_block text s r k h)
range_once text r s (inr (inl h)) (inr (inl k)) = block_range_once text r s h k
range_once text r s (inr (inl h)) (inr (inr k)) = absurd (block_not_pair text r s h k)
range_once text r s (inr (inr h)) (inl k) = absurd (one_not_pair text s r k h)
range_once text r s (inr (inr h)) (inr (inl k)) = absurd (block_not_pair text s r k h)
range_once text r s (inr (inr h)) (inr (inr k)) = pair_once text r s h k
