-- The definitions that compute give what the grammar spells.
use Rattle.std.proofs.Common.{◌≡◌, ◌≢◌, ℕ, ◌%◌, ◌<◌, ◌≤◌, ◌^◌, ◌-◌, Bool, true, false, ◌&&◌, ◌==◌, nat_le, List, [], ◌∷◌, ◌++◌, take, drop, All, codes, decimal, Option, None, Some, MatchOption, IfSome, IfNone, inl, inr, refl, sym, ap, ◌∙◌, subst, append_assoc, append-nil, length, arith, take-append-drop, lit≤, ne_eqb, ⊎_elim, ◌⊎◌, if◌then◌else◌}
use Rattle.std.specs.Option.{option_map, option_and_then, option_or}
use Rattle.std.specs.Int.{w32, w128, from_be_bytes}
use Rattle.std.specs.Str.Parse.{digits_value}
use Rattle.std.specs.Net.Addr.{octets_of}
use Rattle.std.specs.Net.Grammar.{IsDotted, IsColonHex}
use Rattle.std.specs.Net.Reader.{Read, whole_value, read_ipv4, read_ipv6}
use Rattle.std.proofs.lemmas.Slice.Eq.{bytes_eq-Decides}
use Rattle.std.proofs.lemmas.Bool.{cond-true, leb-true, le-leb}
use Rattle.std.proofs.lemmas.Bool.Decides.{Decides-and, Decides-eqb, Decides-like, not_from_Decides}
use Rattle.std.proofs.lemmas.Fmt.{decimal_is_IsNumeral}
use Rattle.std.specs.Bool.{Decides}
use Rattle.std.proofs.lemmas.Option.{cond_some, none-some}
use Rattle.std.proofs.NetLemmas.Options.{same_parts}
use Rattle.std.proofs.lemmas.List.Elements.{All-nil, All-cons}
use Rattle.std.proofs.NetLemmas.Ipv4.{read_ipv4_complete, read_ipv4_sound}
use Rattle.std.proofs.NetLemmas.Ipv6.{read_ipv6_complete, read_ipv6_sound, EndsGroups-nil}
use Rattle.num_range.specs.declared.space.Space.{Space}
use Rattle.num_range.specs.declared.space.Space.TheVariants.{Asn, Ipv4, Ipv6}
use Rattle.num_range.specs.Space.{width_of, top_of, space_rank, same_space}
use Rattle.num_range.specs.Number.{PlainNumber}
use Rattle.num_range.specs.Range.{PlainRange}
use Rattle.num_range.specs.Block.{block_size, block_of}
use Rattle.addr_text.specs.Address.{SpellsIpv4, SpellsIpv6, SpellsAddressOf, SpellsAddress}
use Rattle.addr_text.specs.Number.{SpellsNumberOf, SpellsNumber}
use Rattle.addr_text.specs.Block.{SpellsBlock}
use Rattle.addr_text.specs.Range.{IsOneNumber, IsWholeBlock, IsFirstToLast, SpellsRange}
use Rattle.addr_text.specs.Reading.{IsSpelled, parted_at, decimal_up_to, number_in, ipv4_of, ipv6_of, address_of, asn_of, number_of, block_of_text, range_of_one, range_between, whole_block_of, first_to_last_of, range_of}
use Rattle.addr_text.proofs.Once.{address_once, number_once, block_parts, range_once}
use Rattle.addr_text.proofs.Valid.{number_valid}
use Rattle.addr_text.proofs.Parsed.{no_address, no_block, no_asn, no_number, no_whole_block, no_pair, no_pair_first, no_pair_last, no_pair_order, no_range}

-- one value that the text spells, found in two ways
pub same_value : {T : Type 0} (Spells : T → Type 0) → ((x y : T) → Spells x → Spells y → x ≡ y) → (a b : Option T) → IfSome a Spells → IfNone a ((x : T) → ¬ (Spells x)) → IsSpelled Spells b → a ≡ b
same_value Spells once None None some none h = refl
same_value Spells once None (Some y) some none h = absurd (none y h)
same_value Spells once (Some x) None some none h = absurd (h x some)
same_value Spells once (Some x) (Some y) some none h = ap Some (once x y some h)

-- ---- how such values are made of others

pub spelled_if : {T : Type 0} (S : T → Type 0) (P : Type 0) (b : Bool) (x : T) → Decides b P → (P → S x) → (¬ P → (y : T) → ¬ (S y)) → IsSpelled S (if b then Some x else None)
spelled_if S P true x d some none = some (d.0 refl)
spelled_if S P false x d some none = none (not_from_Decides false d refl)

pub spelled_then : {A B : Type 0} (S : A → Type 0) (Q : B → Type 0) (o : Option A) (f : A → Option B) → IsSpelled S o → ((x : A) → S x → IsSpelled Q (f x)) → (((x : A) → ¬ (S x)) → (y : B) → ¬ (Q y)) → IsSpelled Q (option_and_then f o)
spelled_then S Q None f h some none = none h
spelled_then S Q (Some x) f h some none = some x h

pub spelled_map : {A B : Type 0} (S : A → Type 0) (Q : B → Type 0) (g : A → B) (o : Option A) → IsSpelled S o → ((x : A) → S x → Q (g x)) → (((x : A) → ¬ (S x)) → (y : B) → ¬ (Q y)) → IsSpelled Q (option_map g o)
spelled_map S Q g None h some none = none h
spelled_map S Q g (Some x) h some none = some x h

pub spelled_or : {T : Type 0} (S Q R : T → Type 0) (a b : Option T) → IsSpelled S a → IsSpelled Q b → ((x : T) → S x → R x) → ((x : T) → Q x → R x) → (((x : T) → ¬ (S x)) → ((x : T) → ¬ (Q x)) → (x : T) → ¬ (R x)) → IsSpelled R (option_or a b)
spelled_or S Q R (Some x) b h k left right none = left x h
spelled_or S Q R None (Some y) h k left right none = right y k
spelled_or S Q R None None h k left right none = none h k

-- a reader of the front of a text, used on the whole of it
module _ {A : Type 0} (Spells : List ℕ → A → Type 0) (text : List ℕ) (read : Read A)
    (sound : (a : A) (rest : List ℕ) → read ≡ Some (a, rest) → (front : List ℕ) × (text ≡ front ++ rest) × Spells front a)
    (complete : (a : A) → Spells text a → read ≡ Some (a, [])) where
  at_end : (r : Read A) → read ≡ r → IsSpelled (Spells text) (whole_value r)
  at_end None e = λ a h. none-some _ (sym e ∙ complete a h)
  at_end (Some (a, [])) e =
      let (front, split, spells) = sound a [] e in
      subst (λ t. Spells t a) (sym (split ∙ append-nil front)) spells
  at_end (Some (a, c ∷ rest)) e =
      rw (ne_eqb (length (c ∷ rest)) 0 (omega arith)) λ other spells.
      let left = (same_parts _ _ _ _ (sym e ∙ complete other spells)).1 in
      cc

  pub spelled_whole : IsSpelled (Spells text) (whole_value read)
  spelled_whole = at_end read refl

-- ---- decimals

abbrev pub IsDecimalUpTo : ℕ → List ℕ → ℕ → Type 0
IsDecimalUpTo most text n = (text ≡ decimal n) × (n ≤ most)

pub decimal_spelled : (most : ℕ) (text : List ℕ) → most < 2 ^ 64 → IsSpelled (IsDecimalUpTo most text) (decimal_up_to most text)
decimal_spelled most text fits =
    let v = digits_value 10 text in
    spelled_if (IsDecimalUpTo most text) ((decimal v ≡ text) × (v ≤ most)) _ v
    (Decides-and _ _ (bytes_eq-Decides (decimal v) text) (leb-true v most, le-leb v most))
    (λ p. (sym p.0, p.1))
    λ none n h.
    let same : v ≡ n = ap (digits_value 10) h.0 ∙ (decimal_is_IsNumeral n (omega (arith, h.1))).1 in
    none (ap decimal same ∙ sym h.0, omega (arith, h.1))

-- the number that a text is the decimal of is the one that its digits are worth
pub decimal_found : (most n : ℕ) (text : List ℕ) → text ≡ decimal n → n ≤ most → most < 2 ^ 64 → decimal_up_to most text ≡ Some n
decimal_found most n text e below fits =
    let v = digits_value 10 text in
    let same : v ≡ n = ap (digits_value 10) e ∙ (decimal_is_IsNumeral n (omega arith)).1 in
    let written : decimal v ≡ text = ap decimal same ∙ sym e in
    let most_is : v ≤ most = omega (arith, same) in
    cond-true _ (Some v) None ((Decides-and _ _ (bytes_eq-Decides (decimal v) text) (leb-true v most, le-leb v most)).1 (written, most_is))
    ∙ ap Some same

pub decimal_read : (most n : ℕ) (text : List ℕ) → decimal_up_to most text ≡ Some n → (text ≡ decimal n) × (n ≤ most)
decimal_read most n text e =
    let v = digits_value 10 text in
    let (tests, same) = cond_some _ v n e in
    let both = (Decides-and _ _ (bytes_eq-Decides (decimal v) text) (leb-true v most, le-leb v most)).0 tests in
    (sym both.0 ∙ ap decimal same, omega (arith, both.1, same))

-- where there is none below a bound, the text is the decimal of none there
pub no_decimal : (bound : ℕ) (text : List ℕ) (o : Option ℕ) → bound ≤ 2 ^ 64 → o ≡ decimal_up_to (bound - 1) text → IfNone o ((n : ℕ) → n < bound → text ≢ decimal n)
no_decimal bound text None fits e = λ n below spelled. none-some n (e ∙ decimal_found (bound - 1) n text spelled (omega (arith, below)) (omega (arith, fits, below)))
no_decimal bound text (Some n) fits e = tt

-- ---- addresses

pub ipv4_spelled : (text : List ℕ) → IsSpelled (SpellsIpv4 text) (ipv4_of text)
ipv4_spelled text =
    spelled_map (IsDotted text) (SpellsIpv4 text) (from_be_bytes w32) _
    (spelled_whole IsDotted text (read_ipv4 text) (read_ipv4_sound text)
    (λ octets h. ap read_ipv4 (sym (append-nil text)) ∙ read_ipv4_complete text octets [] h (lit≤ tt)))
    (λ octets h. (octets, h, refl))
    (λ none value h. none h.0 h.1)

pub ipv6_spelled : (text : List ℕ) → IsSpelled (SpellsIpv6 text) (ipv6_of text)
ipv6_spelled text =
    spelled_map (IsColonHex text) (SpellsIpv6 text) (λ groups. from_be_bytes w128 (octets_of groups)) _
    (spelled_whole IsColonHex text (read_ipv6 text) (read_ipv6_sound text)
    (λ groups h. ap read_ipv6 (sym (append-nil text)) ∙ read_ipv6_complete text groups [] h EndsGroups-nil))
    (λ groups h. (groups, h, refl))
    (λ none value h. none h.0 h.1)

-- an address of one space
abbrev IsAddressIn : Space → List ℕ → PlainNumber → Type 0
IsAddressIn space text n = (n.space ≡ space) × SpellsAddress text n

pub address_spelled : (text : List ℕ) → IsSpelled (SpellsAddress text) (address_of text)
address_spelled text =
    spelled_or (IsAddressIn Ipv4 text) (IsAddressIn Ipv6 text) (SpellsAddress text) _ _
    (spelled_map (SpellsIpv4 text) (IsAddressIn Ipv4 text) (number_in Ipv4) _ (ipv4_spelled text)
    (λ value h. (refl, h)) (λ none n h. none n.value (subst (λ s. SpellsAddressOf s text n.value) h.0 h.1)))
    (spelled_map (SpellsIpv6 text) (IsAddressIn Ipv6 text) (number_in Ipv6) _ (ipv6_spelled text)
    (λ value h. (refl, h)) (λ none n h. none n.value (subst (λ s. SpellsAddressOf s text n.value) h.0 h.1)))
    (λ n h. h.1) (λ n h. h.1)
    (λ four six. no_address text (λ value h. four (number_in Ipv4 value) (refl, h)) (λ value h. six (number_in Ipv6 value) (refl, h)))

-- ---- numbers

-- the same value, seen as that of another form
spelled_as : {T : Type 0} (S Q : T → Type 0) (o : Option T) → IsSpelled S o → ((x : T) → S x → Q x) → (((x : T) → ¬ (S x)) → (x : T) → ¬ (Q x)) → IsSpelled Q o
spelled_as S Q None h some none = none h
spelled_as S Q (Some x) h some none = some x h

address_is_number : (text : List ℕ) (n : PlainNumber) → SpellsAddress text n → SpellsNumber text n
address_is_number text n h = in_space n.space n.value h
  where
    in_space : (space : Space) (value : ℕ) → SpellsAddressOf space text value → SpellsNumberOf space text value
    in_space Asn value h = absurd h
    in_space Ipv4 value h = h
    in_space Ipv6 value h = h

-- without `AS` at its front, which `asn` tells
number_at : (text : List ℕ) (asn : Bool) → Decides asn (take 2 text ≡ codes "AS") → IsSpelled (SpellsNumber text) (if asn then asn_of (drop 2 text) else address_of text)
number_at text true d =
    let shown : text ≡ codes "AS" ++ drop 2 text = sym (take-append-drop 2 text) ∙ ap (λ t. t ++ drop 2 text) (d.0 refl) in
    spelled_number text shown
  where
    spelled_number : (text : List ℕ) → text ≡ codes "AS" ++ drop 2 text → IsSpelled (SpellsNumber text) (asn_of (drop 2 text))
    spelled_number text shown =
        spelled_map (IsDecimalUpTo (top_of Asn) (drop 2 text)) (SpellsNumber text) (number_in Asn) _ (decimal_spelled (top_of Asn) (drop 2 text) (omega arith))
        (λ value h. (shown ∙ ap (λ t. codes "AS" ++ t) h.0, h.1))
        (λ none. no_asn text (drop 2 text) shown λ n h. none n.value (h.1, h.2))
number_at text false d =
    spelled_as (SpellsAddress text) (SpellsNumber text) _ (address_spelled text)
    (λ n h. address_is_number text n h)
    (no_number text λ rest e. not_from_Decides false d refl (ap (take 2) e))

pub number_spelled : (text : List ℕ) → IsSpelled (SpellsNumber text) (number_of text)
number_spelled text = number_at text _ (bytes_eq-Decides (take 2 text) (codes "AS"))

-- ---- blocks

abbrev pub IsPartedAt : ℕ → List ℕ → List ℕ × List ℕ → Type 0
IsPartedAt c text parts = (text ≡ parts.0 ++ c ∷ parts.1) × All (λ byte. byte ≢ c) parts.0

pub parted_first : (c : ℕ) (text : List ℕ) → MatchOption (parted_at c text) (All (λ byte. byte ≢ c) text) (IsPartedAt c text)
parted_first c [] = All-nil (λ byte. byte ≢ c)
parted_first c (b ∷ bs) = at (b == c) (Decides-eqb b c) (parted_first c bs)
  where
    more : (o : Option (List ℕ × List ℕ)) → b ≢ c → MatchOption o (All (λ byte. byte ≢ c) bs) (IsPartedAt c bs) → MatchOption (option_map (λ parts. (b ∷ parts.0, parts.1)) o) (All (λ byte. byte ≢ c) (b ∷ bs)) (IsPartedAt c (b ∷ bs))
    more None other h = All-cons (λ byte. byte ≢ c) b bs other h
    more (Some parts) other h = (ap (λ t. b ∷ t) h.0, All-cons (λ byte. byte ≢ c) b parts.0 other h.1)

    at : (same : Bool) → Decides same (b ≡ c) → MatchOption (parted_at c bs) (All (λ byte. byte ≢ c) bs) (IsPartedAt c bs) → MatchOption (if same then Some ([], bs) else option_map (λ parts. (b ∷ parts.0, parts.1)) (parted_at c bs)) (All (λ byte. byte ≢ c) (b ∷ bs)) (IsPartedAt c (b ∷ bs))
    at true d later = (ap (λ x. x ∷ bs) (d.0 refl), All-nil (λ byte. byte ≢ c))
    at false d later = more _ (not_from_Decides false d refl) later

width_small : (space : Space) → width_of space < 2 ^ 64
width_small Asn = omega arith
width_small Ipv4 = omega arith
width_small Ipv6 = omega arith

abbrev IsBlockText : List ℕ → PlainNumber × ℕ → Type 0
IsBlockText text b = SpellsBlock text b.0 b.1

pub block_spelled : (text : List ℕ) → IsSpelled (IsBlockText text) (block_of_text text)
unfolding block_of_text
block_spelled text = at (parted_at 47 text) (parted_first 47 text)
  where
    at : (o : Option (List ℕ × List ℕ)) → MatchOption o (All (λ byte. byte ≢ 47) text) (IsPartedAt 47 text) → IsSpelled (IsBlockText text) (option_and_then (λ parts. option_and_then (λ n. option_and_then (λ len. Some (n, len)) (decimal_up_to (width_of n.space) parts.1)) (address_of parts.0)) o)
    at None h = λ b. no_block text h b.0 b.1
    at (Some parts) h =
        spelled_then (SpellsAddress parts.0) (IsBlockText text) _ _ (address_spelled parts.0)
        (λ n is_address.
        spelled_then (IsDecimalUpTo (width_of n.space) parts.1) (IsBlockText text) _ _ (decimal_spelled (width_of n.space) parts.1 (width_small n.space))
        (λ len d. (parts.0, h.0 ∙ ap (λ t. parts.0 ++ 47 ∷ t) d.0 ∙ sym (append_assoc parts.0 (47 ∷ []) (decimal len)), is_address, d.1))
        (λ none b k.
        let same = block_parts text parts.0 parts.1 b.0 b.1 h.0 h.1 k in
        let number = address_once parts.0 n b.0 is_address (subst (λ t. SpellsAddress t b.0) (sym same.0) k.2) in
        none b.1 (same.1, subst (λ (m : PlainNumber). b.1 ≤ width_of m.space) (sym number) k.3)))
        (λ none b k.
        none b.0 (subst (λ t. SpellsAddress t b.0) (sym (block_parts text parts.0 parts.1 b.0 b.1 h.0 h.1 k).0) k.2))

-- ---- ranges

whole_block_spelled : (text : List ℕ) → IsSpelled (IsWholeBlock text) (whole_block_of text)
unfolding whole_block_of
whole_block_spelled text =
    spelled_then (IsBlockText text) (IsWholeBlock text) _ _ (block_spelled text)
    (λ b h.
    spelled_if (IsWholeBlock text) (b.0.value % block_size b.0.space b.1 ≡ 0) _ (block_of b.0.space b.0.value b.1) (Decides-eqb _ 0)
    (λ aligned. (b.0, b.1, h, (h.3, number_valid h.0 b.0 (address_is_number h.0 b.0 h.2), aligned), refl))
    (λ other r k. no_whole_block text b.0 b.1 h (λ start. other start.2) r k))
    (λ none r k. none (k.0, k.1) k.2)

same_space_decides : (a b : Space) → Decides (same_space a b) (a ≡ b)
same_space_decides a b = Decides-like _ (rank_once a b) (ap space_rank) (Decides-eqb (space_rank a) (space_rank b))
  where
    rank_once : (a b : Space) → space_rank a ≡ space_rank b → a ≡ b
    rank_once Asn Asn e = refl
    rank_once Asn Ipv4 e = absurd (omega (arith, e))
    rank_once Asn Ipv6 e = absurd (omega (arith, e))
    rank_once Ipv4 Asn e = absurd (omega (arith, e))
    rank_once Ipv4 Ipv4 e = refl
    rank_once Ipv4 Ipv6 e = absurd (omega (arith, e))
    rank_once Ipv6 Asn e = absurd (omega (arith, e))
    rank_once Ipv6 Ipv4 e = absurd (omega (arith, e))
    rank_once Ipv6 Ipv6 e = refl

first_to_last_spelled : (text : List ℕ) → IsSpelled (IsFirstToLast text) (first_to_last_of text)
unfolding first_to_last_of
first_to_last_spelled text = at (parted_at 45 text) (parted_first 45 text)
  where
    at : (o : Option (List ℕ × List ℕ)) → MatchOption o (All (λ byte. byte ≢ 45) text) (IsPartedAt 45 text) → IsSpelled (IsFirstToLast text) (option_and_then (λ parts. option_and_then (λ first. option_and_then (λ last. if same_space first.space last.space && nat_le first.value last.value then Some (range_between first last) else None) (number_of parts.1)) (number_of parts.0)) o)
    at None h = no_pair text h
    at (Some parts) h =
        spelled_then (SpellsNumber parts.0) (IsFirstToLast text) _ _ (number_spelled parts.0)
        (λ m is_first.
        spelled_then (SpellsNumber parts.1) (IsFirstToLast text) _ _ (number_spelled parts.1)
        (λ n is_last.
        spelled_if (IsFirstToLast text) ((m.space ≡ n.space) × (m.value ≤ n.value)) _ (range_between m n)
        (Decides-and _ _ (same_space_decides m.space n.space) (leb-true m.value n.value, le-leb m.value n.value))
        (λ both. (parts.0, parts.1, h.0 ∙ sym (append_assoc parts.0 (45 ∷ []) parts.1), is_first, subst (λ s. SpellsNumber parts.1 (record { space = s; value = n.value })) (sym both.0) is_last, both.1))
        (λ other. no_pair_order text parts.0 parts.1 h.0 h.1 m n is_first is_last other))
        (no_pair_last text parts.0 parts.1 h.0 h.1))
        (no_pair_first text parts.0 parts.1 h.0 h.1)

pub range_spelled : (text : List ℕ) → IsSpelled (SpellsRange text) (range_of text)
range_spelled text =
    spelled_or (IsOneNumber text) (λ r. IsWholeBlock text r ⊎ IsFirstToLast text r) (SpellsRange text) _ _
    (spelled_map (SpellsNumber text) (IsOneNumber text) range_of_one _ (number_spelled text) (λ n h. (n, h, refl)) (λ none r h. none h.0 h.1))
    (spelled_or (IsWholeBlock text) (IsFirstToLast text) (λ r. IsWholeBlock text r ⊎ IsFirstToLast text r) _ _
    (whole_block_spelled text) (first_to_last_spelled text) (λ r h. inl h) (λ r h. inr h)
    (λ block pair r h. ⊎_elim (block r) (pair r) h))
    (λ r h. inl h) (λ r h. inr h)
    (λ one other. no_range text one (λ r h. other r (inl h)) (λ r h. other r (inr h)))

-- ---- what the readers give

pub number_value : (text : List ℕ) (o : Option PlainNumber) → IfSome o (SpellsNumber text) → IfNone o ((n : PlainNumber) → ¬ (SpellsNumber text n)) → o ≡ number_of text
number_value text o some none = same_value (SpellsNumber text) (number_once text) o (number_of text) some none (number_spelled text)

pub range_value : (text : List ℕ) (o : Option PlainRange) → IfSome o (SpellsRange text) → IfNone o ((r : PlainRange) → ¬ (SpellsRange text r)) → o ≡ range_of text
range_value text o some none = same_value (SpellsRange text) (range_once text) o (range_of text) some none (range_spelled text)
