-- The name of a reverse cut spells its block.
use Rattle.std.proofs.Common.{◌≡◌, ℕ, zero, suc, ◌+◌, ◌-◌, ◌*◌, ◌/◌, ◌%◌, ◌^◌, ◌<◌, ◌≤◌, Bool, true, false, ◌&&◌, ◌||◌, ◌==◌, nat_le, cond, List, [], ◌∷◌, ◌++◌, length, map, filter, take, drop, All, bytes_eq, codes, Option, None, Some, inl, inr, refl, sym, ap, ◌∙◌, subst, arith, length-append, drop-drop, get_or, le-leb, pow_mono, pow_pos, pow-add, add-mul, mul_comm, length-drop}
use Rattle.std.proofs.lemmas.Bool.{cond-true, cond-false, cases_Bool, and_parts, eqb-true, leb-true, lt-leb}
use Rattle.std.proofs.lemmas.Bool.Decides.{nat_tests}
use Rattle.std.proofs.lemmas.List.Elements.{All-nil, All-cons, All-append}
use Rattle.std.proofs.lemmas.Slice.Eq.{bytes_eq-Decides}
use Rattle.std.proofs.Math.Pow.{split}
use Rattle.std.proofs.Math.Seq.{take-append_seam, drop-append_seam}
use Rattle.std.specs.List.{list_all, slice_split}
use Rattle.std.specs.Option.{option_and_then, is_some}
use Rattle.num_range.specs.declared.space.Space.{Space}
use Rattle.num_range.specs.declared.space.Space.TheVariants.{Asn, Ipv4, Ipv6}
use Rattle.num_range.specs.Space.{width_of}
use Rattle.num_range.specs.Range.{PlainRange, size_of}
use Rattle.num_range.specs.Block.{IsBlockStart, block_of}
use Rattle.num_range.specs.Cover.{is_cut_length}
use Rattle.reg_entry.specs.Whole.{IsCutBlock}
use Rattle.reverse_zone.specs.Apex.{label_text, labels_text}
use Rattle.reverse_zone.specs.Zone.{label_bits, label_at}
use Rattle.reverse_zone.specs.Delegated.{address_places, domain_of, reverse_name}
use Rattle.mirror_core.specs.Keys.{before_end, labels_of, labels_value, block_of_labels, cut_in, cut_of}
use Rattle.mirror_laws.proofs.Words.{IsWordByte, IsWord, bytes_same}
use Rattle.mirror_laws.proofs.Labels.{places_from, passing, label, labels_say, places_count, IsLabel, AreLabels, octet_label, nibble_label, labels_parted, labels_read, labels_bytes}

-- ---- the end of a name

pub end_off : (front end : List ℕ) → before_end end (front ++ end) ≡ Some front
end_off front end =
    let at : length (front ++ end) - length end ≡ length front = omega (arith, length-append front end) in
    ap (λ (n : ℕ). cond (bytes_eq (drop n (front ++ end)) end) (Some (take n (front ++ end))) None) at
    ∙ cond-true (bytes_eq (drop (length front) (front ++ end)) end) (Some (take (length front) (front ++ end))) None
    (ap (λ (t : List ℕ). bytes_eq t end) (drop-append_seam front end) ∙ bytes_same end)
    ∙ ap Some (take-append_seam front end)

-- no name of an IPv6 block ends as that of an IPv4 block
other_end : (front : List ℕ) → before_end (domain_of Ipv4) (front ++ domain_of Ipv6) ≡ None
other_end front =
    let text : List ℕ = front ++ domain_of Ipv6 in
    let end : List ℕ = drop (length text - 13) text in
    elim (cases_Bool (bytes_eq end (domain_of Ipv4))) [
      | inr differs ↦ cond-false (bytes_eq end (domain_of Ipv4)) (Some (take (length text - 13) text)) None differs
      | inl equal ↦
          let same : end ≡ domain_of Ipv4 = (bytes_eq-Decides end (domain_of Ipv4)).0 equal in
          let size : length end ≡ 13 = ap length same in
          let left : length end ≡ length text - (length text - 13) = length-drop (length text - 13) text in
          let whole : length text ≡ length front + 9 = length-append front (domain_of Ipv6) in
          let at : (length text - 13) + 4 ≡ length front = omega (arith, size, left, whole) in
          let tail : codes ".ip6.arpa" ≡ codes "addr.arpa" =
          sym (drop-append_seam front (domain_of Ipv6)) ∙ ap (λ (n : ℕ). drop n text) (sym at) ∙ sym (drop-drop 4 (length text - 13) text) ∙ ap (drop 4) same in
          let first : ◌≡◌ {A = ℕ} 46 97 = ap (λ (t : List ℕ). get_or t 0 0) tail in
          absurd (omega arith)
    ]

all_parted : (space : Space) (ls : List ℕ) → 0 < length ls → AreLabels space ls → slice_split (λ b. b == 46) (labels_text space ls) ≡ map (label_text space) ls
all_parted space [] some h = absurd (omega arith)
all_parted space (l ∷ ls) some h = labels_parted space l ls h

-- ---- the labels of a block

module _ (space : Space) (n k first : ℕ) where
  abbrev bits : ℕ
  bits = label_bits space

  abbrev len : ℕ
  len = k * bits

  abbrev above : ℕ
  above = width_of space - len

  abbrev block : PlainRange
  block = block_of space first len

  abbrev labels : List ℕ
  labels = map (label bits first) (places_from bits above k)

  -- the labels stand at places that are as wide as all addresses together
  record HasPlaces : Type 0 where
    some_bits : 1 ≤ bits
    width : width_of space ≡ n * bits
    places : address_places space ≡ places_from bits 0 n
    few : k ≤ n
    some : 1 ≤ k
    fits : first < 2 ^ width_of space
    aligned : first % 2 ^ above ≡ 0
    asked : is_cut_length space len ≡ true
    is_label : (l : ℕ) → l < 2 ^ bits → IsLabel space l

  size_is : size_of block ≡ 2 ^ above
  size_is = let some = pow_pos above in omega arith

  places_are : HasPlaces → filter (λ place. nat_le (size_of block) (2 ^ place)) (address_places space) ≡ places_from bits above k
  places_are h =
      let whole : (n - k) * bits + k * bits ≡ n * bits = sym (add-mul (n - k) k bits) ∙ ap (λ (m : ℕ). m * bits) (let e : n - k + k ≡ n = omega (arith, h.few) in e) in
      ap (filter (λ place. nat_le (size_of block) (2 ^ place))) h.places
      ∙ ap (λ (s : ℕ). filter (λ place. nat_le s (2 ^ place)) (places_from bits 0 n)) size_is
      ∙ passing bits above (λ place. nat_le (2 ^ above) (2 ^ place)) h.some_bits
      (λ q low. le-leb (2 ^ above) (2 ^ q) (pow_mono low))
      (λ q high. lt-leb (2 ^ above) (2 ^ q) (above_less q high))
      n (n - k) k 0 (omega (arith, h.few)) (omega (arith, whole, h.width))
    where
      above_less : (q : ℕ) → q < above → 2 ^ q < 2 ^ above
      above_less q high =
          let grows : 2 ^ (q + 1) ≤ 2 ^ above = pow_mono {i = q + 1} {j = above} (omega arith) in
          omega (arith, grows, pow-add 2 q 1, pow_pos q)

  are_labels : HasPlaces → AreLabels space labels
  are_labels h = each k above
    where
      each : (j p : ℕ) → AreLabels space (map (label bits first) (places_from bits p j))
      each zero p = tt
      each (suc j) p = (h.is_label (label bits first p) (let some = pow_pos bits in omega arith), each j (p + bits))

  block_read : HasPlaces → block_of_labels space labels ≡ Some block
  block_read h =
      let whole : (n - k) * bits + k * bits ≡ n * bits = sym (add-mul (n - k) k bits) ∙ ap (λ (m : ℕ). m * bits) (let e : n - k + k ≡ n = omega (arith, h.few) in e) in
      let count : length labels ≡ k = places_count bits first k above in
      let fits : first < 2 ^ (above + k * bits) = subst (λ (w : ℕ). first < 2 ^ w) (let e : width_of space ≡ above + k * bits = omega (arith, whole, h.width) in e) h.fits in
      let value : labels_value bits labels ≡ first / 2 ^ above = labels_say bits first k above fits in
      ap (λ (c : ℕ). at_length (bits * c)) count ∙ ap at_length (mul_comm bits k)
      ∙ cond-true (is_cut_length space len) (Some (block_of space (labels_value bits labels * 2 ^ above) len)) None h.asked
      ∙ ap (λ (v : ℕ). Some (block_of space v len)) (ap (λ (q : ℕ). q * 2 ^ above) value ∙ (let e : first / 2 ^ above * 2 ^ above ≡ first = omega (arith, split first above, h.aligned) in e))
    where
      at_length : ℕ → Option PlainRange
      at_length l = cond (is_cut_length space l) (Some (block_of space (labels_value bits labels * 2 ^ (width_of space - l)) l)) None

  name_is : HasPlaces → reverse_name block ≡ labels_text space labels ++ domain_of space
  name_is h = ap (λ (ps : List ℕ). labels_text space (map (label_at block) ps) ++ domain_of space) (places_are h)

  in_space : HasPlaces → cut_in space (labels_text space labels ++ domain_of space) ≡ Some block
  in_space h =
      ap (option_and_then (λ (front : List ℕ). option_and_then (block_of_labels space) (labels_of space (slice_split (λ b. b == 46) front)))) (end_off (labels_text space labels) (domain_of space))
      ∙ ap (λ (ts : List (List ℕ)). option_and_then (block_of_labels space) (labels_of space ts))
      (all_parted space labels (omega (arith, places_count bits first k above, h.some)) (are_labels h))
      ∙ ap (option_and_then (block_of_labels space)) (labels_read space labels (are_labels h))
      ∙ block_read h

  is_word : HasPlaces → All IsWordByte (domain_of space) → 0 < length (domain_of space) → IsWord (labels_text space labels ++ domain_of space)
  is_word h domain some = record {
    some = omega (arith, length-append (labels_text space labels) (domain_of space), some);
    bytes = All-append IsWordByte (labels_text space labels) (domain_of space) (labels_bytes space labels (are_labels h)) domain;
  }

-- ---- a cut

pub record SpellsCut (block : PlainRange) : Type 0 where
  pub read : cut_of (reverse_name block) ≡ Some block
  pub word : IsWord (reverse_name block)

domain_byte : (b : ℕ) → nat_le 33 b ≡ true → IsWordByte b
domain_byte b h = grind (arith, nat_tests)

all_bytes : (text : List ℕ) → list_all (nat_le 33) text ≡ true → All IsWordByte text
all_bytes [] h = All-nil IsWordByte
all_bytes (b ∷ text) h =
    let parts = and_parts (nat_le 33 b) (list_all (nat_le 33) text) h in
    All-cons IsWordByte b text (domain_byte b parts.0) (all_bytes text parts.1)

four_spells : (k first : ℕ) → HasPlaces Ipv4 4 k first → SpellsCut (block_of Ipv4 first (k * 8))
four_spells k first h =
    let name : List ℕ = labels_text Ipv4 (labels Ipv4 4 k first) ++ domain_of Ipv4 in
    record {
      read = ap cut_of (name_is Ipv4 4 k first h)
          ∙ ap (λ (o : Option (List ℕ)). cond (is_some o) (cut_in Ipv4 name) (cut_in Ipv6 name)) (end_off (labels_text Ipv4 (labels Ipv4 4 k first)) (domain_of Ipv4))
          ∙ in_space Ipv4 4 k first h;
      word = subst IsWord (sym (name_is Ipv4 4 k first h)) (is_word Ipv4 4 k first h (all_bytes (domain_of Ipv4) refl) (omega arith));
    }

six_spells : (k first : ℕ) → HasPlaces Ipv6 32 k first → SpellsCut (block_of Ipv6 first (k * 4))
six_spells k first h =
    let name : List ℕ = labels_text Ipv6 (labels Ipv6 32 k first) ++ domain_of Ipv6 in
    record {
      read = ap cut_of (name_is Ipv6 32 k first h)
          ∙ ap (λ (o : Option (List ℕ)). cond (is_some o) (cut_in Ipv4 name) (cut_in Ipv6 name)) (other_end (labels_text Ipv6 (labels Ipv6 32 k first)))
          ∙ in_space Ipv6 32 k first h;
      word = subst IsWord (sym (name_is Ipv6 32 k first h)) (is_word Ipv6 32 k first h (all_bytes (domain_of Ipv6) refl) (omega arith));
    }

four_has : (k first : ℕ) → 1 ≤ k → k ≤ 4 → is_cut_length Ipv4 (k * 8) ≡ true → IsBlockStart Ipv4 first (k * 8) → HasPlaces Ipv4 4 k first
four_has k first some few asked start = record {
  some_bits = omega arith;
  width = refl;
  places = refl;
  few = few;
  some = some;
  fits = omega (arith, start.1);
  aligned = start.2;
  asked = asked;
  is_label = octet_label;
}

six_has : (k first : ℕ) → 1 ≤ k → k ≤ 32 → is_cut_length Ipv6 (k * 4) ≡ true → IsBlockStart Ipv6 first (k * 4) → HasPlaces Ipv6 32 k first
six_has k first some few asked start = record {
  some_bits = omega arith;
  width = refl;
  places = refl;
  few = few;
  some = some;
  fits = omega (arith, start.1);
  aligned = start.2;
  asked = asked;
  is_label = nibble_label;
}

or_other : (x y : Bool) → x ≡ false → (x || y) ≡ true → y ≡ true
or_other true y h k = absurd (cc)
or_other false y h k = k

abbrev SpellsAt : Space → ℕ → ℕ → Type 0
SpellsAt space first len = is_cut_length space len ≡ true → IsBlockStart space first len → SpellsCut (block_of space first len)

spells_at : (space : Space) (first len : ℕ) → SpellsAt space first len
spells_at Asn first len asked start = absurd (cc)
spells_at Ipv4 first len asked start =
    elim (cases_Bool (len == 16)) [
      | inl is ↦ subst (SpellsAt Ipv4 first) (sym (eqb-true len 16 is)) (λ a s. four_spells 2 first (four_has 2 first (omega arith) (omega arith) a s)) asked start
      | inr other ↦
          let is : (len == 24) ≡ true = or_other (len == 16) (len == 24) other asked in
          subst (SpellsAt Ipv4 first) (sym (eqb-true len 24 is)) (λ a s. four_spells 3 first (four_has 3 first (omega arith) (omega arith) a s)) asked start
    ]
spells_at Ipv6 first len asked start =
    let parts = and_parts (nat_le 16 len && nat_le len 64) (len % 4 == 0) asked in
    let ends = and_parts (nat_le 16 len) (nat_le len 64) parts.0 in
    let low = leb-true 16 len ends.0 in
    let high = leb-true len 64 ends.1 in
    let even = eqb-true (len % 4) 0 parts.1 in
    let whole : len ≡ len / 4 * 4 = omega arith in
    subst (SpellsAt Ipv6 first) (sym whole) (λ a s. six_spells (len / 4) first (six_has (len / 4) first (omega arith) (omega arith) a s)) asked start

pub cut_spells : (block : PlainRange) → IsCutBlock block → SpellsCut block
cut_spells block h = subst SpellsCut (sym h.3) (spells_at block.space block.first h.0 h.1 h.2)
