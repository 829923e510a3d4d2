-- A cut's name and that of its zone are the whole name of the block.
use Rattle.std.proofs.Common.{◌≡◌, ℕ, ◌+◌, ◌*◌, ◌/◌, ◌%◌, ◌^◌, ◌<◌, ◌≤◌, nat_le, List, [], ◌∷◌, ◌++◌, length, map, filter, codes, append_assoc, append-nil, refl, sym, ap, ◌∙◌, arith}
use Rattle.std.specs.List.{flat_map}
use Rattle.std.proofs.lemmas.Bool.{cond-true, cond-false}
use Rattle.std.proofs.lemmas.Grind.{flat_map-append}
use Rattle.std.proofs.lemmas.List.Elements.{filter-append}
use Rattle.std.proofs.lemmas.Nat.{pow-add}
use Rattle.std.proofs.Math.Nat.{div-div-eq-div-mul, mod-eq_of_lt}
use Rattle.num_range.specs.declared.space.Space.{Space}
use Rattle.num_range.specs.declared.space.Space.TheVariants.{Ipv4, Ipv6}
use Rattle.num_range.specs.Range.{PlainRange, IsInside, size_of}
use Rattle.cidr_cover.specs.Cuts.{IsReverseCut}
use Rattle.reverse_zone.specs.declared.apex.Apex.{Apex}
use Rattle.reverse_zone.specs.declared.apex.Apex.TheVariants.{Four, Six}
use Rattle.reverse_zone.specs.Apex.{IsApex, apex_range, apex_name, label_text, labels_text, nibble_labels}
use Rattle.reverse_zone.specs.Zone.{label_bits, label_places, label_at, cut_labels, cut_name}
use Rattle.reverse_zone.specs.Delegated.{address_places, domain_of, reverse_name}
use Rattle.reverse_zone.proofs.Parts.{cut_order}
use Rattle.reverse_zone.proofs.Names.{IsLabelled, labelled4, labelled6, labels_are, labels_some, size_labelled, power_passes, power_fails, quotient_is}

-- ---- labels in two parts

joined_labels : (space : Space) (ls ms : List ℕ) → (ls ≡ [] → ⊥) → (ms ≡ [] → ⊥)
    → labels_text space (ls ++ ms) ≡ labels_text space ls ++ (codes "." ++ labels_text space ms)
joined_labels space [] ms some also = absurd (some refl)
joined_labels space (l ∷ ls) [] some also = absurd (also refl)
joined_labels space (l ∷ ls) (m ∷ ms) some also =
    ap (λ (t : List ℕ). label_text space l ++ t) (flat_map-append (λ k. codes "." ++ label_text space k) ls (m ∷ ms))
    ∙ sym (append_assoc (label_text space l) (flat_map (λ k. codes "." ++ label_text space k) ls)
    ((codes "." ++ label_text space m) ++ flat_map (λ k. codes "." ++ label_text space k) ms))

abbrev digits_at : Space → ℕ → List ℕ → List ℕ
digits_at space first ps = map (λ p. first / 2 ^ p % 2 ^ label_bits space) ps

abbrev passing : ℕ → List ℕ → List ℕ
passing size ps = filter (λ p. nat_le size (2 ^ p)) ps

digits_append : (space : Space) (first : ℕ) (ps qs : List ℕ) → digits_at space first (ps ++ qs) ≡ digits_at space first ps ++ digits_at space first qs
digits_append space first [] qs = refl
digits_append space first (p ∷ ps) qs = ap (λ (ds : List ℕ). first / 2 ^ p % 2 ^ label_bits space ∷ ds) (digits_append space first ps qs)

-- places below the size, and places no less than it
abbrev AllBelow : ℕ → List ℕ → Type 0
AllBelow e [] = Unit {0}
AllBelow e (p ∷ ps) = (p < e) × AllBelow e ps

abbrev AllFrom : ℕ → List ℕ → Type 0
AllFrom e [] = Unit {0}
AllFrom e (p ∷ ps) = (e ≤ p) × AllFrom e ps

none_pass : (e : ℕ) (ps : List ℕ) → AllBelow e ps → passing (2 ^ e) ps ≡ []
none_pass e [] h = refl
none_pass e (p ∷ ps) h = cond-false (nat_le (2 ^ e) (2 ^ p)) (p ∷ passing (2 ^ e) ps) (passing (2 ^ e) ps) (power_fails e p h.0) ∙ none_pass e ps h.1

all_pass : (e : ℕ) (ps : List ℕ) → AllFrom e ps → passing (2 ^ e) ps ≡ ps
all_pass e [] h = refl
all_pass e (p ∷ ps) h =
    cond-true (nat_le (2 ^ e) (2 ^ p)) (p ∷ passing (2 ^ e) ps) (passing (2 ^ e) ps) (power_passes e p h.0)
    ∙ ap (λ (qs : List ℕ). p ∷ qs) (all_pass e ps h.1)

-- of all places those below are left out, and those above are all there
in_parts : (space : Space) (e first : ℕ) (below mid above : List ℕ) → AllBelow e below → AllFrom e above
    → digits_at space first (passing (2 ^ e) (below ++ (mid ++ above))) ≡ digits_at space first (passing (2 ^ e) mid) ++ digits_at space first above
in_parts space e first below mid above low high =
    ap (digits_at space first)
    (filter-append (λ p. nat_le (2 ^ e) (2 ^ p)) below (mid ++ above)
    ∙ ap (λ (ps : List ℕ). ps ++ passing (2 ^ e) (mid ++ above)) (none_pass e below low)
    ∙ filter-append (λ p. nat_le (2 ^ e) (2 ^ p)) mid above
    ∙ ap (λ (ps : List ℕ). passing (2 ^ e) mid ++ ps) (all_pass e above high))
    ∙ digits_append space first (passing (2 ^ e) mid) above

-- ---- the whole name

module _ (space : Space) (n place : ℕ) (c : PlainRange) (h : IsLabelled space (label_bits space) n place c) where
  abbrev bits_of : ℕ
  bits_of = place + label_bits space * h.digits

  -- the labels of the block at all places
  all_labels_of : (below above : List ℕ) → address_places space ≡ below ++ (label_places space ++ above) → AllBelow bits_of below → AllFrom bits_of above
      → map (label_at c) (passing (size_of c) (address_places c.space)) ≡ cut_labels c ++ digits_at space c.first above
  all_labels_of below above parts low high =
      ap (λ s. digits_at s c.first (passing (size_of c) (address_places s))) h.of_space
      ∙ ap (λ size. digits_at space c.first (passing size (address_places space))) (size_labelled space (label_bits space) n place c h)
      ∙ ap (λ ps. digits_at space c.first (passing (2 ^ bits_of) ps)) parts
      ∙ in_parts space bits_of c.first below (label_places space) above low high
      ∙ ap (λ size. digits_at space c.first (passing size (label_places space)) ++ digits_at space c.first above)
      (sym (size_labelled space (label_bits space) n place c h))
      ∙ ap (λ s. digits_at s c.first (passing (size_of c) (label_places s)) ++ digits_at space c.first above) (sym h.of_space)

  whole_name : (below above : List ℕ) (name : List ℕ) → address_places space ≡ below ++ (label_places space ++ above) → AllBelow bits_of below
      → AllFrom bits_of above → (cut_labels c ≡ [] → ⊥) → (digits_at space c.first above ≡ [] → ⊥)
      → name ≡ labels_text space (digits_at space c.first above) ++ domain_of space → cut_name c ++ codes "." ++ name ≡ reverse_name c
  whole_name below above name parts low high some also is =
      append_assoc (cut_name c) (codes ".") name
      ∙ ap (λ (t : List ℕ). cut_name c ++ (codes "." ++ t)) is
      ∙ ap (λ (t : List ℕ). cut_name c ++ t) (sym (append_assoc (codes ".") (labels_text space (digits_at space c.first above)) (domain_of space)))
      ∙ sym (append_assoc (cut_name c) (codes "." ++ labels_text space (digits_at space c.first above)) (domain_of space))
      ∙ ap (λ s. (labels_text s (cut_labels c) ++ (codes "." ++ labels_text space (digits_at space c.first above))) ++ domain_of space) h.of_space
      ∙ ap (λ (t : List ℕ). t ++ domain_of space) (sym (joined_labels space (cut_labels c) (digits_at space c.first above) some also))
      ∙ ap (λ (ls : List ℕ). labels_text space ls ++ domain_of space) (sym (all_labels_of below above parts low high))
      ∙ ap (λ s. labels_text s (map (label_at c) (passing (size_of c) (address_places c.space))) ++ domain_of s) (sym h.of_space)

cons_some : (x : ℕ) (xs : List ℕ) → x ∷ xs ≡ [] → ⊥
cons_some x xs e = let h : length (x ∷ xs) ≡ 0 = ap length e in omega arith

pub whole_names : (apex : Apex) (r c : PlainRange) → IsApex apex → IsReverseCut r c → IsInside c (apex_range apex)
    → cut_name c ++ codes "." ++ apex_name apex ≡ reverse_name c
whole_names (Four octet) r c valid cut inside =
    let order = cut_order r c cut in
    let low = inside.1 in
    let high = inside.2 in
    let h = labelled4 r c cut inside.0 in
    let few = h.fits in
    let octet_is : c.first / 2 ^ 24 ≡ octet = quotient_is c.first octet (2 ^ 24) (omega arith) low (omega arith) in
    let label : c.first / 2 ^ 24 % 2 ^ 8 ≡ octet = ap (λ k. k % 2 ^ 8) octet_is ∙ mod-eq_of_lt valid in
    whole_name Ipv4 2 8 c h (0 ∷ []) (24 ∷ []) (apex_name (Four octet)) refl (omega arith, tt) (omega arith, tt)
    (λ e. labels_some (label_bits Ipv4) 2 8 h.digits c.first (omega arith) (sym (labels_are Ipv4 2 8 tt (omega arith) refl c h) ∙ e))
    (cons_some _ _)
    (ap (λ (t : List ℕ). t ++ codes ".in-addr.arpa") (sym (append-nil (label_text Ipv4 octet)))
    ∙ ap (λ (k : ℕ). labels_text Ipv4 (k ∷ []) ++ codes ".in-addr.arpa") (sym label))
whole_names (Six nibbles) r c valid cut inside =
    let order = cut_order r c cut in
    let low = inside.1 in
    let high = inside.2 in
    let h = labelled6 r c cut inside.0 in
    let few = h.fits in
    let most = valid.1 in
    let nibbles_are : c.first / 2 ^ 116 ≡ nibbles = quotient_is c.first nibbles (2 ^ 116) (omega arith) low (omega arith) in
    let above : (k : ℕ) → c.first / 2 ^ (116 + k) ≡ nibbles / 2 ^ k
    = λ k. ap (λ d. c.first / d) (pow-add 2 116 k) ∙ sym (div-div-eq-div-mul c.first (2 ^ 116) (2 ^ k)) ∙ ap (λ q. q / 2 ^ k) nibbles_are in
    let first : c.first / 2 ^ 116 % 2 ^ 4 ≡ nibbles % 16 = ap (λ k. k % 2 ^ 4) nibbles_are in
    let second : c.first / 2 ^ 120 % 2 ^ 4 ≡ nibbles / 16 % 16 = ap (λ k. k % 2 ^ 4) (above 4) in
    let third : c.first / 2 ^ 124 % 2 ^ 4 ≡ nibbles / 256 = ap (λ k. k % 2 ^ 4) (above 8) ∙ mod-eq_of_lt (omega arith) in
    let labels : nibble_labels nibbles ≡ digits_at Ipv6 c.first (116 ∷ 120 ∷ 124 ∷ [])
    = ap (λ (k : ℕ). k ∷ nibbles / 16 % 16 ∷ nibbles / 256 ∷ []) (sym first)
    ∙ ap (λ (k : ℕ). c.first / 2 ^ 116 % 2 ^ 4 ∷ k ∷ nibbles / 256 ∷ []) (sym second)
    ∙ ap (λ (k : ℕ). c.first / 2 ^ 116 % 2 ^ 4 ∷ c.first / 2 ^ 120 % 2 ^ 4 ∷ k ∷ []) (sym third) in
    whole_name Ipv6 13 64 c h (0 ∷ 4 ∷ 8 ∷ 12 ∷ 16 ∷ 20 ∷ 24 ∷ 28 ∷ 32 ∷ 36 ∷ 40 ∷ 44 ∷ 48 ∷ 52 ∷ 56 ∷ 60 ∷ []) (116 ∷ 120 ∷ 124 ∷ [])
    (apex_name (Six nibbles)) refl
    (omega arith, (omega arith, (omega arith, (omega arith, (omega arith, (omega arith, (omega arith, (omega arith, (omega arith, (omega arith, (omega arith, (omega arith, (omega arith, (omega arith, (omega arith, (omega arith, tt))))))))))))))))
    (omega arith, (omega arith, (omega arith, tt)))
    (λ e. labels_some (label_bits Ipv6) 13 64 h.digits c.first (omega arith) (sym (labels_are Ipv6 13 64 tt (omega arith) refl c h) ∙ e))
    (cons_some _ _)
    (ap (λ (ls : List ℕ). labels_text Ipv6 ls ++ codes ".ip6.arpa") labels)
