-- The labels of a reverse cut, as numbers and as text.
use Rattle.std.proofs.Common.{◌≡◌, ◌≢◌, ℕ, zero, suc, ◌+◌, ◌*◌, ◌/◌, ◌%◌, ◌^◌, ◌<◌, ◌≤◌, Bool, true, false, ◌&&◌, ◌||◌, ◌==◌, nat_lt, nat_le, List, [], ◌∷◌, ◌++◌, length, map, filter, flat_map, All, codes, None, Some, refl, sym, ap, ap₂, ◌∙◌, subst, arith, append-nil, ne_eqb, suc-mul}
use Rattle.std.proofs.lemmas.Bool.{cond-true, cond-false, cond_both}
use Rattle.std.proofs.lemmas.Bool.Decides.{nat_tests}
use Rattle.std.proofs.lemmas.List.Elements.{All-nil, All-cons, All-append, All-weaker}
use Rattle.std.proofs.lemmas.List.Splits.{slice_split_none, slice_split_at}
use Rattle.std.proofs.lemmas.Str.{digit_value-digit_char}
use Rattle.std.proofs.Math.Nat.{div-eq_of_lt, mod-add-div}
use Rattle.std.proofs.Math.Pow.{shr-shr}
use Rattle.std.specs.Char.{digit_char, digit_value}
use Rattle.std.specs.List.{AllByRecursion, slice_split}
use Rattle.std.specs.Option.{option_map, option_and_then}
use Rattle.addr_text.proofs.Computed.{decimal_found}
use Rattle.num_range.specs.declared.space.Space.{Space}
use Rattle.num_range.specs.declared.space.Space.TheVariants.{Ipv4, Ipv6}
use Rattle.reverse_zone.specs.Apex.{label_text, labels_text}
use Rattle.mirror_core.specs.Keys.{label_of, labels_of, labels_value}
use Rattle.mirror_laws.proofs.Words.{IsWordByte, IsWord, decimal_word, decimal_no_dot}

-- ---- places

-- so many places, each so many bits above the one before it
abbrev pub places_from : ℕ → ℕ → ℕ → List ℕ
places_from bits p zero = []
places_from bits p (suc n) = p ∷ places_from bits (p + bits) n

module _ (bits p : ℕ) (test : ℕ → Bool) (some : 1 ≤ bits) (passes : (q : ℕ) → p ≤ q → test q ≡ true) (fails : (q : ℕ) → q < p → test q ≡ false) where
  all_pass : (n q : ℕ) → p ≤ q → filter test (places_from bits q n) ≡ places_from bits q n
  all_pass zero q h = refl
  all_pass (suc n) q h =
      cond-true (test q) (q ∷ filter test (places_from bits (q + bits) n)) (filter test (places_from bits (q + bits) n)) (passes q h)
      ∙ ap (λ (qs : List ℕ). q ∷ qs) (all_pass n (q + bits) (omega arith))

  -- the places from p on are left
  pub passing : (n j k q : ℕ) → n ≡ j + k → p ≡ q + j * bits → filter test (places_from bits q n) ≡ places_from bits p k
  passing n zero k q count at =
      all_pass n q (omega arith) ∙ ap₂ (λ (r m : ℕ). places_from bits r m) (let e : q ≡ p = omega arith in e) (let e : n ≡ k = omega arith in e)
  passing zero (suc j) k q count at = absurd (omega arith)
  passing (suc n) (suc j) k q count at =
      let more : suc j * bits ≡ j * bits + bits = suc-mul j bits in
      cond-false (test q) (q ∷ filter test (places_from bits (q + bits) n)) (filter test (places_from bits (q + bits) n)) (fails q (omega arith))
      ∙ passing n j k (q + bits) (omega arith) (omega arith)

-- ---- what labels say

module _ (bits v : ℕ) where
  abbrev pub label : ℕ → ℕ
  label place = v / 2 ^ place % 2 ^ bits

  pub labels_say : (k p : ℕ) → v < 2 ^ (p + k * bits) → labels_value bits (map label (places_from bits p k)) ≡ v / 2 ^ p
  labels_say zero p h = sym (div-eq_of_lt (subst (λ n. v < 2 ^ n) (let e : p + 0 * bits ≡ p = omega arith in e) h))
  labels_say (suc k) p h =
      let more : suc k * bits ≡ k * bits + bits = suc-mul k bits in
      let rest : v < 2 ^ ((p + bits) + k * bits) = subst (λ n. v < 2 ^ n) (let e : p + suc k * bits ≡ (p + bits) + k * bits = omega arith in e) h in
      ap (λ (n : ℕ). label p + 2 ^ bits * n) (labels_say k (p + bits) rest ∙ sym (shr-shr v p bits)) ∙ mod-add-div (v / 2 ^ p) (2 ^ bits)

  pub places_count : (k p : ℕ) → length (map label (places_from bits p k)) ≡ k
  places_count zero p = refl
  places_count (suc k) p = omega (arith, places_count k (p + bits))

-- ---- their text

pub record IsLabel (space : Space) (l : ℕ) : Type 0 where
  pub word : IsWord (label_text space l)
  pub no_dot : All (λ b. b ≢ 46) (label_text space l)
  pub read : label_of space (label_text space l) ≡ Some l

pub octet_label : (l : ℕ) → l < 256 → IsLabel Ipv4 l
octet_label l h = record {
  word = decimal_word l (omega arith);
  no_dot = decimal_no_dot l (omega arith);
  read = decimal_found 255 l (label_text Ipv4 l) refl (omega arith) (omega arith);
}

abbrev is_nibble : ℕ → Bool
is_nibble b = (nat_le 48 b && nat_le b 57) || (nat_le 97 b && nat_le b 102)

nibble_byte : (l : ℕ) → l < 16 → 48 ≤ digit_char l
nibble_byte l h = cond_both (nat_lt l 10) (48 + l) (87 + l) (λ b. 48 ≤ b) (λ _. omega arith) (λ _. omega arith)

nibble_is : (l : ℕ) → l < 16 → is_nibble (digit_char l) ≡ true
nibble_is l h = cond_both (nat_lt l 10) (48 + l) (87 + l) (λ b. is_nibble b ≡ true) (λ e. grind (arith, nat_tests)) (λ e. grind (arith, nat_tests))

pub nibble_label : (l : ℕ) → l < 16 → IsLabel Ipv6 l
nibble_label l h =
    let byte = nibble_byte l h in
    record {
      word = record { some = omega arith; bytes = All-cons IsWordByte (digit_char l) [] (omega arith) (All-nil IsWordByte) };
      no_dot = All-cons (λ b. b ≢ 46) (digit_char l) [] (λ e. omega arith) (All-nil (λ b. b ≢ 46));
      read = cond-true (is_nibble (digit_char l)) (Some (digit_value (digit_char l))) None (nibble_is l h) ∙ ap Some (digit_value-digit_char l (omega arith));
    }

module _ (space : Space) where
  abbrev pub AreLabels : List ℕ → Type 0
  AreLabels labels = AllByRecursion (IsLabel space) labels

  not_dots : (l : ℕ) → IsLabel space l → All (λ b. (b == 46) ≡ false) (label_text space l)
  not_dots l h = All-weaker (λ b. b ≢ 46) (λ b. (b == 46) ≡ false) (λ b k. ne_eqb b 46 k) (label_text space l) h.no_dot

  pub labels_parted : (l : ℕ) (ls : List ℕ) → AreLabels (l ∷ ls)
      → slice_split (λ b. b == 46) (labels_text space (l ∷ ls)) ≡ map (label_text space) (l ∷ ls)
  labels_parted l [] h =
      ap (slice_split (λ b. b == 46)) (append-nil (label_text space l)) ∙ slice_split_none (λ b. b == 46) (label_text space l) (not_dots l h.0)
  labels_parted l (m ∷ ls) h =
      slice_split_at (λ b. b == 46) (label_text space l) 46 (labels_text space (m ∷ ls)) (not_dots l h.0) refl
      ∙ ap (λ (ts : List (List ℕ)). label_text space l ∷ ts) (labels_parted m ls h.1)

  pub labels_read : (ls : List ℕ) → AreLabels ls → labels_of space (map (label_text space) ls) ≡ Some ls
  labels_read [] h = refl
  labels_read (l ∷ ls) h =
      ap (option_and_then (λ (label : ℕ). option_map (λ labels. label ∷ labels) (labels_of space (map (label_text space) ls)))) h.0.read
      ∙ ap (option_map (λ (labels : List ℕ). l ∷ labels)) (labels_read ls h.1)

  more_bytes : (ls : List ℕ) → AreLabels ls → All IsWordByte (flat_map (λ l. codes "." ++ label_text space l) ls)
  more_bytes [] h = All-nil IsWordByte
  more_bytes (l ∷ ls) h =
      All-append IsWordByte (46 ∷ label_text space l) (flat_map (λ l. codes "." ++ label_text space l) ls) (All-cons IsWordByte 46 (label_text space l) (omega arith) h.0.word.bytes) (more_bytes ls h.1)

  pub labels_bytes : (ls : List ℕ) → AreLabels ls → All IsWordByte (labels_text space ls)
  labels_bytes [] h = All-nil IsWordByte
  labels_bytes (l ∷ ls) h = All-append IsWordByte (label_text space l) (flat_map (λ l. codes "." ++ label_text space l) ls) h.0.word.bytes (more_bytes ls h.1)
