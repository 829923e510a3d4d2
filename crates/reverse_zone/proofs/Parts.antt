-- The cuts of a range that lie in a zone are those of the part of the range that lies there.
use Rattle.std.proofs.Common.{◌≡◌, ℕ, ◌+◌, ◌-◌, ◌*◌, ◌/◌, ◌%◌, ◌^◌, ◌<◌, ◌≤◌, true, false, [], filter, refl, sym, ap, ◌∙◌, subst, inl, inr, ◌↔◌, true≢false, arith}
use Rattle.std.specs.List.{Contains}
use Rattle.std.proofs.lemmas.Bool.{cases_lt}
use Rattle.std.proofs.lemmas.Bool.Decides.{nat_tests}
use Rattle.std.proofs.Math.Nat.{mul-mod_left, mod_self, add-mod, zero-mod, mul-le-mul_right, mul_assoc}
use Rattle.std.proofs.lemmas.Nat.{pow-add, pow_pos, div-add-mod'}
use Rattle.num_range.specs.declared.space.Space.TheVariants.{Ipv4, Ipv6}
use Rattle.num_range.specs.Space.{width_of}
use Rattle.num_range.specs.Range.{PlainRange, IsInside, Meets, lies_inside, ranges_meet}
use Rattle.num_range.specs.Block.{block_size}
use Rattle.num_range.specs.Cover.{is_cut_length, reverse_cuts}
use Rattle.cidr_cover.specs.Blocks.{IsRising}
use Rattle.cidr_cover.specs.Cuts.{IsCutInside, IsReverseCut}
use Rattle.reverse_zone.specs.declared.apex.Apex.{Apex}
use Rattle.reverse_zone.specs.declared.apex.Apex.TheVariants.{Four, Six}
use Rattle.reverse_zone.specs.Apex.{apex_range}
use Rattle.reverse_zone.specs.Part.{part_inside}
use Rattle.reverse_zone.proofs.Members.{Elem, elem_of_contains, contains_of_elem, elem_filter, filter_elem, none_passes, RisesAbove, rises_filtered, rises_of_rising, same_rising}

-- what the cuts of each range are
pub record CutLaws : Type 0 where
  pub cuts : (r b : PlainRange) → Contains (reverse_cuts r) b ↔ IsReverseCut r b
  pub rises : (r : PlainRange) → IsRising (reverse_cuts r)
  pub inside : (r s : PlainRange) → (lies_inside r s ≡ true) ↔ IsInside r s
  pub meets : (r s : PlainRange) → (ranges_meet r s ≡ true) ↔ Meets r s

-- ---- blocks

multiple_is : (n d : ℕ) → n % d ≡ 0 → n / d * d ≡ n
multiple_is n d e = let parts : n / d * d + n % d ≡ n = div-add-mod' n d in omega arith

-- of two multiples the lesser is less by a whole step
multiples_apart : (a b d : ℕ) → a % d ≡ 0 → b % d ≡ 0 → a < b → a + d ≤ b
multiples_apart a b d ea eb lt =
    let wa : a / d * d ≡ a = multiple_is a d ea in
    let wb : b / d * d ≡ b = multiple_is b d eb in
    elim (cases_lt (a / d) (b / d)) [
      | inl below ↦
          let steps : (a / d + 1) * d ≤ b / d * d = mul-le-mul_right d (omega arith) in
          omega arith
      | inr above ↦
          let steps : b / d * d ≤ a / d * d = mul-le-mul_right d above in
          absurd (omega arith)
    ]

-- a multiple of a power of two is one of each lesser power
multiple_of_lesser : (n j k : ℕ) → j ≤ k → n % 2 ^ k ≡ 0 → n % 2 ^ j ≡ 0
multiple_of_lesser n j k le e =
    let split : 2 ^ k ≡ 2 ^ (k - j) * 2 ^ j = ap (λ m. 2 ^ m) (let sum : k ≡ (k - j) + j = omega arith in sum) ∙ pow-add 2 (k - j) j in
    let whole : n / 2 ^ k * 2 ^ k ≡ n = multiple_is n (2 ^ k) e in
    let count : ℕ = n / 2 ^ k in
    let product : (count * 2 ^ (k - j)) * 2 ^ j ≡ n = mul_assoc count (2 ^ (k - j)) (2 ^ j) ∙ ap (λ m. count * m) (sym split) ∙ whole in
    ap (λ m. m % 2 ^ j) (sym product) ∙ mul-mod_left (count * 2 ^ (k - j)) (2 ^ j)

-- a block that has a number of another one, and is no wider, lies in it
pub nested : (j k w f x : ℕ) → j ≤ k → w % 2 ^ j ≡ 0 → f % 2 ^ k ≡ 0 → f ≤ x → x ≤ f + (2 ^ k - 1) → w ≤ x → x ≤ w + (2 ^ j - 1)
    → (f ≤ w) × (w + (2 ^ j - 1) ≤ f + (2 ^ k - 1))
nested j k w f x le ew ef low high from until = (
  elim (cases_lt w f) [
    | inl lt ↦ let apart = multiples_apart w f (2 ^ j) ew (multiple_of_lesser f j k le ef) lt in absurd (omega arith)
    | inr ge ↦ ge
  ],
  (let pos = pow_pos k in
      let end : (f + 2 ^ k) % 2 ^ k ≡ 0 = add-mod f (2 ^ k) (2 ^ k) ∙ ap (λ n. (n + 2 ^ k % 2 ^ k) % 2 ^ k) ef ∙ ap (λ n. (0 + n) % 2 ^ k) (mod_self (2 ^ k)) ∙ zero-mod (2 ^ k) in
      let apart = multiples_apart w (f + 2 ^ k) (2 ^ j) ew (multiple_of_lesser (f + 2 ^ k) j k le end) (omega arith) in
      omega arith),
)

-- ---- the apex's range is a block that no cut is wider than

pub record IsWide (a : PlainRange) : Type 0 where
  pub bits : ℕ
  pub starts : a.first % 2 ^ bits ≡ 0
  pub ends : a.last ≡ a.first + (2 ^ bits - 1)
  pub widest : (len : ℕ) → is_cut_length a.space len ≡ true → width_of a.space - len ≤ bits

narrow4 : (len : ℕ) → is_cut_length Ipv4 len ≡ true → 32 - len ≤ 24
narrow4 len h = grind (arith, nat_tests)

narrow6 : (len : ℕ) → is_cut_length Ipv6 len ≡ true → 128 - len ≤ 116
narrow6 len h = grind (arith, nat_tests)

pub apex_wide : (apex : Apex) → IsWide (apex_range apex)
apex_wide (Four octet) = record { bits = 24; starts = mul-mod_left octet (2 ^ 24); ends = refl; widest = narrow4 }
apex_wide (Six nibbles) = record { bits = 116; starts = mul-mod_left nibbles (2 ^ 116); ends = refl; widest = narrow6 }

-- ---- cuts

pub cut_order : (r b : PlainRange) → IsReverseCut r b → b.first ≤ b.last
cut_order r b h =
    let e : b.last ≡ b.first + (block_size r.space h.length - 1) = ap (λ (x : PlainRange). x.last) h.is_cut.is_block in
    omega arith

module _ (a : PlainRange) (wide : IsWide a) (r : PlainRange) (same : r.space ≡ a.space) where
  -- a wider cut of the range that has a cut of the zone lies in the zone too
  wider_inside : (b wider : PlainRange) (len : ℕ) → b.first ≤ b.last → IsInside b a → IsInside b wider → IsCutInside r wider len → IsInside wider a
  wider_inside b wider len order b_in_a b_in_wider cut =
      let bits : ℕ = width_of r.space - len in
      let ends : wider.last ≡ wider.first + (2 ^ bits - 1) = ap (λ (x : PlainRange). x.last) cut.is_block in
      let fits : bits ≤ wide.bits
      = subst (λ s. width_of s - len ≤ wide.bits) (sym same) (wide.widest len (subst (λ s. is_cut_length s len ≡ true) same cut.cut_length)) in
      let first = b_in_a.1 in
      let last = b_in_a.2 in
      let from = b_in_wider.1 in
      let until = b_in_wider.2 in
      let zone_ends = wide.ends in
      let both = nested bits wide.bits wider.first a.first b.first fits cut.starts.2 wide.starts (omega arith) (omega arith) (omega arith) (omega arith) in
      let low = both.0 in
      let high = both.1 in
      (cut.inside.0 ∙ same, omega arith, omega arith)

  part_cut : (b : PlainRange) → IsReverseCut (part_inside r a) b → IsReverseCut r b × IsInside b a
  part_cut b h =
      let inside = h.is_cut.inside in
      let first = inside.1 in
      let last = inside.2 in
      let in_zone : IsInside b a = (inside.0 ∙ same, omega arith, omega arith) in (
        record {
          length = h.length;
          is_cut = record {
            cut_length = h.is_cut.cut_length;
            starts = h.is_cut.starts;
            is_block = h.is_cut.is_block;
            inside = (inside.0, omega arith, omega arith);
          };
          widest = λ wider shorter lt cut within.
              let zoned = wider_inside b wider shorter (cut_order (part_inside r a) b h) in_zone within cut in
              let ranged = cut.inside in
              let z1 = zoned.1 in
              let z2 = zoned.2 in
              let r1 = ranged.1 in
              let r2 = ranged.2 in
              h.widest wider shorter lt
              (record { cut_length = cut.cut_length; starts = cut.starts; is_block = cut.is_block; inside = (ranged.0, omega arith, omega arith) }) within;
        },
        in_zone,
      )

  cut_part : (b : PlainRange) → IsReverseCut r b → IsInside b a → IsReverseCut (part_inside r a) b
  cut_part b h zoned =
      let inside = h.is_cut.inside in
      let r1 = inside.1 in
      let r2 = inside.2 in
      let z1 = zoned.1 in
      let z2 = zoned.2 in
      record {
        length = h.length;
        is_cut = record {
          cut_length = h.is_cut.cut_length;
          starts = h.is_cut.starts;
          is_block = h.is_cut.is_block;
          inside = (inside.0, omega arith, omega arith);
        };
        widest = λ wider shorter lt cut within.
            let ranged = cut.inside in
            let w1 = ranged.1 in
            let w2 = ranged.2 in
            h.widest wider shorter lt
            (record { cut_length = cut.cut_length; starts = cut.starts; is_block = cut.is_block; inside = (ranged.0, omega arith, omega arith) }) within;
      }

-- ---- lists of cuts

module _ (laws : CutLaws) where
  pub cut_elem : (r b : PlainRange) → Elem b (reverse_cuts r) → IsReverseCut r b
  cut_elem r b h = (laws.cuts r b).0 (contains_of_elem b (reverse_cuts r) h)

  pub elem_cut : (r b : PlainRange) → IsReverseCut r b → Elem b (reverse_cuts r)
  elem_cut r b h = let at = (laws.cuts r b).1 h in elem_of_contains b (reverse_cuts r) at.0 at.1 at.2

  pub cuts_rise : (r : PlainRange) → RisesAbove 0 (reverse_cuts r)
  cuts_rise r = rises_of_rising (reverse_cuts r) (λ b h. cut_order r b (cut_elem r b h)) (laws.rises r)

  -- the cuts of the part of the range in the zone are the range's cuts that lie in the zone
  pub cuts_of_part : (a r : PlainRange) → IsWide a → r.space ≡ a.space
      → reverse_cuts (part_inside r a) ≡ filter (λ c. lies_inside c a) (reverse_cuts r)
  cuts_of_part a r wide same =
      same_rising 0 (reverse_cuts (part_inside r a)) (filter (λ c. lies_inside c a) (reverse_cuts r)) (cuts_rise (part_inside r a))
      (rises_filtered (λ c. lies_inside c a) 0 (reverse_cuts r) (cuts_rise r))
      (λ b h.
      let both = part_cut a wide r same b (cut_elem (part_inside r a) b h) in
      filter_elem (λ c. lies_inside c a) b (reverse_cuts r) (elem_cut r b both.0) ((laws.inside b a).1 both.1))
      (λ b h.
      let both = elem_filter (λ c. lies_inside c a) b (reverse_cuts r) h in
      elem_cut (part_inside r a) b (cut_part a wide r same b (cut_elem r b both.0) ((laws.inside b a).0 both.1)))

  -- a range without numbers in the zone has no cuts there
  pub no_cuts_elsewhere : (a r : PlainRange) → ranges_meet r a ≡ false → filter (λ c. lies_inside c a) (reverse_cuts r) ≡ []
  no_cuts_elsewhere a r apart = none_passes (λ c. lies_inside c a) (reverse_cuts r) (λ b h t.
      let cut = cut_elem r b h in
      let inside = cut.is_cut.inside in
      let zoned = (laws.inside b a).0 t in
      let order = cut_order r b cut in
      let r1 = inside.1 in
      let r2 = inside.2 in
      let z1 = zoned.1 in
      let z2 = zoned.2 in
      true≢false (sym ((laws.meets r a).1 (sym inside.0 ∙ zoned.0, omega arith, omega arith)) ∙ apart))
