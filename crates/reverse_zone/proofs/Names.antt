-- Names tell cuts of one zone apart.
use Rattle.std.proofs.Common.{◌≡◌, ◌≢◌, ℕ, zero, suc, ◌+◌, ◌-◌, ◌*◌, ◌/◌, ◌%◌, ◌^◌, ◌<◌, ◌≤◌, true, false, nat_le, List, [], ◌∷◌, ◌++◌, length, map, filter, codes, decimal, refl, sym, ap, ◌∙◌, subst, inl, inr, length-append, arith}
use Rattle.std.specs.List.{flat_map}
use Rattle.std.specs.Char.{digit_value}
use Rattle.std.specs.Str.Parse.{AllDigits}
use Rattle.std.proofs.lemmas.Bool.{cases_lt, cond-true, cond-false, le-leb, lt-leb}
use Rattle.std.proofs.lemmas.Fmt.{decimal_injective, decimal_is_IsNumeral, decimal_nonempty}
use Rattle.std.proofs.lemmas.Str.{digit_value-digit_char}
use Rattle.std.proofs.lemmas.Nat.{pow-add, pow_pos, div-add-mod', mod_below}
use Rattle.std.proofs.Math.Pow.{pow_mono}
use Rattle.std.proofs.Math.Nat.{div-div-eq-div-mul, mul-le-mul_right}
use Rattle.num_range.specs.declared.space.Space.{Space}
use Rattle.num_range.specs.declared.space.Space.TheVariants.{Asn, Ipv4, Ipv6}
use Rattle.std.proofs.lemmas.Bool.Decides.{nat_tests}
use Rattle.num_range.specs.Space.{width_of}
use Rattle.num_range.specs.Range.{PlainRange, IsInside, size_of}
use Rattle.num_range.specs.Cover.{is_cut_length}
use Rattle.cidr_cover.specs.Cuts.{IsReverseCut}
use Rattle.reverse_zone.specs.declared.apex.Apex.{Apex}
use Rattle.reverse_zone.specs.declared.apex.Apex.TheVariants.{Four, Six}
use Rattle.reverse_zone.proofs.Parts.{cut_order}
use Rattle.reverse_zone.specs.Apex.{apex_range, label_text, labels_text}
use Rattle.reverse_zone.specs.Zone.{label_bits, label_places, cut_labels, cut_name}

-- ---- a label ends at the next dot

abbrev pub NoDot : List ℕ → Type 0
NoDot [] = Unit {0}
NoDot (b ∷ bs) = (b ≢ 46) × NoDot bs

-- nothing, or a dot and what is behind it
abbrev pub AtDot : List ℕ → Type 0
AtDot [] = Unit {0}
AtDot (b ∷ bs) = b ≡ 46

head_same : {x y : ℕ} {xs ys : List ℕ} → x ∷ xs ≡ y ∷ ys → x ≡ y
head_same {x} {y} {xs} {ys} e = ap first e
  where
    first : List ℕ → ℕ
    first [] = 0
    first (z ∷ zs) = z

tail_same : {x y : ℕ} {xs ys : List ℕ} → x ∷ xs ≡ y ∷ ys → xs ≡ ys
tail_same {x} {y} {xs} {ys} e = ap rest e
  where
    rest : List ℕ → List ℕ
    rest [] = []
    rest (z ∷ zs) = zs

not_nil : {x : ℕ} {xs : List ℕ} → x ∷ xs ≡ [] → ⊥
not_nil {x} {xs} e = let h : length (x ∷ xs) ≡ 0 = ap length e in omega arith

up_to_dot : (xs ys zs ws : List ℕ) → NoDot xs → NoDot ys → AtDot zs → AtDot ws → xs ++ zs ≡ ys ++ ws → (xs ≡ ys) × (zs ≡ ws)
up_to_dot [] [] zs ws hx hy hz hw e = (refl, e)
up_to_dot [] (y ∷ ys) [] ws hx hy hz hw e = absurd (not_nil (sym e))
up_to_dot [] (y ∷ ys) (z ∷ zs) ws hx hy hz hw e = absurd (hy.0 (sym (head_same e) ∙ hz))
up_to_dot (x ∷ xs) [] zs [] hx hy hz hw e = absurd (not_nil e)
up_to_dot (x ∷ xs) [] zs (w ∷ ws) hx hy hz hw e = absurd (hx.0 (head_same e ∙ hw))
up_to_dot (x ∷ xs) (y ∷ ys) zs ws hx hy hz hw e =
    let rest = up_to_dot xs ys zs ws hx.1 hy.1 hz hw (tail_same e) in
    (ap (λ b. b ∷ xs) (head_same e) ∙ ap (λ (bs : List ℕ). y ∷ bs) rest.0, rest.1)

-- ---- labels as text

no_dot_in_digits : (bs : List ℕ) → AllDigits 10 bs → NoDot bs
no_dot_in_digits [] h = tt
no_dot_in_digits (b ∷ bs) h =
    ((λ e. let small : digit_value 46 < 10 = subst (λ c. digit_value c < 10) e h.0 in omega arith), no_dot_in_digits bs h.1)

no_dot_in_label : (space : Space) (label : ℕ) → label < 2 ^ label_bits space → NoDot (label_text space label)
no_dot_in_label Asn label h = tt
no_dot_in_label Ipv4 label h = no_dot_in_digits (decimal label) (decimal_is_IsNumeral label (omega arith)).0.1
no_dot_in_label Ipv6 label h =
    ((λ e. let value : digit_value 46 ≡ label = ap digit_value (sym e) ∙ digit_value-digit_char label (omega arith) in omega arith), tt)

abbrev pub HasLabels : Space → Type 0
HasLabels Asn = ⊥
HasLabels Ipv4 = Unit {0}
HasLabels Ipv6 = Unit {0}

label_same : (space : Space) (l m : ℕ) → HasLabels space → l < 2 ^ label_bits space → m < 2 ^ label_bits space → label_text space l ≡ label_text space m → l ≡ m
label_same Asn l m has hl hm e = absurd has
label_same Ipv4 l m has hl hm e = decimal_injective l m (omega arith) (omega arith) e
label_same Ipv6 l m has hl hm e =
    sym (digit_value-digit_char l (omega arith)) ∙ ap digit_value (head_same e) ∙ digit_value-digit_char m (omega arith)

abbrev pub AreLabels : Space → List ℕ → Type 0
AreLabels space [] = Unit {0}
AreLabels space (l ∷ ls) = (l < 2 ^ label_bits space) × AreLabels space ls

at_dot : (space : Space) (ls : List ℕ) → AtDot (flat_map (λ l. codes "." ++ label_text space l) ls)
at_dot space [] = tt
at_dot space (l ∷ ls) = refl

rest_same : (space : Space) (ls ms : List ℕ) → HasLabels space → AreLabels space ls → AreLabels space ms
    → flat_map (λ l. codes "." ++ label_text space l) ls ≡ flat_map (λ l. codes "." ++ label_text space l) ms → ls ≡ ms
rest_same space [] [] has hl hm e = refl
rest_same space [] (m ∷ ms) has hl hm e = absurd (not_nil (sym e))
rest_same space (l ∷ ls) [] has hl hm e = absurd (not_nil e)
rest_same space (l ∷ ls) (m ∷ ms) has hl hm e =
    let parts = up_to_dot (label_text space l) (label_text space m) (flat_map (λ k. codes "." ++ label_text space k) ls) (flat_map (λ k. codes "." ++ label_text space k) ms)
    (no_dot_in_label space l hl.0) (no_dot_in_label space m hm.0) (at_dot space ls) (at_dot space ms) (tail_same e) in
    ap (λ k. k ∷ ls) (label_same space l m has hl.0 hm.0 parts.0) ∙ ap (λ (ks : List ℕ). m ∷ ks) (rest_same space ls ms has hl.1 hm.1 parts.1)

some_label : (space : Space) (label : ℕ) (rest : List ℕ) → HasLabels space → label < 2 ^ label_bits space → label_text space label ++ rest ≡ [] → ⊥
some_label Asn label rest has h e = has
some_label Ipv4 label rest has h e =
    let some = decimal_nonempty label (omega arith) in
    let none : length (decimal label ++ rest) ≡ 0 = ap length e in
    let sum = length-append (decimal label) rest in
    absurd (omega arith)
some_label Ipv6 label rest has h e = not_nil e

-- labels with dots between them tell the labels
pub labels_same : (space : Space) (ls ms : List ℕ) → HasLabels space → AreLabels space ls → AreLabels space ms
    → labels_text space ls ≡ labels_text space ms → ls ≡ ms
labels_same space [] [] has hl hm e = refl
labels_same space [] (m ∷ ms) has hl hm e = absurd (some_label space m _ has hm.0 (sym e))
labels_same space (l ∷ ls) [] has hl hm e = absurd (some_label space l _ has hl.0 e)
labels_same space (l ∷ ls) (m ∷ ms) has hl hm e =
    let parts = up_to_dot (label_text space l) (label_text space m) (flat_map (λ k. codes "." ++ label_text space k) ls) (flat_map (λ k. codes "." ++ label_text space k) ms)
    (no_dot_in_label space l hl.0) (no_dot_in_label space m hm.0) (at_dot space ls) (at_dot space ms) e in
    ap (λ k. k ∷ ls) (label_same space l m has hl.0 hm.0 parts.0) ∙ ap (λ (ks : List ℕ). m ∷ ks) (rest_same space ls ms has hl.1 hm.1 parts.1)

-- ---- labels of numbers

-- so many places, each one label above the one before
abbrev pub places_from : ℕ → ℕ → ℕ → List ℕ
places_from bits zero place = []
places_from bits (suc n) place = place ∷ places_from bits n (place + bits)

-- the labels at these places of a block of 2 ^ e numbers
abbrev pub labels_from : ℕ → ℕ → ℕ → ℕ → ℕ → List ℕ
labels_from bits n place e first =
    map (λ p. first / 2 ^ p % 2 ^ bits) (filter (λ p. nat_le (2 ^ e) (2 ^ p)) (places_from bits n place))

pub power_passes : (e p : ℕ) → e ≤ p → nat_le (2 ^ e) (2 ^ p) ≡ true
power_passes e p h = le-leb (2 ^ e) (2 ^ p) (pow_mono {i = e} {j = p} h)

pub power_fails : (e p : ℕ) → p < e → nat_le (2 ^ e) (2 ^ p) ≡ false
power_fails e p h =
    let twice : 2 ^ (1 + p) ≡ 2 ^ 1 * 2 ^ p = pow-add 2 1 p in
    let more : 2 ^ (1 + p) ≤ 2 ^ e = pow_mono {i = 1 + p} {j = e} (omega arith) in
    let pos = pow_pos p in
    lt-leb (2 ^ e) (2 ^ p) (omega arith)

-- a number by its label and what is above it
by_label : (bits p f g : ℕ) → f / 2 ^ (p + bits) ≡ g / 2 ^ (p + bits) → f / 2 ^ p % 2 ^ bits ≡ g / 2 ^ p % 2 ^ bits → f / 2 ^ p ≡ g / 2 ^ p
by_label bits p f g above label =
    sym (div-add-mod' (f / 2 ^ p) (2 ^ bits))
    ∙ ap (λ k. k * 2 ^ bits + f / 2 ^ p % 2 ^ bits) (up f ∙ above ∙ sym (up g))
    ∙ ap (λ k. g / 2 ^ p / 2 ^ bits * 2 ^ bits + k) label
    ∙ div-add-mod' (g / 2 ^ p) (2 ^ bits)
  where
    up : (h : ℕ) → h / 2 ^ p / 2 ^ bits ≡ h / 2 ^ (p + bits)
    up h = div-div-eq-div-mul h (2 ^ p) (2 ^ bits) ∙ ap (λ k. h / k) (sym (pow-add 2 p bits))

module _ (bits : ℕ) where
  step : (k q : ℕ) → q + bits * suc k ≡ q + bits + bits * k
  step k q = grind arith

  labels_pass : (n p e f : ℕ) → e ≤ p → labels_from bits (suc n) p e f ≡ (f / 2 ^ p % 2 ^ bits) ∷ labels_from bits n (p + bits) e f
  labels_pass n p e f h =
      ap (map (λ p. f / 2 ^ p % 2 ^ bits)) (cond-true (nat_le (2 ^ e) (2 ^ p)) (p ∷ filter (λ p. nat_le (2 ^ e) (2 ^ p)) (places_from bits n (p + bits))) (filter (λ p. nat_le (2 ^ e) (2 ^ p)) (places_from bits n (p + bits))) (power_passes e p h))

  labels_skip : (n p e f : ℕ) → p < e → labels_from bits (suc n) p e f ≡ labels_from bits n (p + bits) e f
  labels_skip n p e f h =
      ap (map (λ p. f / 2 ^ p % 2 ^ bits)) (cond-false (nat_le (2 ^ e) (2 ^ p)) (p ∷ filter (λ p. nat_le (2 ^ e) (2 ^ p)) (places_from bits n (p + bits))) (filter (λ p. nat_le (2 ^ e) (2 ^ p)) (places_from bits n (p + bits))) (power_fails e p h))

  all_labels : (n p e f : ℕ) → e ≤ p → length (labels_from bits n p e f) ≡ n
  all_labels zero p e f h = refl
  all_labels (suc n) p e f h = ap length (labels_pass n p e f h) ∙ ap suc (all_labels n (p + bits) e f (omega arith))

  few_labels : (n p e f : ℕ) → length (labels_from bits n p e f) ≤ n
  few_labels zero p e f = omega arith
  few_labels (suc n) p e f =
      let rest = few_labels n (p + bits) e f in
      elim (cases_lt p e) [
        | inl lt ↦ let same = ap length (labels_skip n p e f lt) in omega arith
        | inr ge ↦ let same = ap length (labels_pass n p e f ge) in omega arith
      ]

  -- all labels tell the number down to the first place
  from_all : (n p e f g : ℕ) → e ≤ p → labels_from bits n p e f ≡ labels_from bits n p e g
      → f / 2 ^ (p + bits * n) ≡ g / 2 ^ (p + bits * n) → f / 2 ^ p ≡ g / 2 ^ p
  from_all zero p e f g h same top = subst (λ q. f / 2 ^ q ≡ g / 2 ^ q) (let q : p + bits * 0 ≡ p = omega arith in q) top
  from_all (suc n) p e f g h same top =
      let both = sym (labels_pass n p e f h) ∙ same ∙ labels_pass n p e g h in
      by_label bits p f g
      (from_all n (p + bits) e f g (omega arith) (tail_same both) (subst (λ q. f / 2 ^ q ≡ g / 2 ^ q) (step n p) top))
      (head_same both)

  beyond : (p i : ℕ) → 0 < bits → p < p + bits * suc i
  beyond p i pos = let e = step i p in omega arith

  first_place : (p : ℕ) → p + bits * 0 ≡ p
  first_place p = omega arith

  unlike : (n p i f g : ℕ) → 0 < bits → labels_from bits (suc n) p (p + bits * 0) f ≡ labels_from bits (suc n) p (p + bits * suc i) g → ⊥
  unlike n p i f g pos same =
      let begin = first_place p in
      let all = all_labels (suc n) p (p + bits * 0) f (omega arith) in
      let skipped = ap length (labels_skip n p (p + bits * suc i) g (beyond p i pos)) in
      let few = few_labels n (p + bits) (p + bits * suc i) g in
      let lengths = ap length same in
      absurd (omega arith)

  -- a block of one of the places has a label
  pub labels_some : (n p i f : ℕ) → i < n → labels_from bits n p (p + bits * i) f ≡ [] → ⊥
  labels_some zero p i f h e = absurd (omega arith)
  labels_some (suc n) p zero f h e = not_nil (sym (labels_pass n p (p + bits * 0) f (let at = first_place p in omega arith)) ∙ e)
  labels_some (suc n) p (suc i) f h e = elim (cases_lt p (p + bits * suc i)) [
    | inl lt ↦
        labels_some n (p + bits) i f (omega arith)
        (ap (λ k. labels_from bits n (p + bits) k f) (sym (step i p)) ∙ sym (labels_skip n p (p + bits * suc i) f lt) ∙ e)
    | inr ge ↦ not_nil (sym (labels_pass n p (p + bits * suc i) f ge) ∙ e)
  ]

  -- the labels tell the size, and the number down to it
  pub from_labels : (n p i j f g : ℕ) → 0 < bits → i ≤ n → j ≤ n → labels_from bits n p (p + bits * i) f ≡ labels_from bits n p (p + bits * j) g
      → f / 2 ^ (p + bits * n) ≡ g / 2 ^ (p + bits * n) → (i ≡ j) × (f / 2 ^ (p + bits * i) ≡ g / 2 ^ (p + bits * i))
  from_labels n p zero zero f g pos hi hj same top =
      (refl, subst (λ q. f / 2 ^ q ≡ g / 2 ^ q) (sym (first_place p)) (from_all n p (p + bits * 0) f g (let e = first_place p in omega arith) same top))
  from_labels zero p zero (suc j) f g pos hi hj same top = absurd (omega arith)
  from_labels (suc n) p zero (suc j) f g pos hi hj same top = absurd (unlike n p j f g pos same)
  from_labels zero p (suc i) j f g pos hi hj same top = absurd (omega arith)
  from_labels (suc n) p (suc i) zero f g pos hi hj same top = absurd (unlike n p i g f pos (sym same))
  from_labels (suc n) p (suc i) (suc j) f g pos hi hj same top =
      let below =
      ap (λ e. labels_from bits n (p + bits) e f) (sym (step i p)) ∙ sym (labels_skip n p (p + bits * suc i) f (beyond p i pos))
      ∙ same ∙ labels_skip n p (p + bits * suc j) g (beyond p j pos) ∙ ap (λ e. labels_from bits n (p + bits) e g) (step j p) in
      let rest = from_labels n (p + bits) i j f g pos (omega arith) (omega arith) below (subst (λ q. f / 2 ^ q ≡ g / 2 ^ q) (step n p) top) in
      (ap suc rest.0, subst (λ q. f / 2 ^ q ≡ g / 2 ^ q) (sym (step i p)) rest.1)

-- ---- cuts

-- a cut by the places of its labels: it starts at a multiple of its size, and its size is that of one of the labels' places
pub record IsLabelled (space : Space) (bits n place : ℕ) (c : PlainRange) : Type 0 where
  pub of_space : c.space ≡ space
  pub digits : ℕ
  pub fits : digits < n
  pub starts : c.first % 2 ^ (place + bits * digits) ≡ 0
  pub ends : c.last ≡ c.first + (2 ^ (place + bits * digits) - 1)

pub size_labelled : (space : Space) (bits n place : ℕ) (c : PlainRange) (h : IsLabelled space bits n place c) → size_of c ≡ 2 ^ (place + bits * h.digits)
size_labelled space bits n place c h = let pos = pow_pos (place + bits * h.digits) in let ends = h.ends in omega arith

pub range_same : (c d : PlainRange) → c.space ≡ d.space → c.first ≡ d.first → c.last ≡ d.last → c ≡ d
range_same c d s f l =
    ap (λ x. made x c.first c.last) s ∙ ap (λ x. made d.space x c.last) f ∙ ap (λ x. made d.space d.first x) l
  where
    made : Space → ℕ → ℕ → PlainRange
    made space first last = record { space = space; first = first; last = last }

-- the labels of a block of so many numbers that starts here
abbrev pub labels_with : Space → ℕ → ℕ → List ℕ
labels_with space size first = map (λ p. first / 2 ^ p % 2 ^ label_bits space) (filter (λ p. nat_le size (2 ^ p)) (label_places space))

are_labels : (space : Space) (first : ℕ) (ps : List ℕ) → AreLabels space (map (λ p. first / 2 ^ p % 2 ^ label_bits space) ps)
are_labels space first [] = tt
are_labels space first (p ∷ ps) = (mod_below (first / 2 ^ p) (2 ^ label_bits space) (pow_pos (label_bits space)), are_labels space first ps)

multiple_whole : (f s : ℕ) → f % s ≡ 0 → f / s * s ≡ f
multiple_whole f s e = let parts = div-add-mod' f s in omega arith

pub quotient_is : (f q s : ℕ) → 0 < s → q * s ≤ f → f ≤ q * s + (s - 1) → f / s ≡ q
quotient_is f q s pos low high =
    let parts : f / s * s + f % s ≡ f = div-add-mod' f s in
    let rest : f % s < s = mod_below f s pos in
    elim (cases_lt (f / s) q) [
      | inl lt ↦
          let more : (f / s + 1) * s ≤ q * s = mul-le-mul_right s (omega arith) in
          absurd (omega arith)
      | inr ge ↦ elim (cases_lt q (f / s)) [
        | inl lt ↦
            let more : (q + 1) * s ≤ f / s * s = mul-le-mul_right s (omega arith) in
            absurd (omega arith)
        | inr le ↦ omega arith
      ]
    ]

module _ (space : Space) (n place : ℕ) (has : HasLabels space) (pos : 0 < label_bits space)
    (places : label_places space ≡ places_from (label_bits space) n place) where
  pub labels_are : (c : PlainRange) (h : IsLabelled space (label_bits space) n place c)
      → cut_labels c ≡ labels_from (label_bits space) n place (place + label_bits space * h.digits) c.first
  labels_are c h =
      ap (λ s. labels_with s (size_of c) c.first) h.of_space
      ∙ ap (λ size. labels_with space size c.first) (size_labelled space (label_bits space) n place c h)
      ∙ ap (λ ps. map (λ p. c.first / 2 ^ p % 2 ^ label_bits space) (filter (λ p. nat_le (2 ^ (place + label_bits space * h.digits)) (2 ^ p)) ps)) places

  named_same : (c d : PlainRange) → IsLabelled space (label_bits space) n place c → IsLabelled space (label_bits space) n place d
      → c.first / 2 ^ (place + label_bits space * n) ≡ d.first / 2 ^ (place + label_bits space * n) → cut_name c ≡ cut_name d → c ≡ d
  named_same c d hc hd top same =
      let name_of : (x : PlainRange) → x.space ≡ space → cut_name x ≡ labels_text space (cut_labels x) = λ x e. ap (λ s. labels_text s (cut_labels x)) e in
      let bounded : (x : PlainRange) → x.space ≡ space → AreLabels space (cut_labels x)
      = λ x e. subst (λ s. AreLabels s (cut_labels x)) e (are_labels x.space x.first (filter (λ p. nat_le (size_of x) (2 ^ p)) (label_places x.space))) in
      let labels : cut_labels c ≡ cut_labels d
      = labels_same space (cut_labels c) (cut_labels d) has (bounded c hc.of_space) (bounded d hd.of_space)
      (sym (name_of c hc.of_space) ∙ same ∙ name_of d hd.of_space) in
      let told = from_labels (label_bits space) n place hc.digits hd.digits c.first d.first pos (omega (arith, hc.fits)) (omega (arith, hd.fits))
      (sym (labels_are c hc) ∙ labels ∙ labels_are d hd) top in
      let exponent : place + label_bits space * hc.digits ≡ place + label_bits space * hd.digits = ap (λ k. place + label_bits space * k) told.0 in
      let first : c.first ≡ d.first
      = sym (multiple_whole c.first (2 ^ (place + label_bits space * hc.digits)) hc.starts)
      ∙ ap (λ k. k * 2 ^ (place + label_bits space * hc.digits)) told.1
      ∙ ap (λ e. d.first / 2 ^ e * 2 ^ e) exponent
      ∙ multiple_whole d.first (2 ^ (place + label_bits space * hd.digits)) hd.starts in
      let last : c.last ≡ d.last
      = hc.ends ∙ ap (λ x. x + (2 ^ (place + label_bits space * hc.digits) - 1)) first ∙ ap (λ e. d.first + (2 ^ e - 1)) exponent ∙ sym hd.ends in
      range_same c d (hc.of_space ∙ sym hd.of_space) first last

-- ---- the cuts of an apex

digits4 : (len : ℕ) → is_cut_length Ipv4 len ≡ true → ((24 - len) / 8 < 2) × (8 + 8 * ((24 - len) / 8) ≡ 32 - len)
digits4 len h = (grind (arith, nat_tests), grind (arith, nat_tests))

digits6 : (len : ℕ) → is_cut_length Ipv6 len ≡ true → ((64 - len) / 4 < 13) × (64 + 4 * ((64 - len) / 4) ≡ 128 - len)
digits6 len h = (grind (arith, nat_tests), grind (arith, nat_tests))

pub labelled4 : (r c : PlainRange) → IsReverseCut r c → c.space ≡ Ipv4 → IsLabelled Ipv4 8 2 8 c
labelled4 r c h e =
    let same : r.space ≡ Ipv4 = sym (ap (λ (x : PlainRange). x.space) h.is_cut.is_block) ∙ e in
    let at = digits4 h.length (subst (λ s. is_cut_length s h.length ≡ true) same h.is_cut.cut_length) in
    record {
      of_space = e;
      digits = (24 - h.length) / 8;
      fits = at.0;
      starts = subst (λ k. c.first % 2 ^ k ≡ 0) (sym at.1) (subst (λ s. c.first % 2 ^ (width_of s - h.length) ≡ 0) same h.is_cut.starts.2);
      ends = subst (λ k. c.last ≡ c.first + (2 ^ k - 1)) (sym at.1)
          (subst (λ s. c.last ≡ c.first + (2 ^ (width_of s - h.length) - 1)) same (ap (λ (x : PlainRange). x.last) h.is_cut.is_block));
    }

pub labelled6 : (r c : PlainRange) → IsReverseCut r c → c.space ≡ Ipv6 → IsLabelled Ipv6 4 13 64 c
labelled6 r c h e =
    let same : r.space ≡ Ipv6 = sym (ap (λ (x : PlainRange). x.space) h.is_cut.is_block) ∙ e in
    let at = digits6 h.length (subst (λ s. is_cut_length s h.length ≡ true) same h.is_cut.cut_length) in
    record {
      of_space = e;
      digits = (64 - h.length) / 4;
      fits = at.0;
      starts = subst (λ k. c.first % 2 ^ k ≡ 0) (sym at.1) (subst (λ s. c.first % 2 ^ (width_of s - h.length) ≡ 0) same h.is_cut.starts.2);
      ends = subst (λ k. c.last ≡ c.first + (2 ^ k - 1)) (sym at.1)
          (subst (λ s. c.last ≡ c.first + (2 ^ (width_of s - h.length) - 1)) same (ap (λ (x : PlainRange). x.last) h.is_cut.is_block));
    }

pub names_differ : (apex : Apex) (r s c d : PlainRange) → IsReverseCut r c → IsReverseCut s d → IsInside c (apex_range apex) → IsInside d (apex_range apex)
    → cut_name c ≡ cut_name d → c ≡ d
names_differ (Four octet) r s c d hc hd ic id e =
    let c1 = ic.1 in
    let c2 = ic.2 in
    let c3 = cut_order r c hc in
    let d1 = id.1 in
    let d2 = id.2 in
    let d3 = cut_order s d hd in
    named_same Ipv4 2 8 tt (omega arith) refl c d (labelled4 r c hc ic.0) (labelled4 s d hd id.0)
    (quotient_is c.first octet (2 ^ 24) (omega arith) c1 (omega arith) ∙ sym (quotient_is d.first octet (2 ^ 24) (omega arith) d1 (omega arith))) e
names_differ (Six nibbles) r s c d hc hd ic id e =
    let c1 = ic.1 in
    let c2 = ic.2 in
    let c3 = cut_order r c hc in
    let d1 = id.1 in
    let d2 = id.2 in
    let d3 = cut_order s d hd in
    named_same Ipv6 13 64 tt (omega arith) refl c d (labelled6 r c hc ic.0) (labelled6 s d hd id.0)
    (quotient_is c.first nibbles (2 ^ 116) (omega arith) c1 (omega arith) ∙ sym (quotient_is d.first nibbles (2 ^ 116) (omega arith) d1 (omega arith))) e
