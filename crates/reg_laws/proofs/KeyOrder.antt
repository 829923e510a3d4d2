-- Keys are in the order of lists of numbers, so they have one order.
use Rattle.std.proofs.Common.{◌≡◌, ℕ, suc, Bool, false, inl, inr, List, [], ◌∷◌, refl, sym, ◌∙◌, ap, arith, zero, true, ◌&&◌, ◌||◌, ◌==◌, nat_lt, ◌⊎◌}
use Rattle.std.proofs.lemmas.Bool.{both_ways, cases_order, or_left, or_right, or_cases, and_from, and_parts, ltb-true, eqb-true, lt-ltb, eq-eqb}
use Rattle.num_range.specs.declared.space.Space.TheVariants.{Asn}
use Rattle.num_range.specs.Range.{PlainRange}
use Rattle.reg_entry.specs.declared.object.Key.{Key}
use Rattle.reg_entry.specs.declared.object.Key.TheVariants.{Org as OrgKey, Block as BlockKey, Sub as SubKey, Cut as CutKey}
use Rattle.reg_entry.specs.Ranges.{space_rank, same_space, range_before}
use Rattle.reg_entry.specs.Objects.{same_key, key_before, bytes_before}
use Rattle.reg_laws.proofs.Sameness.{same_key-refl, space_of, space_of_rank, as_range}

-- ---- the order of lists of numbers

first_differs : (x y z : ℕ) (p q s : Bool) → (nat_lt x y || ((x == y) && p)) ≡ true → (nat_lt y z || ((y == z) && q)) ≡ true
    → (p ≡ true → q ≡ true → s ≡ true) → (nat_lt x z || ((x == z) && s)) ≡ true
first_differs x y z p q s h k both =
    elim (or_cases (nat_lt x y) ((x == y) && p) h) [
      | inl a ↦ elim (or_cases (nat_lt y z) ((y == z) && q) k) [
        | inl b ↦ or_left (nat_lt x z) ((x == z) && s) (lt-ltb x z (let l = ltb-true x y a in let m = ltb-true y z b in omega arith))
        | inr b ↦ or_left (nat_lt x z) ((x == z) && s) (lt-ltb x z (let l = ltb-true x y a in let m = eqb-true y z (and_parts (y == z) q b).0 in omega arith))
      ]
      | inr a ↦
          let e : x ≡ y = eqb-true x y (and_parts (x == y) p a).0 in
          elim (or_cases (nat_lt y z) ((y == z) && q) k) [
            | inl b ↦ or_left (nat_lt x z) ((x == z) && s) (lt-ltb x z (let m = ltb-true y z b in omega arith))
            | inr b ↦
                let c = and_parts (y == z) q b in
                or_right (nat_lt x z) ((x == z) && s)
                (and_from (x == z) s (eq-eqb x z (e ∙ eqb-true y z c.0)) (both (and_parts (x == y) p a).1 c.1))
          ]
    ]

before_through : (a b c : List ℕ) → bytes_before a b ≡ true → bytes_before b c ≡ true → bytes_before a c ≡ true
before_through [] [] c h k = absurd (both_ways false refl h)
before_through [] (y ∷ ys) [] h k = absurd (both_ways false refl k)
before_through [] (y ∷ ys) (z ∷ zs) h k = refl
before_through (x ∷ xs) [] c h k = absurd (both_ways false refl h)
before_through (x ∷ xs) (y ∷ ys) [] h k = absurd (both_ways false refl k)
before_through (x ∷ xs) (y ∷ ys) (z ∷ zs) h k =
    first_differs x y z (bytes_before xs ys) (bytes_before ys zs) (bytes_before xs zs) h k (before_through xs ys zs)

not_before_itself : (a : List ℕ) → bytes_before a a ≡ true → ⊥
not_before_itself [] h = both_ways false refl h
not_before_itself (x ∷ xs) h =
    elim (or_cases (nat_lt x x) ((x == x) && bytes_before xs xs) h) [
      | inl a ↦ let l = ltb-true x x a in omega arith
      | inr a ↦ not_before_itself xs (and_parts (x == x) (bytes_before xs xs) a).1
    ]

-- one list is before the other, or they are the same
one_way : (a b : List ℕ) → (bytes_before a b ≡ true) ⊎ ((bytes_before b a ≡ true) ⊎ (a ≡ b))
one_way [] [] = inr (inr refl)
one_way [] (y ∷ ys) = inl refl
one_way (x ∷ xs) [] = inr (inl refl)
one_way (x ∷ xs) (y ∷ ys) =
    elim (cases_order x y) [
      | inl e ↦ elim (one_way xs ys) [
        | inl h ↦ inl (or_right (nat_lt x y) ((x == y) && bytes_before xs ys) (and_from (x == y) (bytes_before xs ys) (eq-eqb x y e) h))
        | inr h ↦ elim h [
          | inl k ↦ inr (inl (or_right (nat_lt y x) ((y == x) && bytes_before ys xs) (and_from (y == x) (bytes_before ys xs) (eq-eqb y x (sym e)) k)))
          | inr k ↦ inr (inr (ap (λ n. n ∷ xs) e ∙ ap (λ zs. y ∷ zs) k))
        ]
      ]
      | inr h ↦ elim h [
        | inl lt ↦ inl (or_left (nat_lt x y) ((x == y) && bytes_before xs ys) (lt-ltb x y lt))
        | inr gt ↦ inr (inl (or_left (nat_lt y x) ((y == x) && bytes_before ys xs) (lt-ltb y x gt)))
      ]
    ]

-- ---- keys as lists of numbers, in the same order

abbrev range_code : PlainRange → List ℕ
range_code r = space_rank r.space ∷ r.first ∷ r.last ∷ []

abbrev code : Key → List ℕ
code (OrgKey handle) = 0 ∷ handle
code (BlockKey r) = 1 ∷ range_code r
code (SubKey r) = 2 ∷ range_code r
code (CutKey r) = 3 ∷ range_code r

coded_range : List ℕ → PlainRange
coded_range (a ∷ b ∷ c ∷ rest) = as_range (space_of a) b c
coded_range other = as_range Asn 0 0

coded_key : List ℕ → Key
coded_key [] = OrgKey []
coded_key (zero ∷ rest) = OrgKey rest
coded_key (suc zero ∷ rest) = BlockKey (coded_range rest)
coded_key (suc (suc zero) ∷ rest) = SubKey (coded_range rest)
coded_key (suc (suc (suc n)) ∷ rest) = CutKey (coded_range rest)

range_of_code : (r : PlainRange) → coded_range (range_code r) ≡ r
unfolding coded_range as_range
range_of_code r = ap (λ s. as_range s r.first r.last) (space_of_rank r.space)

key_of_code : (k : Key) → coded_key (code k) ≡ k
unfolding coded_key
key_of_code (OrgKey handle) = refl
key_of_code (BlockKey r) = ap (λ x. BlockKey x) (range_of_code r)
key_of_code (SubKey r) = ap (λ x. SubKey x) (range_of_code r)
key_of_code (CutKey r) = ap (λ x. CutKey x) (range_of_code r)

last_number : (a b : Bool) → (a || (b && false)) ≡ a
last_number true b = refl
last_number false true = refl
last_number false false = refl

range_code_before : (r s : PlainRange) → bytes_before (range_code r) (range_code s) ≡ range_before r s
range_code_before r s =
    ap (λ b. nat_lt (space_rank r.space) (space_rank s.space) || (same_space r.space s.space && (nat_lt r.first s.first || ((r.first == s.first) && b))))
    (last_number (nat_lt r.last s.last) (r.last == s.last))

code_before : (j k : Key) → bytes_before (code j) (code k) ≡ key_before j k
code_before (OrgKey a) (OrgKey b) = refl
code_before (BlockKey a) (BlockKey b) = range_code_before a b
code_before (SubKey a) (SubKey b) = range_code_before a b
code_before (CutKey a) (CutKey b) = range_code_before a b
code_before j k = refl

pub key_before_through : (i j k : Key) → key_before i j ≡ true → key_before j k ≡ true → key_before i k ≡ true
key_before_through i j k g h =
    sym (code_before i k) ∙ before_through (code i) (code j) (code k) (code_before i j ∙ g) (code_before j k ∙ h)

pub no_key_before_itself : (k : Key) → key_before k k ≡ true → ⊥
no_key_before_itself k h = not_before_itself (code k) (code_before k k ∙ h)

pub key_behind : (j k : Key) → key_before j k ≡ false → same_key k j ≡ false → key_before k j ≡ true
key_behind j k f other =
    elim (one_way (code j) (code k)) [
      | inl h ↦ absurd (both_ways (key_before j k) f (sym (code_before j k) ∙ h))
      | inr h ↦ elim h [
        | inl b ↦ sym (code_before k j) ∙ b
        | inr e ↦
            let same : j ≡ k = sym (key_of_code j) ∙ ap coded_key e ∙ key_of_code k in
            absurd (both_ways (same_key k j) other (ap (same_key k) same ∙ same_key-refl k))
      ]
    ]
