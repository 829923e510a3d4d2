-- How large an aligned block a range has room for.
use Rattle.std.proofs.Common.{◌≡◌, ℕ, ◌+◌, ◌-◌, ◌*◌, ◌/◌, ◌%◌, ◌^◌, ◌<◌, ◌≤◌, suc, zero, min, Bool, true, false, cond, nat_le, ◌⊎◌, sym, ◌∙◌, ap, subst, inl, inr, arith}
use Rattle.std.proofs.Math.Nat.{mul-mod_left, pow-le-pow_right, pow-suc}
use Rattle.std.proofs.lemmas.Nat.{div-add-mod', mod_below, pow-add, pow_pos, pow_below}
use Rattle.std.proofs.lemmas.Bool.{cases_Bool, cases_lt, cases_order, le-leb, lt-leb, leb-true, false≢true}
use Rattle.std.specs.Cmp.{both_ways}
use Rattle.num_range.specs.declared.space.Space.{Space}
use Rattle.num_range.specs.declared.space.Space.TheVariants.{Asn, Ipv4, Ipv6}
use Rattle.num_range.specs.Amount.{alignment}
use Rattle.num_range.specs.Range.{PlainRange, size_of}
use Rattle.reg_entry.specs.Blocks.{rounded_up}
use Rattle.reg_entry.proofs.LeastBlock.{rounded_up_no_less, rounded_up_is_least}
use Rattle.piece_book.specs.Free.{has_block, greatest_to, block_class, class_size, IsBlockSize}

-- ---- the greatest that passes

greatest_within : (n : ℕ) (passes : ℕ → Bool) → greatest_to n passes ≤ n
unfolding greatest_to
greatest_within zero passes = omega arith
greatest_within (suc n) passes = elim (passes (suc n)) as (λ b. cond b (suc n) (greatest_to n passes) ≤ suc n) [
  | true ↦ omega arith
  | false ↦ let rest = greatest_within n passes in omega arith
]

greatest_passes : (n : ℕ) (passes : ℕ → Bool) → passes 0 ≡ true → passes (greatest_to n passes) ≡ true
unfolding greatest_to
greatest_passes zero passes h = h
greatest_passes (suc n) passes h = elim (cases_Bool (passes (suc n))) [
  | inl t ↦ ap (λ b. passes (cond b (suc n) (greatest_to n passes))) t ∙ t
  | inr f ↦ ap (λ b. passes (cond b (suc n) (greatest_to n passes))) f ∙ greatest_passes n passes h
]

greatest_is_most : (n : ℕ) (passes : ℕ → Bool) (k : ℕ) → k ≤ n → passes k ≡ true → k ≤ greatest_to n passes
unfolding greatest_to
greatest_is_most zero passes k l t = l
greatest_is_most (suc n) passes k l t = elim (cases_Bool (passes (suc n))) [
  | inl u ↦ subst (λ b. k ≤ cond b (suc n) (greatest_to n passes)) (sym u) l
  | inr f ↦ subst (λ b. k ≤ cond b (suc n) (greatest_to n passes)) (sym f)
      (elim (cases_lt k (suc n)) [
        | inl below ↦ greatest_is_most n passes k (omega arith) t
        | inr above ↦
            let same : k ≡ suc n = omega arith in
            absurd (false≢true (sym f ∙ (sym (ap passes same) ∙ t)))
      ])
]

greatest_is : (n : ℕ) (passes : ℕ → Bool) (g : ℕ) → g ≤ n → passes 0 ≡ true → passes g ≡ true → ((k : ℕ) → g < k → passes k ≡ false) → greatest_to n passes ≡ g
greatest_is n passes g within zero_passes t above =
    let most : g ≤ greatest_to n passes = greatest_is_most n passes g within t in
    elim (cases_lt g (greatest_to n passes)) [
      | inl more ↦ absurd (false≢true (sym (above (greatest_to n passes) more) ∙ greatest_passes n passes zero_passes))
      | inr le ↦ omega arith
    ]

-- ---- blocks of addresses

rounded_one : (n : ℕ) → rounded_up n 1 ≡ n
rounded_one n =
    let whole : n % 1 < 1 = mod_below n 1 (omega arith) in
    let above : n ≤ rounded_up n 1 = rounded_up_no_less n 1 (omega arith) in
    let least : rounded_up n 1 ≤ n = rounded_up_is_least n 1 n (omega arith) (omega arith) (omega arith) in
    omega arith

rounded_up_near : (n multiple : ℕ) → rounded_up n multiple ≤ n + (multiple - 1)
rounded_up_near n multiple = let parts = div-add-mod' (n + (multiple - 1)) multiple in omega arith

-- a multiple of a power of two is one of each lesser power
multiple_of_lesser : (n k more : ℕ) → rounded_up n (2 ^ (k + more)) % 2 ^ k ≡ 0
multiple_of_lesser n k more =
    let whole : ℕ = 2 ^ (k + more) in
    let quotient : ℕ = (n + (whole - 1)) / whole in
    let parts : whole ≡ 2 ^ k * 2 ^ more = pow-add 2 k more in
    let is : quotient * whole ≡ quotient * 2 ^ more * 2 ^ k = omega (arith, ap (λ m. quotient * m) parts) in
    ap (λ m. m % 2 ^ k) is ∙ mul-mod_left (quotient * 2 ^ more) (2 ^ k)

-- where a block fits, each smaller one does
smaller_fits : (first last k e : ℕ) → k ≤ e → rounded_up first (2 ^ e) + (2 ^ e - 1) ≤ last → rounded_up first (2 ^ k) + (2 ^ k - 1) ≤ last
smaller_fits first last k e le fits =
    let sum : k + (e - k) ≡ e = omega arith in
    let multiple : rounded_up first (2 ^ e) % 2 ^ k ≡ 0 = subst (λ m. rounded_up first (2 ^ m) % 2 ^ k ≡ 0) sum (multiple_of_lesser first k (e - k)) in
    let above : first ≤ rounded_up first (2 ^ e) = rounded_up_no_less first (2 ^ e) (pow_pos e) in
    let least : rounded_up first (2 ^ k) ≤ rounded_up first (2 ^ e) = rounded_up_is_least first (2 ^ k) (rounded_up first (2 ^ e)) (pow_pos k) above multiple in
    let smaller : 2 ^ k ≤ 2 ^ e = pow-le-pow_right (omega arith) le in
    omega arith

one_fits : (r : PlainRange) → r.first ≤ r.last → has_block r 0 ≡ true
one_fits r h = let one = rounded_one r.first in le-leb (rounded_up r.first 1 + 0) r.last (omega arith)

-- more numbers than the range has don't fit
larger_fails : (r : PlainRange) (e k : ℕ) → r.first ≤ r.last → r.last - r.first + 1 < 2 * 2 ^ e → e < k → has_block r k ≡ false
larger_fails r e k order less above =
    let double : 2 ^ suc e ≡ 2 ^ e * 2 = pow-suc 2 e in
    let larger : 2 ^ suc e ≤ 2 ^ k = pow-le-pow_right (omega arith) (omega arith) in
    let up : r.first ≤ rounded_up r.first (2 ^ k) = rounded_up_no_less r.first (2 ^ k) (pow_pos k) in
    lt-leb (rounded_up r.first (2 ^ k) + (2 ^ k - 1)) r.last (omega arith)

pub exponent_fits : (r : PlainRange) (e : ℕ) → e < 128 → r.first ≤ r.last → r.last - r.first + 1 < 2 * 2 ^ e
    → rounded_up r.first (2 ^ e) + (2 ^ e - 1) ≤ r.last → greatest_to 128 (has_block r) ≡ e
exponent_fits r e within order less fits =
    greatest_is 128 (has_block r) e (omega arith) (one_fits r order) (le-leb (rounded_up r.first (2 ^ e) + (2 ^ e - 1)) r.last fits)
    (λ k above. larger_fails r e k order less above)

pub exponent_one_less : (r : PlainRange) (e : ℕ) → e < 128 → r.first ≤ r.last → 2 ^ e ≤ r.last - r.first + 1 → r.last - r.first + 1 < 2 * 2 ^ e
    → r.last < rounded_up r.first (2 ^ e) + (2 ^ e - 1) → greatest_to 128 (has_block r) ≡ e - 1
exponent_one_less r zero within order some less full = let one = rounded_one r.first in absurd (omega arith)
exponent_one_less r (suc d) within order some less full =
    let double : 2 ^ suc d ≡ 2 ^ d * 2 = pow-suc 2 d in
    let near : rounded_up r.first (2 ^ d) ≤ r.first + (2 ^ d - 1) = rounded_up_near r.first (2 ^ d) in
    let pos : 0 < 2 ^ d = pow_pos d in
    let fits : rounded_up r.first (2 ^ d) + (2 ^ d - 1) ≤ r.last = omega arith in
    let is : greatest_to 128 (has_block r) ≡ d =
    greatest_is 128 (has_block r) d (omega arith) (one_fits r order) (le-leb (rounded_up r.first (2 ^ d) + (2 ^ d - 1)) r.last fits)
    (λ k above. elim (cases_lt (suc d) k) [
      | inl further ↦ larger_fails r (suc d) k order less further
      | inr le ↦
          let same : suc d ≡ k = omega arith in
          subst (λ m. has_block r m ≡ false) same (lt-leb (rounded_up r.first (2 ^ suc d) + (2 ^ suc d - 1)) r.last full)
    ]) in
    omega arith

-- ---- classes

same_exponent : (i j : ℕ) → 2 ^ i ≡ 2 ^ j → i ≡ j
same_exponent i j e = elim (cases_order i j) [
  | inl same ↦ same
  | inr other ↦ elim other [
    | inl less ↦ let below : 2 ^ i < 2 ^ j = pow_below i j less in absurd (omega arith)
    | inr more ↦ let below : 2 ^ j < 2 ^ i = pow_below j i more in absurd (omega arith)
  ]
]

-- the exponent of a power of two is its logarithm
logarithm_is : (size k e : ℕ) → size ≡ 2 ^ k → 2 ^ e ≤ size → size < 2 * 2 ^ e → e ≡ k
logarithm_is size k e is least most = elim (cases_order e k) [
  | inl same ↦ same
  | inr other ↦ elim other [
    | inl less ↦
        let double : 2 ^ suc e ≡ 2 ^ e * 2 = pow-suc 2 e in
        let larger : 2 ^ suc e ≤ 2 ^ k = pow-le-pow_right (omega arith) (omega arith) in
        absurd (omega arith)
    | inr more ↦ let below : 2 ^ k < 2 ^ e = pow_below k e more in absurd (omega arith)
  ]
]

-- so it is of a block of addresses
pub logarithm_is_class : (space : Space) (size e : ℕ) → (space ≡ Ipv4) ⊎ (space ≡ Ipv6) → IsBlockSize space size → 2 ^ e ≤ size → size < 2 * 2 ^ e
    → (size ≡ class_size space e) × (e ≤ 1024)
logarithm_is_class Asn size e (inl wrong) sized least most = absurd (cc)
logarithm_is_class Asn size e (inr wrong) sized least most = absurd (cc)
logarithm_is_class Ipv4 size e h sized least most =
    let same : e ≡ sized.0 = logarithm_is size sized.0 e sized.2 least most in
    (sized.2 ∙ ap (λ k. 2 ^ k) (sym same), omega (arith, sized.1))
logarithm_is_class Ipv6 size e h sized least most =
    let same : e ≡ sized.0 = logarithm_is size sized.0 e sized.2 least most in
    (sized.2 ∙ ap (λ k. 2 ^ k) (sym same), omega (arith, sized.1))

pub class_within : (space : Space) (r : PlainRange) → block_class space r ≤ 1024
class_within Asn r = omega arith
class_within Ipv4 r = let within = greatest_within 128 (has_block r) in omega arith
class_within Ipv6 r = let within = greatest_within 128 (has_block r) in omega arith

-- a range has room for a block of each class up to its own, and of no other
pub record IsClass (space : Space) (size class : ℕ) : Type 0 where
  pub sized : IsBlockSize space size
  pub is : size ≡ class_size space class

addresses_serve : (r : PlainRange) (class : ℕ) → r.first ≤ r.last → class ≤ 128
    → nat_le class (greatest_to 128 (has_block r)) ≡ nat_le (rounded_up r.first (2 ^ class) + (2 ^ class - 1)) r.last
addresses_serve r class order within =
    let most : ℕ = greatest_to 128 (has_block r) in
    both_ways (nat_le class most) (has_block r class)
    (λ t.
    let fits : rounded_up r.first (2 ^ most) + (2 ^ most - 1) ≤ r.last =
    leb-true (rounded_up r.first (2 ^ most) + (2 ^ most - 1)) r.last (greatest_passes 128 (has_block r) (one_fits r order)) in
    le-leb (rounded_up r.first (2 ^ class) + (2 ^ class - 1)) r.last (smaller_fits r.first r.last class most (leb-true class most t) fits))
    (λ t. le-leb class most (greatest_is_most 128 (has_block r) class within t))

pub class_serves : (space : Space) (r : PlainRange) (size class : ℕ) → r.first ≤ r.last → IsClass space size class
    → nat_le class (block_class space r) ≡ nat_le (rounded_up r.first (alignment space size) + (size - 1)) r.last
class_serves Asn r size class order h =
    let one = rounded_one r.first in
    let is = h.is in
    let sized = h.sized in
    both_ways (nat_le class (min (size_of r) 1024)) (nat_le (rounded_up r.first 1 + (size - 1)) r.last)
    (λ t. let le = leb-true class (min (size_of r) 1024) t in le-leb (rounded_up r.first 1 + (size - 1)) r.last (omega arith))
    (λ t. let le = leb-true (rounded_up r.first 1 + (size - 1)) r.last t in le-leb class (min (size_of r) 1024) (omega arith))
class_serves Ipv4 r size class order h =
    let same : class ≡ h.sized.0 = same_exponent class h.sized.0 (sym h.is ∙ h.sized.2) in
    let within : class ≤ 128 = omega (arith, h.sized.1) in
    addresses_serve r class order within ∙ ap (λ m. nat_le (rounded_up r.first m + (m - 1)) r.last) (sym h.is)
class_serves Ipv6 r size class order h =
    let same : class ≡ h.sized.0 = same_exponent class h.sized.0 (sym h.is ∙ h.sized.2) in
    let within : class ≤ 128 = omega (arith, h.sized.1) in
    addresses_serve r class order within ∙ ap (λ m. nat_le (rounded_up r.first m + (m - 1)) r.last) (sym h.is)
