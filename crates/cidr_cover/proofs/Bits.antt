-- How many low bits of a number are 0.
use Rattle.std.proofs.Common.{◌≡◌, ℕ, zero, suc, ◌*◌, ◌/◌, ◌%◌, ◌^◌, ◌≤◌, inl, inr, sym, ◌∙◌, ap, arith}
use Rattle.std.proofs.Math.Nat.{pow-suc, mul_assoc, mul-mod_left, mod-one}
use Rattle.std.proofs.lemmas.Bool.{cases_eq}
use lib.Count.{count_trailing_zeros, under}
use Rattle.cidr_cover.proofs.Sizes.{multiple_is, multiple_of_lesser}

-- twice a multiple of a power of two is one of the next power
doubled_multiple : (n k : ℕ) → n % 2 ≡ 0 → n / 2 % 2 ^ k ≡ 0 → n % 2 ^ suc k ≡ 0
doubled_multiple n k even e =
    let half : n / 2 / 2 ^ k * 2 ^ k ≡ n / 2 = multiple_is (n / 2) (2 ^ k) e in
    let whole : n / 2 * 2 ≡ n = multiple_is n 2 even in
    let count : ℕ = n / 2 / 2 ^ k in
    let product : count * 2 ^ suc k ≡ n = ap (λ m. count * m) (pow-suc 2 k) ∙ sym (mul_assoc count (2 ^ k) 2) ∙ ap (λ m. m * 2) half ∙ whole in
    ap (λ m. m % 2 ^ suc k) (sym product) ∙ mul-mod_left count (2 ^ suc k)

halved_multiple : (n k : ℕ) → n % 2 ^ suc k ≡ 0 → n / 2 % 2 ^ k ≡ 0
halved_multiple n k e =
    let count : ℕ = n / 2 ^ suc k in
    let whole : count * 2 ^ suc k ≡ n = multiple_is n (2 ^ suc k) e in
    let product : count * 2 ^ k * 2 ≡ n = mul_assoc count (2 ^ k) 2 ∙ ap (λ m. count * m) (sym (pow-suc 2 k)) ∙ whole in
    let half : n / 2 ≡ count * 2 ^ k = omega arith in
    ap (λ m. m % 2 ^ k) half ∙ mul-mod_left count (2 ^ k)

pub trailing_zero : (width n : ℕ) → n % 2 ^ count_trailing_zeros width n ≡ 0
unfolding count_trailing_zeros
trailing_zero zero n = mod-one n
trailing_zero (suc width) n =
    elim (cases_eq (n % 2) 0) [
      | inl even ↦
          let counted : count_trailing_zeros (suc width) n ≡ suc (count_trailing_zeros width (n / 2)) =
          ap (λ d. under d (count_trailing_zeros width (n / 2))) even in
          ap (λ k. n % 2 ^ k) counted ∙ doubled_multiple n (count_trailing_zeros width (n / 2)) even (trailing_zero width (n / 2))
      | inr odd ↦
          let one : n % 2 ≡ 1 = omega arith in
          let counted : count_trailing_zeros (suc width) n ≡ 0 = ap (λ d. under d (count_trailing_zeros width (n / 2))) one in
          ap (λ k. n % 2 ^ k) counted ∙ mod-one n
    ]

pub trailing_most : (width n k : ℕ) → k ≤ width → n % 2 ^ k ≡ 0 → k ≤ count_trailing_zeros width n
unfolding count_trailing_zeros
trailing_most width n zero h e = omega arith
trailing_most zero n (suc k) h e = omega arith
trailing_most (suc width) n (suc k) h e =
    let even : n % 2 ≡ 0 = multiple_of_lesser n 1 (suc k) (omega arith) e in
    let counted : count_trailing_zeros (suc width) n ≡ suc (count_trailing_zeros width (n / 2)) =
    ap (λ d. under d (count_trailing_zeros width (n / 2))) even in
    let rest : k ≤ count_trailing_zeros width (n / 2) = trailing_most width (n / 2) k (omega arith) (halved_multiple n k e) in
    omega arith

pub ruleset trailing_bits = (trailing_zero, trailing_most)
