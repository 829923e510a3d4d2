-- Hundredths of an amount, computed in two parts.
use Rattle.std.proofs.Common.{◌≡◌, ℕ, ◌+◌, ◌*◌, ◌/◌, ◌%◌, ◌<◌, sym, ◌∙◌, ap, arith}
use Rattle.std.proofs.lemmas.Nat.{div-add-mod'}
use Rattle.std.proofs.Math.Nat.{mul-add-div_right, mul_comm, mul_assoc, add-mul}

spread : (q r p : ℕ) → (q * 100 + r) * p ≡ q * p * 100 + r * p
spread q r p =
    add-mul (q * 100) r p
    ∙ ap (λ (n : ℕ). n + r * p) (mul_assoc q 100 p ∙ ap (λ (n : ℕ). q * n) (mul_comm 100 p) ∙ sym (mul_assoc q p 100))

pub hundredths_are : (a p : ℕ) → a * p / 100 ≡ a / 100 * p + a % 100 * p / 100
hundredths_are a p =
    let some : 0 < 100 = omega arith in
    ap (λ (n : ℕ). n * p / 100) (sym (div-add-mod' a 100))
    ∙ ap (λ (n : ℕ). n / 100) (spread (a / 100) (a % 100) p)
    ∙ mul-add-div_right some (a / 100 * p) (a % 100 * p)
