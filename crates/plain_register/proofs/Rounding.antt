-- Rounding up to a multiple, by what is missing.
use Rattle.std.proofs.Common.{◌≡◌, ℕ, ◌+◌, ◌-◌, ◌*◌, ◌/◌, ◌%◌, ◌<◌, ◌∙◌, ap, arith}
use Rattle.std.proofs.lemmas.Nat.{div-add-mod', div-mul-add}
use Rattle.reg_entry.specs.Blocks.{rounded_up}

rounds_to : (n size q b : ℕ) → b < size → n + (size - 1) ≡ q * size + b → rounded_up n size ≡ q * size
rounds_to n size q b below e = ap (λ m. m / size * size) e ∙ ap (λ d. d * size) (div-mul-add q size b below)

pub gap_none : (n size : ℕ) → 0 < size → n % size ≡ 0 → n + 0 ≡ rounded_up n size
gap_none n size pos e =
    let parts = div-add-mod' n size in
    let whole : rounded_up n size ≡ n / size * size = rounds_to n size (n / size) (size - 1) (omega arith) (omega arith) in
    omega arith

pub gap_some : (n size : ℕ) → 0 < size → 0 < n % size → n + (size - n % size) ≡ rounded_up n size
gap_some n size pos some =
    let parts = div-add-mod' n size in
    let whole : rounded_up n size ≡ (n / size + 1) * size = rounds_to n size (n / size + 1) (n % size - 1) (omega arith) (omega arith) in
    omega arith
