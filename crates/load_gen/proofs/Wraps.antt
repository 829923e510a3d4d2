-- Arithmetic modulo 2^64, step by step and at once.
use Rattle.std.proofs.Common.{◌≡◌, ℕ, ◌+◌, ◌*◌, ◌%◌, ◌^◌, ap, ◌∙◌, mul_comm}
use Rattle.std.proofs.Math.Nat.{mod-add-mod}
use Rattle.load_gen.specs.Sequence.{next_number}

-- the product may be reduced before the sum is
pub wraps_once : (x : ℕ) → (x * 6364136223846793005 % 2 ^ 64 + 1442695040888963407) % 2 ^ 64 ≡ next_number x
wraps_once x =
    mod-add-mod (x * 6364136223846793005) (2 ^ 64) 1442695040888963407
    ∙ ap (λ n. (n + 1442695040888963407) % 2 ^ 64) (mul_comm x 6364136223846793005)
