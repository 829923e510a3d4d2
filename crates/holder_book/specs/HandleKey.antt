-- A handle as one number: its bytes are the digits to the base 38, from 1 to 37, the last the least. So handles that differ in
-- their last bytes have numbers that are near each other.
use Rattle.std.specs.Prelude.{ℕ, ◌+◌, ◌-◌, ◌*◌, nat_le, if◌then◌else◌, List, [], ◌∷◌, reverse}

-- capitals from 1 on, then digits, then the `-`
abbrev pub digit : ℕ → ℕ
digit b = if nat_le 65 b then b - 64 else (if nat_le 48 b then b - 21 else 37)

-- the number of digits, the first the least
abbrev pub digits_value : List ℕ → ℕ
digits_value [] = 0
digits_value (b ∷ bs) = digit b + 38 * digits_value bs

abbrev pub handle_key : List ℕ → ℕ
handle_key bs = digits_value (reverse bs)
