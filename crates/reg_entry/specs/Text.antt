-- Texts that are stored as they stand: a holder's name in full, and its email.
use Rattle.std.specs.Prelude.{ℕ, ◌-◌, Bool, ◌&&◌, ◌==◌, not, nat_le, List, length, slice_index}
use Rattle.std.specs.List.{list_all}

-- printable ASCII, but for the three bytes that quote, comment or escape elsewhere: `"`, `#` and `\`
abbrev pub is_text_byte : ℕ → Bool
is_text_byte b = nat_le 32 b && nat_le b 126 && not (b == 34) && not (b == 35) && not (b == 92)

-- the byte stands neither first nor last
abbrev pub is_bare_of : ℕ → List ℕ → Bool
is_bare_of b bytes = not (slice_index bytes 0 == b) && not (slice_index bytes (length bytes - 1) == b)

-- 1 to 96 bytes of printable ASCII, with no blank at either end
abbrev pub is_text : List ℕ → Bool
is_text bytes = nat_le 1 (length bytes) && nat_le (length bytes) 96 && list_all is_text_byte bytes && is_bare_of 32 bytes
