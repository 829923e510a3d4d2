-- Handles: the names under which holders are known.
use Rattle.std.specs.Prelude.{ℕ, Bool, false, ◌&&◌, ◌||◌, ◌==◌, nat_le, List, [], ◌∷◌, length}
use Rattle.std.specs.List.{list_all}

abbrev pub is_capital : ℕ → Bool
is_capital b = nat_le 65 b && nat_le b 90

abbrev pub is_handle_byte : ℕ → Bool
is_handle_byte b = is_capital b || (nat_le 48 b && nat_le b 57) || b == 45

-- a capital letter, then capitals, digits and `-`, 24 bytes at most
abbrev pub is_handle : List ℕ → Bool
is_handle [] = false
is_handle (b ∷ bs) = is_capital b && list_all is_handle_byte bs && nat_le (length bs) 23
