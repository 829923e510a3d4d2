-- The tokens by which hostmasters are known: b64token (RFC 6750 2.1), of 8 to 64 bytes.
use Rattle.std.specs.Prelude.{ℕ, Bool, ◌&&◌, ◌||◌, ◌==◌, nat_le, List, length, take_while, drop}
use Rattle.std.specs.List.{list_all}
use Rattle.reg_entry.specs.Handle.{is_capital}
use Rattle.reg_entry.specs.Name.{is_name_byte}

-- `-`, `.`, `_`, `~`, `+` and `/`
abbrev pub is_token_mark : ℕ → Bool
is_token_mark b = b == 45 || b == 46 || b == 95 || b == 126 || b == 43 || b == 47

abbrev pub is_token_byte : ℕ → Bool
is_token_byte b = is_capital b || is_name_byte b || is_token_mark b

-- how many bytes stand before the first that isn't a token's
abbrev pub token_front : List ℕ → ℕ
token_front bytes = length (take_while is_token_byte bytes)

-- one or more token bytes, and behind them only `=`
abbrev pub has_token_form : List ℕ → Bool
has_token_form bytes = nat_le 1 (token_front bytes) && list_all (λ b. b == 61) (drop (token_front bytes) bytes)

abbrev pub is_token : List ℕ → Bool
is_token bytes = nat_le 8 (length bytes) && nat_le (length bytes) 64 && has_token_form bytes
