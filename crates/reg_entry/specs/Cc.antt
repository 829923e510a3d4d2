-- Country codes (ISO 3166-1 alpha-2), by their form alone.
use Rattle.std.specs.Prelude.{ℕ, Bool, ◌&&◌, ◌==◌, List, length}
use Rattle.std.specs.List.{list_all}
use Rattle.reg_entry.specs.Handle.{is_capital}

-- two capital letters
abbrev pub is_cc : List ℕ → Bool
is_cc bytes = (length bytes == 2) && list_all is_capital bytes
