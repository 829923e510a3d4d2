-- The pieces of one space, and how many there may be.
use Rattle.std.specs.Prelude.{ℕ, nat_le, List, [], ◌∷◌, Option, None, Some, if◌then◌else◌}
use Rattle.std.specs.Option.{option_or}
use Rattle.num_range.specs.declared.space.Space.{Space}
use Rattle.reg_entry.specs.declared.piece.Piece.{Piece}

pub record PlainSpace : Type 0 where
  pub space : Space
  pub pieces : List Piece
  pub room : ℕ

-- the last piece that begins at the value or below
abbrev pub last_begun : ℕ → List Piece → Option Piece
last_begun value [] = None
last_begun value (p ∷ ps) = option_or (last_begun value ps) (if nat_le p.range.first value then Some p else None)
