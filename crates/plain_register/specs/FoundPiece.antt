-- What is known of the piece that holds a number.
use Rattle.std.specs.Prelude.{ℕ, ◌≤◌}
use Rattle.num_range.specs.declared.space.Space.{Space}
use Rattle.reg_entry.specs.declared.piece.Piece.{Piece}
use Rattle.reg_entry.specs.Pieces.{IsPieceOf}

-- the piece has the number, is one of the space, and lies no lower than a bound
pub record IsFoundIn (space : Space) (low x : ℕ) (p : Piece) : Type 0 where
  pub begins : p.range.first ≤ x
  pub ends : x ≤ p.range.last
  pub above : low ≤ p.range.first
  pub of_space : IsPieceOf space p
