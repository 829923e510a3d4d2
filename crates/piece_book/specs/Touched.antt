-- What a change of the pieces of a space touched.
use Rattle.std.specs.Prelude.{◌≡◌, List, ◌++◌, Contains}
use Rattle.reg_entry.specs.declared.piece.Piece.{Piece}
use Rattle.reg_entry.specs.Pieces.{RisesFrom}

-- The pieces that went or changed and those that stand in their place now, each list rising: no piece is in both, and
-- all that lies before and behind them is as it was.
pub record IsTouched (old new before after : List Piece) : Type 0 where
  pub front : List Piece
  pub back : List Piece
  pub was : old ≡ front ++ (before ++ back)
  pub stands : new ≡ front ++ (after ++ back)
  pub apart : (p : Piece) → Contains before p → Contains after p → ⊥
  pub before_rises : RisesFrom 0 before
  pub after_rises : RisesFrom 0 after
