-- Which pieces a change of the pool touches, all in one space.
use Rattle.std.specs.Prelude.{◌≡◌, List, ◌++◌}
use Rattle.num_range.specs.declared.space.Space.{Space}
use Rattle.reg_entry.specs.declared.piece.Piece.{Piece}
use Rattle.reg_entry.specs.Partition.{Partition, pieces_in, with_pieces}

-- the pieces of one space alone change: these give way to those, and all before and behind them are as they were
pub record IsTouchedBy (old new : Partition) (before after : List Piece) : Type 0 where
  pub space : Space
  pub others : new ≡ with_pieces old space (pieces_in new space)
  pub front : List Piece
  pub back : List Piece
  pub was : pieces_in old space ≡ front ++ (before ++ back)
  pub stands : pieces_in new space ≡ front ++ (after ++ back)
