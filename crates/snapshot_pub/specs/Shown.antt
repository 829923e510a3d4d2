-- What is published, as contracts see it.
use Rattle.reg_entry.specs.Operations.{PlainBoard}
use Rattle.entry_log.specs.Front.{PlainFront}
use Rattle.op_feed.specs.ReachedBoard.{IsBoardOf}

-- a board, and the list of its entries
pub record PlainShown : Type 0 where
  pub board : PlainBoard
  pub front : PlainFront

-- the board is that of the list, which is legal
abbrev pub IsOfItsList : PlainShown → Type 0
IsOfItsList x = IsBoardOf x.board x.front.entries
