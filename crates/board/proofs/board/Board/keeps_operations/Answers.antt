use Rattle.std.proofs.Common.{subst}
use Rattle.reg_entry.specs.Whole.{IsWhole}
use Rattle.board.proofs.board.Board.keeps_operations.Goals as goal

pub returns-clause-whole : goal.returns-clause-whole
returns-clause-whole c = subst IsWhole c.self.view_is (c.reached_boards_are_whole.ensures.whole _ c.self.invariant.board)
