use Rattle.std.proofs.Common.{subst}
use Rattle.reg_entry.specs.Operations.{PlainBoard}
use Rattle.reg_entry.specs.Whole.{IsWholeRegister}
use Rattle.board.proofs.board.Board.is_whole.Goals as goal

pub returns-clause-whole : goal.returns-clause-whole
returns-clause-whole c =
    subst (λ (b : PlainBoard). IsWholeRegister b.register) c.self.view_is (c.reached_registers_are_whole.ensures _ c.self.invariant.books.reached)
