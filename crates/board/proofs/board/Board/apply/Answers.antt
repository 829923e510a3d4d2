use Rattle.std.proofs.Common.{◌∙◌, ap}
use Rattle.reg_entry.specs.Operations.{PlainBoard, board_after_entry}
use Rattle.board.proofs.board.Board.apply.Goals as goal

pub returns-clause-board : goal.returns-clause-board
returns-clause-board c = c.take_in.ensures ∙ ap (λ (b : PlainBoard). board_after_entry b c.args.e.now) c.approach.ensures
