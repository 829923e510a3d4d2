use Rattle.std.proofs.Common.{◌≡◌, ◌-◌, ◌≤◌, slice_get, ◌∙◌, ap, arith}
use Rattle.reg_entry.specs.Operations.{PlainBoard}
use Rattle.op_feed.specs.ReachedBoard.{first_kept}
use Rattle.board.proofs.Taking.{find_serial, none_below, op_kept}
use Rattle.board.proofs.board.Board.op.Goals as goal

pub returns-then-serial-first-clause-found : goal.returns-then-serial-first-clause-found
returns-then-serial-first-clause-found c =
    let b : PlainBoard = c.args.self.now in
    none_below (first_kept b) c.args.serial b.kept (c.reached_boards_number_operations.ensures.serials b c.keeps_operations.ensures.reached)
    (let l = c.if-serial-first.true in let e = c.kept-first.ensures.first in omega arith)

pub returns : goal.returns
returns c =
    let b : PlainBoard = c.args.self.now in
    let serials = c.reached_boards_number_operations.ensures.serials b c.keeps_operations.ensures.reached in
    let few = c.reached_boards_number_operations.ensures.few b c.keeps_operations.ensures.reached in
    let low : first_kept b ≤ c.args.serial = (let l = c.if-serial-first.false in let e = c.kept-first.ensures.first in omega arith) in
    let at : c.at.result ≡ slice_get b.kept (c.args.serial - first_kept b) =
    c.at.ensures
    ∙ ap (λ (x : PlainBoard). slice_get x.kept (c.args.serial - c.kept-first.result.0)) c.self.view_is
    ∙ ap (λ n. slice_get b.kept (c.args.serial - n)) c.kept-first.ensures.first in
    record {
      found = at ∙ find_serial (first_kept b) c.args.serial b.kept serials low;
      kept = op_kept b c.args.serial c.at.result few low at;
    }
