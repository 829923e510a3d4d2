use Rattle.std.proofs.Common.{arith}
use Rattle.piece_book.proofs.Collecting.{fewer}
use Rattle.piece_book.proofs.Painted.{count_laid}
use Rattle.piece_book.proofs.painting.count_after.Goals as goal

pub overflow_sub-result : goal.overflow_sub-result
overflow_sub-result c =
    let few = fewer c.args.range.now c.args.status c.args.book.now.pieces in
    omega (arith, c.seams_of-seams.ensures.seams.count_is)

pub returns-clause-count : goal.returns-clause-count
returns-clause-count c = λ card same.
    let few = fewer c.args.range.now c.args.status c.args.book.now.pieces in
    let seams = c.seams_of-seams.ensures in
    let all = count_laid c.args.book.now.pieces c.args.range.now c.args.status card _ _ _ _ _ _ seams.pieces seams.valid.0 same seams.seams in
    omega (arith, seams.seams.count_is)
