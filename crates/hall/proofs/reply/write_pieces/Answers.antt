use Rattle.hall.proofs.Links.{written_second, unwritten_first}
use Rattle.hall.proofs.reply.write_pieces.Goals as goal

pub returns-in_err-write-clause-written : goal.returns-in_err-write-clause-written
returns-in_err-write-clause-written g c =
    unwritten_first c.from_residual.result _ _ c.args.head.now c.args.body.now c.from_residual.ensures.0 (c.in_err-write.ensures.err)

pub returns-then-head-gt512-clause-written : goal.returns-then-head-gt512-clause-written
returns-then-head-gt512-clause-written g c =
    written_second c.write-then-head-gt512.result _ _ _ c.args.head.now c.args.body.now c.in_ok-write.ensures.ok
    c.write-then-head-gt512.ensures.ok c.write-then-head-gt512.ensures.err
