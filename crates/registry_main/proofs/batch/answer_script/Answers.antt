use Rattle.std.proofs.Common.{take, arith, ◌∙◌}
use Rattle.registry_main.proofs.UpToDate.{more_has_come, no_more_has_come, come_is_answered, come_is_kept}
use Rattle.registry_main.proofs.Written.{written_begins, piece_broken, script_answered, script_broken, BeginsWith_kept}
use Rattle.registry_main.proofs.batch.answer_script.Goals as goal

pub pieces-preserved : goal.pieces-preserved
pieces-preserved g c = record {
  reads = c.in-Ok.ensures.cause.same ∙ c.pieces.invariant.reads;
  writes = c.in_default.ensures.cause.same ∙ c.pieces.invariant.writes;
  line = c.in_default.ensures.line;
  come = more_has_come _ _ _ _ _ (take c.in-Ok.count c.read.new.buf) _ _ _ _ _ _ _ c.pieces.invariant.come c.in-Ok.ensures.taken c.in-Ok.ensures.left.0
      c.in_default.ensures.ok;
}

pub returns-in-Err-clause-err : goal.returns-in-Err-clause-err
returns-in-Err-clause-err g c =
    BeginsWith_kept _ _ _ (come_is_kept _ _ _ _ _ c.pieces.invariant.come) (written_begins _ c.pieces.session c.pieces.line _)

pub returns-in-Err-clause-up_to_date : goal.returns-in-Err-clause-up_to_date
returns-in-Err-clause-up_to_date g c _ =
    come_is_answered _ _ _ _ _ c.pieces.invariant.line
    (no_more_has_come _ _ _ _ _ _ _ _ _ c.pieces.invariant.come c.in-Err.ensures.taken c.in-Err.ensures.left)

pub returns-in-Err-answer_piece-clause-err : goal.returns-in-Err-answer_piece-clause-err
returns-in-Err-answer_piece-clause-err g c =
    BeginsWith_kept _ _ _ (come_is_kept _ _ _ _ _ c.pieces.invariant.come)
    (piece_broken _ _ _ c.pieces.line (take c.in-Ok.count c.read.new.buf) _ _ c.in-Ok.ensures.left.0 c.in-Err-answer_piece.ensures.err)

pub returns-in-Ok-end_script-clause-ok : goal.returns-in-Ok-end_script-clause-ok
returns-in-Ok-end_script-clause-ok g c =
    script_answered _ (g.K.Sink.written c.pieces.out) _ c.pieces.session c.pieces.line _ _ (come_is_kept _ _ _ _ _ c.pieces.invariant.come)
    (rw c.in-Ok-eq0.field-0-test at c.in-Ok-eq0.ensures.left.0)
    (c.in-Ok-eq0.ensures.left.1 c.in-Ok-eq0.field-0-test (omega arith))
    c.in-Ok-end_script.ensures.ok

pub returns-in-Err-end_script-clause-err : goal.returns-in-Err-end_script-clause-err
returns-in-Err-end_script-clause-err g c =
    script_broken _ (g.K.Sink.written c.pieces.out) _ c.pieces.session c.pieces.line _ _ (come_is_kept _ _ _ _ _ c.pieces.invariant.come)
    (rw c.in-Ok-eq0.field-0-test at c.in-Ok-eq0.ensures.left.0)
    (c.in-Ok-eq0.ensures.left.1 c.in-Ok-eq0.field-0-test (omega arith))
    c.in-Err-end_script.ensures.err
