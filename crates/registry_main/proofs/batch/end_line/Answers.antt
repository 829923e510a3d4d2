use Rattle.std.proofs.Common.{◌∙◌, ap}
use Rattle.std.specs.Str.Lines.{strip_carriage_return}
use Rattle.registry_main.proofs.Written.{line_answered, line_broken, OnErr_always}
use Rattle.registry_main.proofs.batch.end_line.Goals as goal

pub returns-in_err-answer_line-clause-err : goal.returns-in_err-answer_line-clause-err
returns-in_err-answer_line-clause-err g c =
    let text = c.without_return.ensures ∙ ap strip_carriage_return c.bytes.ensures.bytes in
    OnErr_always _ (line_broken _ _ _ c.args.line.now _ c.bytes.ensures.line text c.in_err-answer_line.ensures.err)

pub returns-clause-ok : goal.returns-clause-ok
returns-clause-ok g c =
    let text = c.without_return.ensures ∙ ap strip_carriage_return c.bytes.ensures.bytes in
    line_answered _ _ _ _ c.args.line.now _ c.bytes.ensures.line text c.in_ok-answer_line.ensures.ok c.in_ok-answer_line.ensures.session
