use Rattle.std.proofs.Common.{◌∙◌, ap}
use Rattle.std.specs.Str.Lines.{strip_carriage_return}
use Rattle.registry_main.proofs.Applied.{line_applied}
use Rattle.registry_main.proofs.apply.end_line.Goals as goal

pub returns-clause-session : goal.returns-clause-session
returns-clause-session c =
    let text = c.without_return.ensures ∙ ap strip_carriage_return c.bytes.ensures.bytes in
    line_applied _ _ c.args.line.now _ c.bytes.ensures.line text c.apply_line.ensures
