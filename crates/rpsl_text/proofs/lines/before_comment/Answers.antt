use Rattle.std.proofs.Common.{rules}
use Rattle.rpsl_text.proofs.lines.before_comment.Goals as goal

pub returns-in-Some : goal.returns-in-Some
returns-in-Some c = search rules
