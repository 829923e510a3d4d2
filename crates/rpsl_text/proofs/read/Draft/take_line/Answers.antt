use Rattle.std.proofs.Common.{rules}
use Rattle.rpsl_text.proofs.read.Draft.take_line.Goals as goal

pub returns-in-Some-clause-taken : goal.returns-in-Some-clause-taken
returns-in-Some-clause-taken c = search rules
