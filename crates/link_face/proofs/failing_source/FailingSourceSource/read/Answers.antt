use Rattle.std.proofs.Common.{rules}
use Rattle.link_face.proofs.failing_source.FailingSourceSource.read.Goals as goal

pub returns-then-begin_call-clause-cause : goal.returns-then-begin_call-clause-cause
returns-then-begin_call-clause-cause c = search rules
