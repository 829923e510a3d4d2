use Rattle.std.proofs.Common.{rules}
use Rattle.request_core.proofs.decision.decide.Goals as goal

pub returns-in-Some-clause-decision : goal.returns-in-Some-clause-decision
returns-in-Some-clause-decision c = search rules
