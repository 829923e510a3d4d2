use Rattle.std.proofs.Common.{rules}
use Rattle.request_core.proofs.policy_rules.over_cap.Goals as goal

pub returns : goal.returns
returns c = search rules
