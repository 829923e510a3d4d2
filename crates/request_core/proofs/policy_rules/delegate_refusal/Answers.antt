use Rattle.std.proofs.Common.{rules}
use Rattle.request_core.proofs.policy_rules.delegate_refusal.Goals as goal

pub returns-in-Assign-clause-refusal : goal.returns-in-Assign-clause-refusal
returns-in-Assign-clause-refusal c = search rules
