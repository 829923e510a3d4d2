use Rattle.std.proofs.Common.{rules}
use Rattle.request_core.proofs.policy_rules.rule_refusal.Goals as goal

pub returns-in-Transfer-clause-refusal : goal.returns-in-Transfer-clause-refusal
returns-in-Transfer-clause-refusal c = search rules
