use Rattle.std.proofs.Common.{sym, subst}
use Rattle.registry_main.specs.PolicyBytes.{IsFrontOf}
use Rattle.registry_main.proofs.Front.{said_ok, front_says}
use Rattle.registry_main.proofs.policy_bytes.read_policy.Goals as goal

pub returns-clause-policy : goal.returns-clause-policy
returns-clause-policy g c =
    said_ok _ _ _ (subst (IsFrontOf _) (sym c.deref.ensures.value) c.in_ok-bytes.ensures.front) c.policy_from.ensures.policy

pub returns-clause-refused : goal.returns-clause-refused
returns-clause-refused g c fault e =
    front_says _ _ _ (subst (IsFrontOf _) (sym c.deref.ensures.value) c.in_ok-bytes.ensures.front) (c.policy_from.ensures.refused fault e)
