use Rattle.std.proofs.Common.{Err, refl, inl}
use Rattle.registry_main.proofs.Front.{if_said}
use Rattle.registry_main.proofs.command.do_command.Goals as goal

pub returns-in-Err-Refused-clause-no_policy : goal.returns-in-Err-Refused-clause-no_policy
returns-in-Err-Refused-clause-no_policy g c fault =
    if_said _ (Err c.in-Err-Refused.fault) (Err fault) _ (c.read_policy.ensures.refused c.in-Err-Refused.fault (cc))
    (λ e. (inl (cc), refl, refl))
