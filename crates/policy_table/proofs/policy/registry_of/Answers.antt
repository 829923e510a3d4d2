use Rattle.std.proofs.Common.{sym, ◌∙◌}
use Rattle.policy_table.proofs.Registry.{registry_read}
use Rattle.policy_table.proofs.policy.registry_of.Goals as goal

pub returns : goal.returns
returns c =
    let is = sym c.is_registry.ensures ∙ c.if-not-is_registry.false in
    rw is (registry_read _ c.read.result is c.read.ensures.form.1 c.read.ensures.bytes)
