use Rattle.std.proofs.Common.{ap}
use Rattle.toml.proofs.Views.{table_get}
use Rattle.policy_table.specs.declared.fault.PolicyFault.TheVariants.{Missing}
use Rattle.policy_table.specs.Section.{or_fault}
use Rattle.policy_table.proofs.section.value_at.Goals as goal

pub returns-in-Some : goal.returns-in-Some
returns-in-Some c =
    let found = table_get c.get.result c.args.name.now c.args.table.now.entries c.get.ensures.value in
    ap (or_fault (Missing c.args.key)) (rw c.in-Some.is at found)

pub returns-in-None : goal.returns-in-None
returns-in-None c =
    let found = table_get c.get.result c.args.name.now c.args.table.now.entries c.get.ensures.value in
    ap (or_fault (Missing c.args.key)) (rw c.in-None.is at found)
