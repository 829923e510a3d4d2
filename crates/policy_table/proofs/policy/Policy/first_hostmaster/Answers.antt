use Rattle.std.proofs.Common.{◌≡◌, rules}
use Rattle.policy_table.specs.Policy.{first_name}
use Rattle.policy_table.proofs.Least.{least_name}
use Rattle.policy_table.proofs.policy.Policy.first_hostmaster.Goals as goal

pub returns-clause-least : goal.returns-clause-least
returns-clause-least c =
    let first : c.name.result.now ≡ first_name c.args.self.now.hostmasters = search rules in
    rw (first, ← c.self.view_is) (least_name c.self.inside.hostmasters.items c.self.invariant.rising)
