use Rattle.std.proofs.Common.{◌≡◌, rules}
use Rattle.policy_table.specs.Policy.{hostmaster_with}
use Rattle.policy_table.proofs.Unknown.{unknown}
use Rattle.policy_table.proofs.policy.Policy.by_key.Goals as goal

pub returns-clause-none : goal.returns-clause-none
returns-clause-none c =
    let name : c.name_with.result ≡ hostmaster_with c.args.self.now c.args.key.now = search rules in
    rw name (unknown c.args.key.now c.args.self.now.hostmasters)
