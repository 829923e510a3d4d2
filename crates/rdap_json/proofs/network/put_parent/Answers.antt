use Rattle.std.proofs.Common.{rules}
use Rattle.rdap_json.proofs.network.put_parent.Goals as goal

pub returns-in-Some : goal.returns-in-Some
returns-in-Some c = search rules
