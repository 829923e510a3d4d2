use Rattle.std.proofs.Common.{false}
use Rattle.rdap_json.proofs.Trees.{network_has_no_float}
use Rattle.rdap_json.proofs.rdap_lens.network_body.Goals as goal

pub body_of-requires : goal.body_of-requires
body_of-requires c = network_has_no_float c.args.facts.now false _ c.in_ok-network.ensures
