use Rattle.std.proofs.Common.{rules}
use Rattle.rdap_json.proofs.rdap_lens.network_answer.Goals as goal

pub returns : goal.returns
returns c = search rules
