use Rattle.std.proofs.Common.{rules}
use Rattle.rdap_json.proofs.rdap_lens.help_body.Goals as goal

pub returns : goal.returns
returns c = search rules
