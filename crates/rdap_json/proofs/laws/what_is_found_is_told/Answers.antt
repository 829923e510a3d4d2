use Rattle.rdap_json.proofs.Registering.{found_told}
use Rattle.rdap_json.proofs.laws.what_is_found_is_told.Goals as goal

pub returns : goal.returns
returns c = found_told c.narrowest_is_least.ensures
