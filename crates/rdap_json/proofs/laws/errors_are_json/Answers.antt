use Rattle.rdap_json.proofs.Errors.{error_written}
use Rattle.rdap_json.proofs.laws.errors_are_json.Goals as goal

pub returns : goal.returns
returns c = error_written
