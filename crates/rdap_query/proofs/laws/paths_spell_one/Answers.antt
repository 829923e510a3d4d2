use Rattle.rdap_query.proofs.Once.{path_once}
use Rattle.rdap_query.proofs.laws.paths_spell_one.Goals as goal

pub returns : goal.returns
returns c = path_once c.spells_one.ensures.address c.spells_one.ensures.asn
