use Rattle.rdap_json.proofs.facts.NetKind.word.Goals as goal

pub returns-in-Assigned : goal.returns-in-Assigned
returns-in-Assigned c = cc
