use Rattle.std.proofs.Common.{rules}
use Rattle.rdap_json.proofs.found.facts.Goals as goal

pub returns-in_ok-piece-in-Piece-clause-facts : goal.returns-in_ok-piece-in-Piece-clause-facts
returns-in_ok-piece-in-Piece-clause-facts c = search rules
