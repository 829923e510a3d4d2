use Rattle.rdap_json.proofs.Registering.{narrowest_registered}
use Rattle.rdap_json.proofs.found.facts_round.Goals as goal

pub facts-requires : goal.facts-requires
facts-requires c =
    narrowest_registered c.args.board.now.register c.args.range.now _ _ c.is_whole.ensures.whole c.narrowest_is_least.ensures c.narrow.ensures c.in_ok-found.was
