use Rattle.nrtm_stream.specs.Stream.{capitals}
use Rattle.registry_main.specs.Session.{rooms}
use Rattle.registry_main.proofs.laws.mirrors_follow_registers.Goals as goal

pub returns : goal.returns
returns c = record {
  follows = λ es registry feed rest. c.whole_feeds_are_mirrored.ensures.follows rooms es (capitals registry) feed rest;
  rests = λ es registry feed. c.whole_feeds_are_mirrored.ensures.rests rooms es (capitals registry) feed;
  mirrors = λ es registry feed. c.whole_feeds_are_mirrored.ensures.all_objects rooms es (capitals registry) feed;
}
