use Rattle.reg_entry.specs.Operations.{operations_of}
use Rattle.mirror_laws.proofs.Answered.{answer_is, holds_then}
use Rattle.mirror_laws.proofs.laws.feeding_has_no_fault.Goals as goal

pub returns : goal.returns
returns c = record {
  answer = λ rooms es source pieces bytes rest new answer are feed fed.
      answer_is source (operations_of rooms es) (λ ps more. c.mirrors_follow_feeds.ensures.follows rooms es source ps more are) pieces bytes rest new feed answer fed;
  holds = λ rooms es source pieces bytes rest new answer are feed fed.
      holds_then source (operations_of rooms es) (λ ps more. c.mirrors_follow_feeds.ensures.follows rooms es source ps more are) pieces bytes rest new feed answer fed;
}
