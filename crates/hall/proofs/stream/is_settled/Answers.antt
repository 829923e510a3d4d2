use Rattle.std.proofs.lemmas.Bool.{leb-true}
use Rattle.hall.proofs.Settled.{settled_at_feed, settled_when_long}
use Rattle.hall.proofs.stream.is_settled.Goals as goal

pub returns-in-Some-clause-settled : goal.returns-in-Some-clause-settled
returns-in-Some-clause-settled c at_feed registry more =
    settled_at_feed c.args.bytes.now _ _ c.in-Some.ensures.parts c.in-Some.ensures.first registry more

pub returns-in-None-clause-settled : goal.returns-in-None-clause-settled
returns-in-None-clause-settled c long registry more = settled_when_long c.args.bytes.now (leb-true 1026 _ long) c.in-None.ensures.none registry more
