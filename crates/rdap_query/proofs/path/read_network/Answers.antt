use Rattle.rdap_query.proofs.path.read_network.Goals as goal

pub returns-in-Some-Some-clause-none : goal.returns-in-Some-Some-clause-none
returns-in-Some-Some-clause-none c = rw (c.in-Some-Some.is-0, c.in-Some-Some.is-1) c.read_masked.ensures.none

pub returns-in-Some-None-clause-none : goal.returns-in-Some-None-clause-none
returns-in-Some-None-clause-none c = rw (c.in-Some-None.is-0, c.in-Some-None.is-1) c.read_one.ensures.none
