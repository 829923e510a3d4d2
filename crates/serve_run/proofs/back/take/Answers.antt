use Rattle.serve_run.proofs.Taking.{one_came_back, fewer_lent}
use Rattle.serve_run.proofs.back.take.Goals as goal

pub returns-in-Ended-clause-taken : goal.returns-in-Ended-clause-taken
returns-in-Ended-clause-taken g c first ends so_far = rw c.in-Ended.is (c.take_served.ensures.taken first ends so_far)

pub returns-in-Ended-clause-few : goal.returns-in-Ended-clause-few
returns-in-Ended-clause-few g c n enough = fewer_lent _ _ n c.take_served.ensures.lent_less enough

pub returns-in-Back-clause-taken : goal.returns-in-Back-clause-taken
returns-in-Back-clause-taken g c first ends so_far = rw c.in-Back.is (one_came_back first ends _ _ so_far)
