use Rattle.serve_run.proofs.Taking.{one_worked}
use Rattle.serve_run.proofs.back.take_served.Goals as goal

pub returns-clause-taken : goal.returns-clause-taken
returns-clause-taken g c first ends so_far =
    let back = c.done.ensures in
    one_worked first ends _ _ _ _ _ so_far back.returned back.lent back.given back.to_come
    (record { kept = back.kept; risen = λ is. back.risen (c.requires.told.failed is); same = λ is. back.same (c.requires.told.well is) })
    c.saturating_add.ensures
