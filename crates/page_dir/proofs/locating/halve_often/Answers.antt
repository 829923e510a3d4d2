use Rattle.std.proofs.Common.{arith}
use Rattle.std.proofs.lemmas.Grind.{elements, moves}
use Rattle.page_dir.proofs.Halving.{costs_join}
use Rattle.page_dir.proofs.locating.halve_often.Goals as goal

pub returns-clause-cost : goal.returns-clause-cost
returns-clause-cost g c =
    let first = c.args.steps.now in
    let two = costs_join first c.halve-halved.new.steps c.halve-twice.new.steps _ _ _ c.halve-halved.ensures.counted c.halve-twice.ensures.counted
    c.halve-halved.ensures.cost c.halve-twice.ensures.cost in
    let three = costs_join first c.halve-twice.new.steps c.halve-thrice.new.steps _ _ _ (omega (arith, c.halve-halved.ensures.counted, c.halve-twice.ensures.counted))
    c.halve-thrice.ensures.counted two c.halve-thrice.ensures.cost in
    let four = costs_join first c.halve-thrice.new.steps c.halve-four_times.new.steps _ _ _ (omega (arith, c.halve-halved.ensures.counted, c.halve-twice.ensures.counted, c.halve-thrice.ensures.counted))
    c.halve-four_times.ensures.counted three c.halve-four_times.ensures.cost in
    let five = costs_join first c.halve-four_times.new.steps c.halve-five_times.new.steps _ _ _
    (omega (arith, c.halve-halved.ensures.counted, c.halve-twice.ensures.counted, c.halve-thrice.ensures.counted, c.halve-four_times.ensures.counted))
    c.halve-five_times.ensures.counted four c.halve-five_times.ensures.cost in
    costs_join first c.halve-five_times.new.steps c.halve.new.steps _ _ _
    (omega (arith, c.halve-halved.ensures.counted, c.halve-twice.ensures.counted, c.halve-thrice.ensures.counted, c.halve-four_times.ensures.counted, c.halve-five_times.ensures.counted))
    c.halve.ensures.counted five c.halve.ensures.cost

pub halve-four_times-requires-clause-window : goal.halve-four_times-requires-clause-window
halve-four_times-requires-clause-window g c = grind (arith, elements)

pub halve-five_times-requires-clause-down : goal.halve-five_times-requires-clause-down
halve-five_times-requires-clause-down g c = grind (arith, moves)

pub halve-five_times-requires-clause-window : goal.halve-five_times-requires-clause-window
halve-five_times-requires-clause-window g c = grind (arith, elements)

pub halve-requires-clause-down : goal.halve-requires-clause-down
halve-requires-clause-down g c = grind (arith, elements)

pub halve-requires-clause-window : goal.halve-requires-clause-window
halve-requires-clause-window g c = grind (arith, elements)

pub returns-clause-window : goal.returns-clause-window
returns-clause-window g c = grind (arith, elements)
