use Rattle.std.proofs.Common.{◌≡◌, ◌∙◌, length, rules, sym, arith}
use Rattle.std.proofs.lemmas.Grind.{common_steps}
use Rattle.std.specs.Vec.Iter.{into_iter_items}
use Rattle.serve_run.proofs.Taking.{all_done, came_back_as, enough_lent, first_is_told, none_done, one_done, rest_are_told, well_done}
use Rattle.serve_run.proofs.back.take_back.Goals as goal

pub loop-outcome-init : goal.loop-outcome-init
loop-outcome-init g c =
    let same : into_iter_items c.into_iter-outcome-iterator.result ≡ c.args.outcomes.items = search rules in
    record {
      lent = rw same c.requires.lent;
      told = rw same c.requires.told;
      so_far = none_done _ _ _ _ same;
    }

pub take-tally-requires-clause-told : goal.take-tally-requires-clause-told
take-tally-requires-clause-told g c κs owned = first_is_told _ _ _ _ c.in-Some.ensures.steps.0 c.loop-outcome.invariant.told

pub loop-outcome-preserved : goal.loop-outcome-preserved
loop-outcome-preserved g c =
    let first = c.in-Some.ensures.steps.0 in
    record {
      lent = c.take-tally.ensures.few (length (into_iter_items c.next.new.self)) (enough_lent _ _ _ _ first c.loop-outcome.invariant.lent);
      told = rest_are_told _ _ _ _ first c.loop-outcome.invariant.told;
      so_far = one_done _ _ _ _ _ _ _ _ _ _ c.loop-outcome.invariant.so_far first c.take-tally.ensures.taken;
    }

pub returns-then-tally-clause-back : goal.returns-then-tally-clause-back
returns-then-tally-clause-back g c is =
    came_back_as _ _ _ _ _ _ _ c.loop-outcome.invariant.so_far (sym c.loop-outcome.outcome-iterator.rest.ok.0 ∙ c.in-None.ensures.steps.0) c.if-tally.true

pub returns-then-tally-2-clause-worked : goal.returns-then-tally-2-clause-worked
returns-then-tally-2-clause-worked g c is =
    came_back_as _ _ _ _ _ _ _ c.loop-outcome.invariant.so_far (sym c.loop-outcome.outcome-iterator.rest.ok.0 ∙ c.in-None.ensures.steps.0) c.if-tally.false

pub returns-then-tally-2-clause-fault : goal.returns-then-tally-2-clause-fault
returns-then-tally-2-clause-fault g c is =
    (all_done _ _ _ _ _ _ c.loop-outcome.invariant.so_far (sym c.loop-outcome.outcome-iterator.rest.ok.0 ∙ c.in-None.ensures.steps.0)).failed c.if-tally-2.true

pub returns-clause-worked : goal.returns-clause-worked
returns-clause-worked g c is =
    came_back_as _ _ _ _ _ _ _ c.loop-outcome.invariant.so_far (sym c.loop-outcome.outcome-iterator.rest.ok.0 ∙ c.in-None.ensures.steps.0) c.if-tally.false

pub returns-clause-served : goal.returns-clause-served
returns-clause-served g c =
    well_done _ _ _ _ _ _ c.loop-outcome.invariant.so_far (sym c.loop-outcome.outcome-iterator.rest.ok.0 ∙ c.in-None.ensures.steps.0) c.if-tally-2.false c.if-tally.false

pub returns-clause-told : goal.returns-clause-told
returns-clause-told g c is =
    (all_done _ _ _ _ _ _ c.loop-outcome.invariant.so_far (sym c.loop-outcome.outcome-iterator.rest.ok.0 ∙ c.in-None.ensures.steps.0)).well c.if-tally-2.false

pub loop-outcome-smaller : goal.loop-outcome-smaller
loop-outcome-smaller g c = grind (arith, common_steps)

pub returns-then-tally-clause-told : goal.returns-then-tally-clause-told
returns-then-tally-clause-told g c = grind (arith, common_steps)

pub returns-then-tally-clause-never : goal.returns-then-tally-clause-never
returns-then-tally-clause-never g c = grind (arith, common_steps)

pub returns-then-tally-2-clause-told : goal.returns-then-tally-2-clause-told
returns-then-tally-2-clause-told g c = grind (arith, common_steps)

pub returns-then-tally-2-clause-never : goal.returns-then-tally-2-clause-never
returns-then-tally-2-clause-never g c = grind (arith, common_steps)

pub returns-clause-never : goal.returns-clause-never
returns-clause-never g c = grind (arith, common_steps)
