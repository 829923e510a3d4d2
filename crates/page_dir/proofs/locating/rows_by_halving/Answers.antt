use Rattle.std.proofs.Common.{Bool, length, arith, sym, false}
use Rattle.std.proofs.lemmas.Grind.{moves, pieces, elements}
use Rattle.page_dir.specs.Searching.{FailsAt, stands_before}
use Rattle.page_dir.proofs.Halving.{cost_of_all, costs_join, not_both, read_at}
use Rattle.page_dir.proofs.locating.rows_by_halving.Goals as goal

pub loop-window-preserved : goal.loop-window-preserved
loop-window-preserved g c = record {
  window = c.halve_often-window.ensures.window;
  counted = omega (arith, c.loop-window.invariant.counted, c.halve_often-window.ensures.counted);
  cost = costs_join c.args.steps.now c.loop-window.steps c.halve_often-window.new.steps _ _ _ c.loop-window.invariant.counted c.halve_often-window.ensures.counted
      c.loop-window.invariant.cost c.halve_often-window.ensures.cost;
}

pub returns-then-stands_before-clause-cost : goal.returns-then-stands_before-clause-cost
returns-then-stands_before-clause-cost g c =
    cost_of_all c.args.steps.now c.loop-window.steps c.stands_before.new.steps (length c.args.rows.now) c.loop-window.window.left c.loop-window.invariant.counted
    c.stands_before.ensures.counted c.loop-window-test.false c.loop-window.invariant.cost

pub returns-else-stands_before-clause-turn : goal.returns-else-stands_before-clause-turn
returns-else-stands_before-clause-turn g c =
    let test : g.row.K.Denot × g.row.V.Denot → Bool = (λ p. stands_before g.K.Ord.cmp c.args.side c.args.key.now p.0) in
    let window = c.loop-window.invariant.window in
    let fails : FailsAt test c.args.rows.now c.loop-window.window.low =
    read_at test c.args.rows.now c.loop-window.window.low c.index-rows-window.result false (omega (arith, window.some, window.within)) (sym c.if-stands_before.ensures.before) in
    record {
      within = omega (arith, window.within);
      before = λ some. absurd (not_both test c.args.rows.now c.loop-window.window.low (window.before some) fails);
      after = λ _. fails;
    }

pub returns-else-stands_before-clause-cost : goal.returns-else-stands_before-clause-cost
returns-else-stands_before-clause-cost g c =
    cost_of_all c.args.steps.now c.loop-window.steps c.stands_before.new.steps (length c.args.rows.now) c.loop-window.window.left c.loop-window.invariant.counted
    c.stands_before.ensures.counted c.loop-window-test.false c.loop-window.invariant.cost

pub returns-then-is_empty-clause-cost : goal.returns-then-is_empty-clause-cost
returns-then-is_empty-clause-cost g c = grind (arith, moves)

pub loop-window-init : goal.loop-window-init
loop-window-init g c = search (pieces, arith)

pub loop-window-smaller : goal.loop-window-smaller
loop-window-smaller g c = grind (arith, moves)

pub returns-then-stands_before-clause-turn : goal.returns-then-stands_before-clause-turn
returns-then-stands_before-clause-turn g c = grind (arith, elements)
