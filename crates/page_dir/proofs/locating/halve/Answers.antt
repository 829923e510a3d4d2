use Rattle.std.proofs.Common.{◌≡◌, ◌+◌, ◌-◌, ◌/◌, Bool, arith, sym, subst, true, false}
use Rattle.page_dir.specs.Searching.{FailsAt, stands_before}
use Rattle.page_dir.proofs.Halving.{fails_above, halved_once, read_at}
use Rattle.page_dir.proofs.locating.halve.Goals as goal

pub returns-then-stands_before-clause-window : goal.returns-then-stands_before-clause-window
returns-then-stands_before-clause-window g c =
    let test : g.row.K.Denot × g.row.V.Denot → Bool = (λ p. stands_before g.K.Ord.cmp c.args.side c.args.key.now p.0) in
    let half = c.args.window.left / 2 in
    let same : c.args.window.low + half + (c.args.window.left - half) ≡ c.args.window.low + c.args.window.left = omega arith in
    record {
      some = omega arith;
      within = omega (arith, same, c.requires.window.within);
      before = λ _. read_at test c.args.rows.now (c.args.window.low + half) c.index-rows-middle.result true (omega (arith, c.requires.window.within, c.requires.window.some)) (sym c.if-stands_before.ensures.before);
      after = λ more. subst (FailsAt test c.args.rows.now) (sym same) (c.requires.window.after (omega (arith, same, more)));
    }

pub returns-else-stands_before-clause-window : goal.returns-else-stands_before-clause-window
returns-else-stands_before-clause-window g c =
    let test : g.row.K.Denot × g.row.V.Denot → Bool = (λ p. stands_before g.K.Ord.cmp c.args.side c.args.key.now p.0) in
    let half = c.args.window.left / 2 in
    let fails = read_at test c.args.rows.now (c.args.window.low + half) c.index-rows-middle.result false (omega (arith, c.requires.window.within, c.requires.window.some)) (sym c.if-stands_before.ensures.before) in
    record {
      some = omega arith;
      within = omega (arith, c.requires.window.within);
      before = c.requires.window.before;
      after = λ more. fails_above test c.args.rows.now (c.args.window.low + half) (c.args.window.low + (c.args.window.left - half)) c.requires.down
          (omega arith) more fails;
    }

pub returns-then-stands_before-clause-cost : goal.returns-then-stands_before-clause-cost
returns-then-stands_before-clause-cost g c =
    halved_once c.args.steps.now c.stands_before.new.steps c.args.window.left c.stands_before.ensures.counted c.if-window-le1.false

pub returns-else-stands_before-clause-cost : goal.returns-else-stands_before-clause-cost
returns-else-stands_before-clause-cost g c =
    halved_once c.args.steps.now c.stands_before.new.steps c.args.window.left c.stands_before.ensures.counted c.if-window-le1.false
