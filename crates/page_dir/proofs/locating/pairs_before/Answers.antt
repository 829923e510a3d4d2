use Rattle.std.proofs.Common.{◌≡◌, ◌+◌, ◌-◌, ◌/◌, length, arith, sym, subst, true, false}
use Rattle.std.proofs.lemmas.Grind.{common_steps}
use Rattle.page_dir.specs.Searching.{PassesAt, stands_before}
use Rattle.page_dir.proofs.Halving.{halved_after, read_at}
use Rattle.page_dir.proofs.locating.pairs_before.Goals as goal

pub loop-low-preserved-then-stands_before : goal.loop-low-preserved-then-stands_before
loop-low-preserved-then-stands_before g c =
    let kept = c.loop-low.invariant in
    let low = c.loop-low.low in
    let high = c.loop-low.high in
    let middle = low + (high - low) / 2 in
    let page = c.args.page.now in
    record {
      below = λ _. subst (PassesAt (λ p. stands_before g.K.Ord.cmp c.args.side c.args.key.now p.0) page) (let e : middle ≡ middle + 1 - 1 = omega arith in e)
          (read_at (λ p. stands_before g.K.Ord.cmp c.args.side c.args.key.now p.0) page middle c.index-page-middle.result true (omega arith) (sym c.if-stands_before.ensures.before));
      above = kept.above;
      order = omega arith;
      within = kept.within;
      counted = omega (arith, kept.counted, c.stands_before.ensures.counted);
      halved = halved_after c.args.steps.now c.loop-low.steps c.stands_before.new.steps (high - low) (high - (middle + 1)) (length page)
          kept.counted c.stands_before.ensures.counted kept.halved (omega arith) (omega arith);
    }

pub loop-low-preserved : goal.loop-low-preserved
loop-low-preserved g c =
    let kept = c.loop-low.invariant in
    let low = c.loop-low.low in
    let high = c.loop-low.high in
    let middle = low + (high - low) / 2 in
    let page = c.args.page.now in
    record {
      below = kept.below;
      above = λ _. read_at (λ p. stands_before g.K.Ord.cmp c.args.side c.args.key.now p.0) page middle c.index-page-middle.result false (omega arith) (sym c.if-stands_before.ensures.before);
      order = omega arith;
      within = omega (arith, kept.within);
      counted = omega (arith, kept.counted, c.stands_before.ensures.counted);
      halved = halved_after c.args.steps.now c.loop-low.steps c.stands_before.new.steps (high - low) (middle - low) (length page)
          kept.counted c.stands_before.ensures.counted kept.halved (omega arith) (omega arith);
    }

pub loop-low-init : goal.loop-low-init
loop-low-init g c = grind (arith, common_steps)
