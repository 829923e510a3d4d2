use Rattle.std.proofs.Common.{◌≡◌, ap, ◌∙◌, arith}
use Rattle.load_gen.specs.Load.{after_draws}
use Rattle.load_run.proofs.Steps.{after_next}
use Rattle.load_run.proofs.load.load_of.Goals as goal

pub loop-draws-preserved : goal.loop-draws-preserved
loop-draws-preserved c = record {
  load = after_next c.in_ok-load.load c.loop-draws.load c.draw.new.self c.args.seed c.loop-draws.draws c.next.new.self c.next.result
      c.loop-draws.invariant.load c.loop-draws.invariant.seed c.next.ensures.draw c.next.ensures.draws c.draw.ensures.load;
  seed = ap (λ draws. draws.seed) c.next.ensures.draws ∙ c.loop-draws.invariant.seed;
  most = omega (arith, ap (λ draws. draws.given) c.next.ensures.draws);
  few = omega (arith, ap (λ draws. draws.given) c.next.ensures.draws);
}

pub returns : goal.returns
returns c =
    let all : c.loop-draws.draws.given ≡ c.args.count = omega arith in
    c.loop-draws.invariant.load ∙ (ap (after_draws c.in_ok-load.load c.args.seed) all
    ∙ ap (λ l. after_draws l c.args.seed c.args.count) c.in_ok-load.ensures.load)
