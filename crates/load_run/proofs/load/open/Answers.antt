use Rattle.std.proofs.Common.{ap, ◌∙◌, arith}
use Rattle.load_gen.specs.Load.{after_requests}
use Rattle.load_gen.specs.Opening.{opening_requests}
use Rattle.load_run.proofs.Steps.{after_one, after_all}
use Rattle.load_run.proofs.load.open.Goals as goal

pub loop-i-preserved : goal.loop-i-preserved
loop-i-preserved c = record {
  leads = after_one _ c.loop-i.load c.ask.new.self opening_requests c.loop-i.i c.opening_request.result c.loop-i.invariant.leads
      c.opening_request.ensures c.ask.ensures.load;
  few = omega arith;
}

pub returns-clause-load : goal.returns-clause-load
returns-clause-load c =
    c.look_for_addresses.ensures
    ∙ after_all _ c.loop-i.load opening_requests c.loop-i.i c.loop-i-test.false c.loop-i.invariant.leads
    ∙ ap (λ l. after_requests l opening_requests) c.in_ok-load.ensures
