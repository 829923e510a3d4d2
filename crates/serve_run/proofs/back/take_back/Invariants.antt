use Rattle.std.specs.Prelude.{◌≤◌, All, IfSome, length, map}
use Rattle.std.specs.Vec.Iter.{into_iter_items}
use Rattle.serve_run.specs.Along.{plain_way}
use Rattle.serve_run.specs.Gate.{plain_gate}
use Rattle.serve_run.specs.Back.{plain_end, end_by, IsTold, IfWorked}
use Rattle.serve_run.proofs.Taking.{AreTakenOf}
use Rattle.serve_run.proofs.back.take_back.Given as goal

abbrev pub invariant-loop-outcome : goal.invariant-loop-outcome
invariant-loop-outcome g l = record {
  lent : IfSome (g.G.Gate.lent l.gate) (λ n. length (into_iter_items l.outcome-iterator) ≤ n);
  told : All (IfWorked IsTold) (map (end_by (λ s. plain_end s.connections s.has_failed
      (plain_way (g.G.W.Way.door s.way) (g.G.W.Way.port s.way) (g.G.W.Way.links_left s.way) (g.G.W.Way.lent s.way) (g.G.W.Way.returned s.way) (g.G.W.Way.faults s.way))))
      (into_iter_items l.outcome-iterator));
  so_far : AreTakenOf (λ s. plain_end s.connections s.has_failed
      (plain_way (g.G.W.Way.door s.way) (g.G.W.Way.port s.way) (g.G.W.Way.links_left s.way) (g.G.W.Way.lent s.way) (g.G.W.Way.returned s.way) (g.G.W.Way.faults s.way)))
      l.fn.outcomes.items (into_iter_items l.outcome-iterator)
      (plain_gate (g.G.Gate.given l.initial.gate) (g.G.Gate.to_come l.initial.gate) (g.G.Gate.lent l.initial.gate) (g.G.Gate.returned l.initial.gate) (g.G.Gate.faults l.initial.gate))
      (plain_gate (g.G.Gate.given l.gate) (g.G.Gate.to_come l.gate) (g.G.Gate.lent l.gate) (g.G.Gate.returned l.gate) (g.G.Gate.faults l.gate))
      l.tally;
}
