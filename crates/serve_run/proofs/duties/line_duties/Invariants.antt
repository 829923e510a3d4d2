use Rattle.std.specs.Prelude.{◌≡◌, ◌+◌, ◌≤◌, vec_len, vec_capacity}
use Rattle.std.specs.Vec.Iter.{into_iter_items, into_iter_len}
use Rattle.door_face.specs.declared.door.Door.TheVariants.{Line as AtLine}
use Rattle.serve_run.specs.Along.{plain_way}
use Rattle.serve_run.specs.declared.door_duty.DoorDuty.TheVariants.{Line}
use Rattle.serve_run.specs.Gate.{plain_gate}
use Rattle.serve_run.specs.Duties.{AreDuties}
use Rattle.serve_run.proofs.duties.line_duties.Given as goal

abbrev pub invariant-loop-pass : goal.invariant-loop-pass
invariant-loop-pass g l = record {
  room : vec_len l.duties + into_iter_len l.pass-iterator ≤ vec_capacity l.duties;
  so_far : AreDuties (λ d. Line d)
      (λ d. plain_way (g.G.W.Way.door d.way) (g.G.W.Way.port d.way) (g.G.W.Way.links_left d.way) (g.G.W.Way.lent d.way) (g.G.W.Way.returned d.way) (g.G.W.Way.faults d.way))
      (λ d. d.pass) (λ d. d.registry.now ≡ l.fn.registry) AtLine l.fn.port
      (plain_gate (g.G.Gate.given l.initial.gate) (g.G.Gate.to_come l.initial.gate) (g.G.Gate.lent l.initial.gate) (g.G.Gate.returned l.initial.gate) (g.G.Gate.faults l.initial.gate))
      l.fn.passes.items (into_iter_items l.pass-iterator) l.duties.items
      (plain_gate (g.G.Gate.given l.gate) (g.G.Gate.to_come l.gate) (g.G.Gate.lent l.gate) (g.G.Gate.returned l.gate) (g.G.Gate.faults l.gate));
}
