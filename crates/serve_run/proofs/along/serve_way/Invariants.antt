use Rattle.std.proofs.Common.{◌≡◌, List, length}
use Rattle.door_face.specs.Doors.{LinkRecord}
use Rattle.snapshot_pub.specs.Pass.{PlainPass}
use Rattle.serve_run.proofs.Chains.{AreDone}
use Rattle.serve_run.proofs.along.serve_way.Given as goal

abbrev pub invariant-loop : goal.invariant-loop
invariant-loop g l = record {
  next : (goal.iterator-loop g).can_next l.iterator' × (goal.iterator-loop g).is_finite l.iterator';
  done : (links : List LinkRecord) × AreDone (g.S.Service.serves l.initial.service) (g.S.Service.pass l.initial.service) (g.S.Service.pass l.service)
      (g.W.Way.returned l.initial.way) (g.W.Way.returned l.way) (g.W.Way.links_left l.initial.way) (g.W.Way.links_left l.way) l.connections links;
  same : (before : PlainPass) (end : LinkRecord) (after : PlainPass)
      → g.S.Service.serves l.service before end after → g.S.Service.serves l.initial.service before end after;
  lent : g.W.Way.lent l.way ≡ g.W.Way.lent l.initial.way;
  faults : g.W.Way.faults l.way ≡ g.W.Way.faults l.initial.way;
  door : g.W.Way.door l.way ≡ g.W.Way.door l.initial.way;
  port : g.W.Way.port l.way ≡ g.W.Way.port l.initial.way;
}
