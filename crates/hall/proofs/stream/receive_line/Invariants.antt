use Rattle.std.proofs.Common.{◌≡◌, ◌≤◌, length}
use Rattle.hall.proofs.Reading.{HaveCome}
use Rattle.hall.proofs.stream.receive_line.Given as goal

abbrev pub invariant-pieces : goal.invariant-pieces
invariant-pieces g l = record {
  came : HaveCome (g.L.Source.taken l.initial.link) (g.L.Source.left l.initial.link) (g.L.Source.taken l.link) (g.L.Source.left l.link) l.bytes.items;
  short : length l.bytes.items ≤ 1026;
  written : g.L.Sink.written l.link ≡ g.L.Sink.written l.initial.link;
  faults : g.L.Source.faults l.link ≡ g.L.Source.faults l.initial.link;
}

abbrev pub decreases-pieces : goal.decreases-pieces
decreases-pieces g l = g.L.Source.budget l.link
