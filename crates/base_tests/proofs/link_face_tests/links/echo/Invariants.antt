use Rattle.std.proofs.Common.{◌≡◌, ℕ, List}
use Rattle.std.specs.Io.KnownBytes.{Appends, Consumes}
use Rattle.base_tests.proofs.link_face_tests.links.echo.Given as goal

abbrev pub invariant-pieces : goal.invariant-pieces
invariant-pieces g l = record {
  moved : (bytes : List ℕ)
      × Consumes (g.L.Source.left l.initial.link) (g.L.Source.left l.link) bytes
      × Appends (g.L.Source.taken l.initial.link) (g.L.Source.taken l.link) bytes
      × Appends (g.L.Sink.written l.initial.link) (g.L.Sink.written l.link) bytes;
  faults : g.L.Source.faults l.link ≡ g.L.Source.faults l.initial.link;
}

abbrev pub decreases-pieces : goal.decreases-pieces
decreases-pieces g l = g.L.Source.budget l.link
