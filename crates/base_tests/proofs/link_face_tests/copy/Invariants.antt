use Rattle.std.proofs.Common.{ℕ, ◌≤◌, List}
use Rattle.std.specs.Io.KnownBytes.{Appends, Consumes}
use Rattle.base_tests.proofs.link_face_tests.copy.Given as goal

abbrev pub invariant-loop-failed : goal.invariant-loop-failed
invariant-loop-failed g l =
    ((bs : List ℕ) × Consumes (g.S.Source.left l.initial.source) (g.S.Source.left l.source) bs × Appends (g.T.Sink.written l.initial.sink) (g.T.Sink.written l.sink) bs)
    × (g.S.Source.faults l.initial.source ≤ g.S.Source.faults l.source)
    × (g.T.Sink.faults l.initial.sink ≤ g.T.Sink.faults l.sink)

abbrev pub decreases-loop-failed : goal.decreases-loop-failed
decreases-loop-failed g l = g.S.Source.budget l.source
