use Rattle.std.proofs.Common.{◌≡◌}
use Rattle.registry_main.specs.Batch.{known}
use Rattle.registry_main.specs.LineBuffer.{HasNoNewline}
use Rattle.registry_main.proofs.UpToDate.{HasCome}
use Rattle.registry_main.proofs.batch.answer_script.Given as goal

abbrev pub invariant-pieces : goal.invariant-pieces
invariant-pieces g l = record {
  reads : g.T.Source.faults l.script ≡ g.T.Source.faults l.initial.script;
  writes : g.K.Sink.faults l.out ≡ g.K.Sink.faults l.initial.out;
  line : HasNoNewline l.line;
  come : HasCome l.initial.session l.session l.line
      (known (g.T.Source.taken l.initial.script) (g.T.Source.left l.initial.script) (g.K.Sink.written l.initial.out))
      (known (g.T.Source.taken l.script) (g.T.Source.left l.script) (g.K.Sink.written l.out));
}

abbrev pub decreases-pieces : goal.decreases-pieces
decreases-pieces g l = g.T.Source.budget l.script
