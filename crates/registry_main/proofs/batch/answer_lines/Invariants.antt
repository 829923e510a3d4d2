use Rattle.std.proofs.Common.{◌≡◌, ◌++◌, ℕ, List, length}
use Rattle.std.specs.Io.KnownBytes.{append_known, Keeps}
use Rattle.registry_main.specs.Batch.{with_replies}
use Rattle.registry_main.proofs.batch.answer_lines.Given as goal

abbrev pub invariant-lines : goal.invariant-lines
invariant-lines g l = record {
  faults : g.K.Sink.faults l.out ≡ g.K.Sink.faults l.initial.out;
  kept : (tail : List ℕ) → Keeps (with_replies (append_known (g.K.Sink.written l.initial.out) l.initial.held.items) l.initial.session (l.initial.line ++ (l.piece ++ tail)))
      (with_replies (append_known (g.K.Sink.written l.out) l.held.items) l.session (l.line ++ (l.rest ++ tail)));
}

abbrev pub decreases-lines : goal.decreases-lines
decreases-lines g l = length l.rest
