use Rattle.std.proofs.Common.{◌≡◌}
use Rattle.std.specs.Io.KnownBytes.{append_known, Keeps}
use Rattle.quarantine.specs.Due.{due_pieces}
use Rattle.desk_text.specs.DueText.{due_text, piece_lines}
use Rattle.registry_main.proofs.due_lines.write_due.Given as goal

abbrev pub invariant-loop-piece : goal.invariant-loop-piece
invariant-loop-piece g l = record {
  next : (goal.iterator-loop-piece g).can_next l.piece-iterator;
  finite : (goal.iterator-loop-piece g).is_finite l.piece-iterator;
  faults : g.K.Sink.faults l.out ≡ g.K.Sink.faults l.fn.out;
  kept : Keeps (append_known (append_known (g.K.Sink.written l.fn.out) l.fn.held.items) (due_text (due_pieces l.pieces.partition l.day)))
      (append_known (append_known (g.K.Sink.written l.out) l.held.items) (piece_lines l.piece-iterator));
}
