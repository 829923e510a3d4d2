use Rattle.std.proofs.Common.{◌≡◌, drop}
use Rattle.reg_entry.specs.Pieces.{piece_at}
use Rattle.plain_register.proofs.pieces.piece_at.Given as goal

abbrev pub invariant-loop-piece : goal.invariant-loop-piece
invariant-loop-piece l = piece_at (drop l.piece-index l.pieces) l.value ≡ piece_at l.pieces l.value
