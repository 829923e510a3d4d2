use Rattle.std.proofs.Common.{◌≡◌, drop}
use Rattle.reg_entry.specs.Pieces.{first_met}
use Rattle.plain_register.proofs.pieces.first_met.Given as goal

abbrev pub invariant-loop-piece : goal.invariant-loop-piece
invariant-loop-piece l = first_met (drop l.piece-index l.pieces) l.range ≡ first_met l.pieces l.range
