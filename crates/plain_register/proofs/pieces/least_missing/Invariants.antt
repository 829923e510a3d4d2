use Rattle.std.proofs.Common.{◌≡◌, drop}
use Rattle.reg_entry.specs.Decision.{least_missing}
use Rattle.plain_register.proofs.pieces.least_missing.Given as goal

abbrev pub invariant-loop-piece : goal.invariant-loop-piece
invariant-loop-piece l = least_missing (drop l.piece-index l.pieces) l.next l.last ≡ least_missing l.pieces l.first l.last
