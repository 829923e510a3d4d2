use Rattle.std.proofs.Common.{◌≡◌, drop}
use Rattle.plain_register.specs.Changes.{piece_as}
use Rattle.plain_register.proofs.changes.find_piece.Given as goal

abbrev pub invariant-loop-piece : goal.invariant-loop-piece
invariant-loop-piece l = piece_as (drop l.piece-index l.pieces) l.range ≡ piece_as l.pieces l.range
