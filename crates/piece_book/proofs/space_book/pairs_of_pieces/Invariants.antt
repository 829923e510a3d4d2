use Rattle.std.proofs.Common.{◌≡◌, map, take}
use Rattle.piece_book.specs.Pairs.{pair_of_piece}
use Rattle.piece_book.proofs.space_book.pairs_of_pieces.Given as goal

abbrev pub invariant-loop-piece : goal.invariant-loop-piece
invariant-loop-piece l = l.pairs.items ≡ map pair_of_piece (take l.piece-index l.pieces)
