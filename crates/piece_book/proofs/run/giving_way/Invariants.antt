use Rattle.piece_book.proofs.Collecting.{IsCollected}
use Rattle.piece_book.proofs.run.giving_way.Given as goal

abbrev pub invariant-loop-piece : goal.invariant-loop-piece
invariant-loop-piece l = IsCollected l.range l.status l.book.pieces l.piece-iterator l.run.first l.run.last l.run.count l.run.few.items
