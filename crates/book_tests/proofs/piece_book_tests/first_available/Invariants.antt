use Rattle.std.proofs.Common.{◌≡◌, find}
use Rattle.reg_entry.specs.Card.{is_available}
use Rattle.reg_entry.specs.Partition.{pieces_in}
use Rattle.book_tests.proofs.piece_book_tests.first_available.Given as goal

abbrev pub invariant-loop-piece : goal.invariant-loop-piece
invariant-loop-piece l =
    (goal.iterator-loop-piece).can_next l.piece-iterator
    × (goal.iterator-loop-piece).is_finite l.piece-iterator
    × (find (λ p. is_available p.card.status) l.piece-iterator ≡ find (λ p. is_available p.card.status) (pieces_in l.book.partition l.fn.space))
