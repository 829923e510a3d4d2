use Rattle.std.proofs.Common.{◌≡◌, ℕ, ap, ◌≤◌, ◌+◌, List, length, arith, sym, nat_lt, false}
use Rattle.std.proofs.lemmas.Bool.{cond-false}
use Rattle.std.proofs.lemmas.Bool.Decides.{nat_tests}
use Rattle.num_range.specs.declared.space.Space.{Space}
use Rattle.num_range.specs.declared.space.Space.TheVariants.{Asn, Ipv4, Ipv6}
use Rattle.reg_entry.specs.declared.piece.Piece.{Piece}
use Rattle.reg_entry.specs.Partition.{Partition, pieces_in, with_pieces, piece_count}
use Rattle.reg_entry.specs.Pieces.{laid}
use Rattle.piece_book.specs.Book.{PlainBook}
use Rattle.piece_book.proofs.Painted.{laid_adds_two}
use Rattle.piece_book.proofs.book.PieceBook.overflow.Goals as goal

-- the pieces of one space are changed
exchanged_in : (p : Partition) (space : Space) (ps : List Piece) → piece_count (with_pieces p space ps) + length (pieces_in p space) ≡ piece_count p + length ps
exchanged_in p Asn ps = omega arith
exchanged_in p Ipv4 ps = omega arith
exchanged_in p Ipv6 ps = omega arith

not_less : (a b : ℕ) → b ≤ a → nat_lt a b ≡ false
not_less a b h = grind (arith, nat_tests)

pub returns-then-pieces-self : goal.returns-then-pieces-self
returns-then-pieces-self c = λ card same.
    let pool = c.args.self.now.partition in
    let space = c.args.range.now.space in
    let ps = pieces_in pool space in
    let more = laid_adds_two ps c.args.range.now card (c.pieces.ensures.valid.each space) c.first-first.ensures.valid.0 in
    let count = exchanged_in pool space (laid ps c.args.range.now card) in
    let few = c.if-pieces-self.true in
    sym (cond-false (nat_lt c.args.self.now.room (piece_count (with_pieces pool space (laid ps c.args.range.now card)))) _ _
    (not_less c.args.self.now.room (piece_count (with_pieces pool space (laid ps c.args.range.now card)))
    (omega (arith, more, count, few, c.pieces.ensures.count, ap (λ (b : PlainBook). b.room) c.self.view_is))))
