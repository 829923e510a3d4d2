use Rattle.std.proofs.Common.{◌≡◌, ◌+◌, List, length, sym, ◌∙◌, ap, subst, arith}
use Rattle.num_range.specs.declared.space.Space.{Space}
use Rattle.reg_entry.specs.declared.piece.Piece.{Piece}
use Rattle.reg_entry.specs.Partition.{pieces_in}
use Rattle.piece_book.specs.Exchange.{exchanged}
use Rattle.piece_book.proofs.Kept.{count_with}
use Rattle.piece_book.proofs.book.PieceBook.join.Goals as goal

pub exchange-requires-clause-room : goal.exchange-requires-clause-room
exchange-requires-clause-room c =
    let p = c.args.self.now.partition in
    let gone = c.made_one-touched.result.before.items in
    let come = c.made_one-touched.result.after.items in
    let here = c.in_space.ensures.pieces ∙ ap (λ (s : Space). pieces_in p s) (c.space.ensures ∙ sym c.space-2.ensures) in
    let after = ap (λ (xs : List Piece). length xs) c.made_one-touched.ensures.exchange.pieces in
    let fewer : length (exchanged gone come c.in_space.result.now.pieces) + 1 ≡ length c.in_space.result.now.pieces = omega (arith, after, c.made_one-touched.ensures.count) in
    let fewer_here = subst (λ (ps : List Piece). length (exchanged gone come ps) + 1 ≡ length ps) here fewer in
    let all = count_with p c.space-2.result (exchanged gone come (pieces_in p c.space-2.result)) in
    omega (arith, c.are_pieces.ensures.within, fewer_here, all)
