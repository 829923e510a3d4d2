use Rattle.std.proofs.Common.{◌≡◌, ◌<◌, false, List, Option, Some, MatchOption, length, sym, ◌∙◌, ap, subst, arith}
use Rattle.num_range.specs.declared.space.Space.{Space}
use Rattle.num_range.specs.Space.{top_of}
use Rattle.reg_entry.specs.declared.piece.Piece.{Piece}
use Rattle.reg_entry.specs.Card.{is_available}
use Rattle.reg_entry.specs.Pieces.{ArePieces, piece_at}
use Rattle.reg_entry.specs.Reshaping.{split_at_number}
use Rattle.piece_book.proofs.Exchanging.{exchange_count}
use Rattle.piece_book.proofs.Parted.{held, IsChangedBy, split_done}
use Rattle.piece_book.proofs.parting.parted.Goals as goal
use Rattle.piece_book.proofs.parting.parted.Goals.{After-two_pieces}

place : (c : After-two_pieces) → (p : Piece) → piece_at c.args.book.now.pieces c.args.at ≡ Some p → (is_available p.card.status ≡ false) × (p.range.first < c.args.at)
place c p e = subst (λ (o : Option Piece). MatchOption o ⊥ (λ q. (is_available q.card.status ≡ false) × (q.range.first < c.args.at))) e c.requires

kept : (c : After-two_pieces) → ArePieces c.args.book.now.space (split_at_number c.args.book.now.pieces c.args.at)
kept c = c.splitting_keeps_pieces.ensures.pieces c.args.book.now.space c.args.book.now.pieces c.args.at c.piece_at.ensures.valid (λ p e. (place c p e).0)

done : (c : After-two_pieces)
    → IsChangedBy c.args.book.now.pieces (split_at_number c.args.book.now.pieces c.args.at) c.one_piece.result.items c.two_pieces.result.items
done c =
    let p = c.in-Some.piece in
    let found = sym c.piece_at.ensures.found ∙ c.in-Some.is in
    split_done c.args.book.now.pieces _ _ c.args.at p _ _ _ _ _ c.piece_at.ensures.valid.rises (kept c).rises found (place c p found).1
    c.space-space.ensures c.first.ensures.first c.last.ensures.last c.between.ensures c.between-2.ensures c.one_piece.ensures c.two_pieces.ensures

pub between-requires-clause-within : goal.between-requires-clause-within
between-requires-clause-within c =
    let here = held c.args.book.now.pieces c.args.at c.in-Some.piece (sym c.piece_at.ensures.found ∙ c.in-Some.is) in
    let top = ap (λ (s : Space). top_of s) c.space-space.ensures in
    omega (arith, here.ends, c.first.ensures.valid.1)

pub between-requires-2-clause-ordered : goal.between-requires-2-clause-ordered
between-requires-2-clause-ordered c =
    let here = held c.args.book.now.pieces c.args.at c.in-Some.piece (sym c.piece_at.ensures.found ∙ c.in-Some.is) in
    omega (arith, here.ends, c.last.ensures.last)

pub returns-clause-exchange : goal.returns-clause-exchange
returns-clause-exchange c = (done c).exchange

pub returns-clause-count : goal.returns-clause-count
returns-clause-count c =
    let count = exchange_count _ _ _ _ (done c).exchange in
    let gone = ap (λ (xs : List Piece). length xs) c.one_piece.ensures in
    let come = ap (λ (xs : List Piece). length xs) c.two_pieces.ensures in
    omega arith

pub returns-clause-pieces : goal.returns-clause-pieces
returns-clause-pieces c = kept c

pub returns-clause-touched : goal.returns-clause-touched
returns-clause-touched c = (done c).touched
