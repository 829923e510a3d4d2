use Rattle.std.proofs.Common.{◌≡◌, ◌-◌, List, length, sym, ◌∙◌, ap, arith}
use Rattle.std.proofs.lemmas.Option.{same_Some}
use Rattle.num_range.specs.declared.space.Space.{Space}
use Rattle.num_range.specs.Space.{top_of}
use Rattle.reg_entry.specs.declared.piece.Piece.{Piece}
use Rattle.reg_entry.specs.Pieces.{ArePieces}
use Rattle.reg_entry.specs.Reshaping.{joined_at}
use Rattle.piece_book.proofs.Exchanging.{exchange_count}
use Rattle.piece_book.proofs.Parted.{IsChangedBy, join_done, pair_ordered, piece_space}
use Rattle.piece_book.proofs.parting.made_one.Goals as goal
use Rattle.piece_book.proofs.parting.made_one.Goals.{After-last, After-one_piece}

left : (c : After-last) → c.requires.left ≡ c.in-Some-Some.below
left c = same_Some _ _ (sym c.requires.holds_before ∙ sym c.piece_at.ensures.found ∙ c.in-Some-Some.is-0)

right : (c : After-last) → c.requires.right ≡ c.in-Some-Some.above
right c = same_Some _ _ (sym c.requires.holds_at ∙ sym c.piece_at-2.ensures.found ∙ c.in-Some-Some.is-1)

pub between-requires-clause-ordered : goal.between-requires-clause-ordered
between-requires-clause-ordered c =
    let ordered = pair_ordered c.args.book.now.pieces c.args.at c.requires in
    let first = ap (λ (p : Piece). p.range.first) (left c) in
    let last = ap (λ (p : Piece). p.range.last) (right c) in
    omega (arith, c.first.ensures.first, c.last.ensures.last)

pub between-requires-clause-within : goal.between-requires-clause-within
between-requires-clause-within c =
    let space = c.args.book.now.space in
    let below = piece_space space c.args.book.now.pieces (c.args.at - 1) c.in-Some-Some.below c.piece_at.ensures.valid.each (sym c.piece_at.ensures.found ∙ c.in-Some-Some.is-0) in
    let above = piece_space space c.args.book.now.pieces c.args.at c.in-Some-Some.above c.piece_at.ensures.valid.each (sym c.piece_at-2.ensures.found ∙ c.in-Some-Some.is-1) in
    let same = ap (λ (s : Space). top_of s) (c.space.ensures ∙ below ∙ sym above) in
    omega (arith, c.last.ensures.last, c.last.ensures.valid.1)

kept : (c : After-one_piece) → ArePieces c.args.book.now.space (joined_at c.args.book.now.pieces c.args.at)
kept c = c.joining_keeps_pieces.ensures.pieces c.args.book.now.space c.args.book.now.pieces c.args.at c.piece_at.ensures.valid c.requires

done : (c : After-one_piece) → IsChangedBy c.args.book.now.pieces (joined_at c.args.book.now.pieces c.args.at) c.two_pieces.result.items c.one_piece.result.items
done c =
    join_done c.args.book.now.pieces _ _ c.args.at c.requires c.in-Some-Some.below c.in-Some-Some.above _ _ _ _ c.piece_at.ensures.valid.rises (kept c).rises
    (same_Some _ _ (sym c.requires.holds_before ∙ sym c.piece_at.ensures.found ∙ c.in-Some-Some.is-0))
    (same_Some _ _ (sym c.requires.holds_at ∙ sym c.piece_at-2.ensures.found ∙ c.in-Some-Some.is-1))
    c.space.ensures c.first.ensures.first c.last.ensures.last c.between.ensures c.two_pieces.ensures c.one_piece.ensures

pub returns-clause-exchange : goal.returns-clause-exchange
returns-clause-exchange c = (done c).exchange

pub returns-clause-count : goal.returns-clause-count
returns-clause-count c =
    let count = exchange_count _ _ _ _ (done c).exchange in
    let gone = ap (λ (xs : List Piece). length xs) c.two_pieces.ensures in
    let come = ap (λ (xs : List Piece). length xs) c.one_piece.ensures in
    omega arith

pub returns-clause-pieces : goal.returns-clause-pieces
returns-clause-pieces c = kept c

pub returns-clause-touched : goal.returns-clause-touched
returns-clause-touched c = (done c).touched
