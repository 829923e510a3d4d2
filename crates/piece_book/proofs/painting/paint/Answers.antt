use Rattle.std.proofs.Common.{[], sym, ◌∙◌, refl}
use Rattle.reg_entry.specs.Pieces.{ArePieces, laid}
use Rattle.piece_book.proofs.Painted.{IsPaintedBy, changed, unchanged}
use Rattle.piece_book.proofs.painting.paint.Goals as goal
use Rattle.piece_book.proofs.painting.paint.Goals.{After-is_one_for_one, Then-is_one_for_one, Else-is_one_for_one}

kept : (c : After-is_one_for_one) → ArePieces c.args.range.now.space (laid c.args.book.now.pieces c.args.range.now c.args.card.now)
kept c =
    c.painting_keeps_pieces.ensures c.args.range.now.space c.args.book.now.pieces c.args.range.now c.args.card.now
    c.note_painting.ensures.pieces refl c.note_painting.ensures.valid c.requires.pooled c.requires.plain

same : (c : Then-is_one_for_one) → IsPaintedBy c.args.range.now c.args.card.now c.args.book.now.pieces [] []
same c =
    unchanged c.args.book.now.pieces c.args.range.now c.args.card.now _ _ c.note_painting.ensures.pieces c.note_painting.ensures.valid.0 c.note_painting.ensures.built
    (sym c.deref.ensures.0 ∙ c.is_one_for_one.ensures.same c.if-is_one_for_one.true ∙ c.deref-2.ensures.0)

pub returns-then-is_one_for_one-clause-exchange : goal.returns-then-is_one_for_one-clause-exchange
returns-then-is_one_for_one-clause-exchange c = rw (c.clear.ensures, c.clear-then-is_one_for_one.ensures) (same c.before.before.before.before).exchange

pub returns-then-is_one_for_one-clause-pieces : goal.returns-then-is_one_for_one-clause-pieces
returns-then-is_one_for_one-clause-pieces c = kept c.before.before.before.before.before

pub returns-then-is_one_for_one-clause-touched : goal.returns-then-is_one_for_one-clause-touched
returns-then-is_one_for_one-clause-touched c = rw (c.clear.ensures, c.clear-then-is_one_for_one.ensures) (same c.before.before.before.before).touched

other : (c : Else-is_one_for_one) → IsPaintedBy c.args.range.now c.args.card.now c.args.book.now.pieces c.note_painting.new.touched.before.items c.note_painting.new.touched.after.items
other c =
    changed c.args.book.now.pieces c.args.range.now c.args.card.now _ _ c.note_painting.ensures.pieces c.note_painting.ensures.valid.0 (kept c.before).rises c.note_painting.ensures.built
    (λ x u v.
    let one = c.is_one_for_one.ensures.one x (c.deref.ensures.0 ∙ u) (c.deref-2.ensures.0 ∙ v) in
    absurd (cc (one, c.if-is_one_for_one.false)))

pub returns-else-is_one_for_one-clause-exchange : goal.returns-else-is_one_for_one-clause-exchange
returns-else-is_one_for_one-clause-exchange c = (other c).exchange

pub returns-else-is_one_for_one-clause-pieces : goal.returns-else-is_one_for_one-clause-pieces
returns-else-is_one_for_one-clause-pieces c = kept c.before

pub returns-else-is_one_for_one-clause-touched : goal.returns-else-is_one_for_one-clause-touched
returns-else-is_one_for_one-clause-touched c = (other c).touched
