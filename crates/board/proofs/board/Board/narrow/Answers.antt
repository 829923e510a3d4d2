use Rattle.std.proofs.Common.{sym, ◌∙◌, ap, Option}
use Rattle.num_range.specs.Number.{PlainNumber}
use Rattle.num_range.specs.Range.{PlainRange}
use Rattle.reg_entry.specs.declared.piece.Piece.{Piece}
use Rattle.reg_entry.specs.declared.sub_card.SubCard.{SubCard}
use Rattle.reg_entry.specs.Covers.{first_number}
use Rattle.reg_entry.specs.Operations.{PlainBoard}
use Rattle.reg_entry.specs.Register.{Register, piece_of}
use Rattle.sub_book.specs.Book.{enclosing}
use Rattle.reg_laws.specs.Narrowest.{looked_up}
use Rattle.board.proofs.Steps.{register_in}
use Rattle.board.proofs.board.Board.narrow.Goals as goal

pub returns : goal.returns
returns c =
    let r : Register = register_in c.self.inside in
    let range : PlainRange = c.args.range.now in
    c.found.ensures
    ∙ ap (λ (s : Option (PlainRange × SubCard)). looked_up range s c.piece_at.result) c.enclosing.ensures.range
    ∙ ap (λ (p : Option Piece). looked_up range (enclosing r.subs range) p) (c.piece_at.ensures ∙ ap (λ (n : PlainNumber). piece_of r.pool n) c.first_number.ensures)
    ∙ ap (λ (x : Register). looked_up range (enclosing x.subs range) (piece_of x.pool (first_number range))) (ap (λ (b : PlainBoard). b.register) c.self.view_is)
    ∙ sym (c.narrowest_is_looked_up.ensures c.args.self.now.register range c.is_whole.ensures.whole c.first-first.ensures.valid)
