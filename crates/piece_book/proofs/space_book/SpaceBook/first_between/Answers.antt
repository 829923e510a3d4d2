use Rattle.std.proofs.Common.{◌≡◌, Option, None, Some, refl, sym, ◌∙◌, ap, arith, nat_le}
use Rattle.std.proofs.lemmas.Bool.{cond-true, cond-false, le-leb, lt-leb}
use Rattle.reg_entry.specs.declared.piece.Piece.{Piece}
use Rattle.piece_book.proofs.Finding.{held_met, next_met, if_begun, held_begins}
use Rattle.piece_book.proofs.space_book.SpaceBook.first_between.Goals as goal

pub returns-in-Some-clause-first : goal.returns-in-Some-clause-first
returns-in-Some-clause-first c =
    sym (held_met 0 c.args.first c.args.last c.args.self.now.pieces c.in-Some.piece c.piece_at.ensures.valid.rises c.requires (sym c.piece_at.ensures.found ∙ c.in-Some.is))

pub returns-in-Some-clause-begins : goal.returns-in-Some-clause-begins
returns-in-Some-clause-begins c =
    let begins = held_begins c.args.first c.args.self.now.pieces c.in-Some.piece (sym c.piece_at.ensures.found ∙ c.in-Some.is) in
    omega arith

none : (p o : Option Piece) → p ≡ o → ((x : Piece) → p ≡ Some x → ⊥) → o ≡ None
none p None e h = refl
none p (Some x) e h = absurd (h x e)

pub returns-in_err-piece-clause-first : goal.returns-in_err-piece-clause-first
returns-in_err-piece-clause-first c =
    let ps = c.args.self.now.pieces in
    let met = next_met 0 c.args.first c.args.last ps c.piece_at.ensures.valid.rises (none _ _ c.piece_at.ensures.found c.in_default.not-Some) in
    c.from_residual.ensures
    ∙ ap (λ (o : Option Piece). if_begun c.args.last o) (sym c.in_err-piece.was ∙ c.next_begun.ensures)
    ∙ sym met

pub returns-then-first-last-clause-first : goal.returns-then-first-last-clause-first
returns-then-first-last-clause-first c =
    let ps = c.args.self.now.pieces in
    let p = c.in_ok-piece.piece in
    let met = next_met 0 c.args.first c.args.last ps c.piece_at.ensures.valid.rises (none _ _ c.piece_at.ensures.found c.in_default.not-Some) in
    sym (cond-true (nat_le p.range.first c.args.last) (Some p) None (le-leb p.range.first c.args.last (omega arith)))
    ∙ ap (λ (o : Option Piece). if_begun c.args.last o) (sym c.in_ok-piece.was ∙ c.next_begun.ensures)
    ∙ sym met

pub returns-else-first-last-clause-first : goal.returns-else-first-last-clause-first
returns-else-first-last-clause-first c =
    let ps = c.args.self.now.pieces in
    let p = c.in_ok-piece.piece in
    let met = next_met 0 c.args.first c.args.last ps c.piece_at.ensures.valid.rises (none _ _ c.piece_at.ensures.found c.in_default.not-Some) in
    sym (cond-false (nat_le p.range.first c.args.last) (Some p) None (lt-leb p.range.first c.args.last (omega arith)))
    ∙ ap (λ (o : Option Piece). if_begun c.args.last o) (sym c.in_ok-piece.was ∙ c.next_begun.ensures)
    ∙ sym met
