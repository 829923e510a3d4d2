use Rattle.std.proofs.Common.{sym, ◌∙◌, arith}
use Rattle.piece_book.proofs.Finding.{none_held, last_held, last_past}
use Rattle.piece_book.proofs.space_book.SpaceBook.piece_at.Goals as goal

pub returns-in_err-piece-clause-found : goal.returns-in_err-piece-clause-found
returns-in_err-piece-clause-found c =
    c.from_residual.ensures ∙ sym (none_held c.args.value c.args.self.now.pieces (sym c.last_begun.ensures.found ∙ c.in_err-piece.was))

pub returns-then-value-last-clause-found : goal.returns-then-value-last-clause-found
returns-then-value-last-clause-found c =
    sym (last_held 0 c.args.value c.args.self.now.pieces c.in_ok-piece.piece c.last_begun.ensures.valid.rises (sym c.last_begun.ensures.found ∙ c.in_ok-piece.was) (omega arith))

pub returns-else-value-last-clause-found : goal.returns-else-value-last-clause-found
returns-else-value-last-clause-found c =
    sym (last_past 0 c.args.value c.args.self.now.pieces c.in_ok-piece.piece c.last_begun.ensures.valid.rises (sym c.last_begun.ensures.found ∙ c.in_ok-piece.was) (omega arith))
