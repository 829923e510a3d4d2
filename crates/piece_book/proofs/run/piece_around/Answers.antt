use Rattle.std.proofs.Common.{sym, ◌∙◌, ap, arith}
use Rattle.reg_entry.specs.Pieces.{piece_at}
use Rattle.piece_book.proofs.Finding.{one_around}
use Rattle.piece_book.proofs.run.piece_around.Goals as goal

pub returns-then-last-clause-alone : goal.returns-then-last-clause-alone
returns-then-last-clause-alone c =
    one_around 0 c.args.range.now c.args.status c.args.book.now.pieces _ c.first-first.ensures.valid.0 c.piece_at.ensures.valid.rises
    (sym c.is_available.ensures ∙ c.if-is_available.false)
    (ap (λ n. piece_at c.args.book.now.pieces n) (sym c.first-first.ensures.first) ∙ sym c.piece_at.ensures.found ∙ c.in_ok-piece.was)
    (omega (arith, c.if-last.true, c.last.ensures.last, c.last-2.ensures.last))
