use Rattle.std.proofs.Common.{sym, ◌∙◌, ap, ◌+◌, ◌∷◌, drop, arith}
use Rattle.std.proofs.lemmas.Grind.{common_steps}
use Rattle.std.proofs.lemmas.List.{drop_more}
use Rattle.plain_register.proofs.Missing.{missing_beyond}
use Rattle.plain_register.proofs.pieces.least_missing.Goals as goal

pub returns-then-last-clause-number : goal.returns-then-last-clause-number
returns-then-last-clause-number c =
    let rest = drop (c.loop-piece.piece-index + 1) c.args.pieces.now in
    sym (missing_beyond rest (drop c.loop-piece.piece-index c.args.pieces.now) c.piece-item.result c.loop-piece.next c.args.last
    (drop_more c.args.pieces.now c.loop-piece.piece-index c.piece-item.result c.loop-piece-test.true ∙ ap (λ p. p ∷ rest) (sym c.piece-item.is))
    (sym c.holds.ensures ∙ c.if-holds.true) (omega arith))
    ∙ c.loop-piece.invariant

pub returns-else-next-last-clause-number : goal.returns-else-next-last-clause-number
returns-else-next-last-clause-number c = grind (arith, common_steps)
