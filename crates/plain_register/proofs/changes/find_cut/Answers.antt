use Rattle.std.proofs.Common.{◌+◌, ◌∷◌, drop, sym, ◌∙◌, ap}
use Rattle.std.proofs.lemmas.List.{drop_more}
use Rattle.plain_register.proofs.Counting.{found_first, found_later}
use Rattle.plain_register.proofs.changes.find_cut.Goals as goal

pub returns-then-has_cut : goal.returns-then-has_cut
returns-then-has_cut c =
    let rest = drop (c.loop-entry.entry-index + 1) c.args.reverses.now in
    sym (found_first rest (drop c.loop-entry.entry-index c.args.reverses.now) c.entry-item.result c.args.block.now
    (drop_more c.args.reverses.now c.loop-entry.entry-index c.entry-item.result c.loop-entry-test.true ∙ ap (λ x. x ∷ rest) (sym c.entry-item.is))
    (sym c.has_cut.ensures ∙ c.if-has_cut.true))
    ∙ c.loop-entry.invariant

pub loop-entry-preserved : goal.loop-entry-preserved
loop-entry-preserved c =
    let rest = drop (c.loop-entry.entry-index + 1) c.args.reverses.now in
    sym (found_later rest (drop c.loop-entry.entry-index c.args.reverses.now) c.entry-item.result c.args.block.now
    (drop_more c.args.reverses.now c.loop-entry.entry-index c.entry-item.result c.loop-entry-test.true ∙ ap (λ x. x ∷ rest) (sym c.entry-item.is))
    (sym c.has_cut.ensures ∙ c.if-has_cut.false))
    ∙ c.loop-entry.invariant
