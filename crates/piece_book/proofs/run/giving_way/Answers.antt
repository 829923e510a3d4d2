use Rattle.std.proofs.Common.{sym, ◌∙◌, arith}
use Rattle.piece_book.proofs.Collecting.{with_next, none_collected, count_within, one_more, one_past, rest_above}
use Rattle.piece_book.proofs.run.giving_way.Goals as goal

pub loop-piece-init : goal.loop-piece-init
loop-piece-init c =
    none_collected c.args.range.now c.args.status c.args.book.now.pieces _ _ _ _ _ _ (c.into_iter-piece-iterator.ensures.into_iter_gives ∙ c.walk_from-piece-items.ensures.pieces)
    (c.start.ensures c.args.range.now c.args.status (sym c.first.ensures.first) c.first.ensures.valid.0) c.walk_from-piece-items.ensures.valid.rises c.new-run.ensures

pub add-requires : goal.add-requires
add-requires c =
    let count = count_within _ _ _ _ _ _ _ _ c.loop-piece.invariant in
    let most = c.walk_from-piece-items.ensures.most in
    omega arith

pub loop-piece-preserved-then-gives_way : goal.loop-piece-preserved-then-gives_way
loop-piece-preserved-then-gives_way c =
    one_more _ _ _ _ c.in-Some.piece _ _ _ _ _ _ _ _ (with_next c.in-Some.ensures.steps c.loop-piece.invariant) (sym c.gives_way.ensures ∙ c.if-gives_way.true) c.add.ensures

pub returns-then-last-first-clause-run : goal.returns-then-last-first-clause-run
returns-then-last-first-clause-run c =
    rest_above _ _ _ _ c.in-Some.piece _ _ _ _ (with_next c.in-Some.ensures.steps c.loop-piece.invariant) (sym c.gives_way.ensures ∙ c.if-gives_way.false)
    c.first.ensures.valid.0 (omega arith)

pub loop-piece-preserved : goal.loop-piece-preserved
loop-piece-preserved c =
    one_past _ _ _ _ c.in-Some.piece _ _ _ _ (with_next c.in-Some.ensures.steps c.loop-piece.invariant) (sym c.gives_way.ensures ∙ c.if-gives_way.false)
