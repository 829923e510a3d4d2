use Rattle.std.proofs.Common.{◌+◌, ◌^◌, ◌<◌, ◌∙◌, arith}
use Rattle.delegated_ext.proofs.Counted.{none_counted, one_counted, room_for_one, all_counted}
use Rattle.delegated_ext.proofs.record_count.count_records.Goals as goal

pub loop-piece-init : goal.loop-piece-init
loop-piece-init c =
    none_counted c.args.pieces.now.partition c.args.space c.args.pieces.now.room c.into_iter-piece-iterator.result c.cover_is_least.ensures.few
    c.are_pieces.ensures.within c.are_pieces.ensures.bound (c.into_iter-piece-iterator.ensures.into_iter_gives ∙ c.walk-piece-items.ensures.pieces)

pub overflow_add-count : goal.overflow_add-count
overflow_add-count c =
    let fits : c.loop-piece.count + c.count_of_piece-count.result < 2 ^ 64
    = room_for_one _ _ _ _ _ _ c.in-Some.ensures.steps c.count_of_piece-count.ensures c.loop-piece.invariant in
    omega arith

pub loop-piece-preserved : goal.loop-piece-preserved
loop-piece-preserved c = one_counted _ _ _ _ _ _ c.in-Some.ensures.steps c.count_of_piece-count.ensures c.loop-piece.invariant

pub returns : goal.returns
returns c = let all = all_counted _ _ _ c.in-None.ensures.steps.0 c.loop-piece.invariant in record { count = all.0; bound = all.1 }
