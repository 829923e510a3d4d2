use Rattle.std.proofs.Common.{arith}
use Rattle.holder_book.proofs.Numbers.{no_places}
use Rattle.holder_book.proofs.numbered.Numbered.with_room.Goals as goal

pub invariant_of-result : goal.invariant_of-result
invariant_of-result c =
    no_places _ _ c.args.room _ c.in_ok-with_room.ensures c.in_ok-with_capacity.ensures.items (omega arith) (omega (arith, c.in_ok-with_capacity.ensures.capacity))
