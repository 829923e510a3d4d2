use Rattle.std.proofs.Common.{arith}
use Rattle.std.proofs.lemmas.List.Sums.{count_by-le-length}
use Rattle.std.specs.Option.{is_none}
use Rattle.slot_pool.proofs.pool.Pool.spare.Goals as goal

pub overflow_add-result : goal.overflow_add-result
overflow_add-result g c =
    let few = count_by-le-length is_none c.self.inside.cells.items in
    let stack = c.self.invariant.stack in
    omega (arith, few, stack.count, stack.within, stack.fits)
