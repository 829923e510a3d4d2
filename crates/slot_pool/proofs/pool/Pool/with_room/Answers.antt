use Rattle.std.proofs.Common.{rules}
use Rattle.slot_pool.proofs.pool.Pool.with_room.Goals as goal

pub returns : goal.returns
returns g c = search rules
