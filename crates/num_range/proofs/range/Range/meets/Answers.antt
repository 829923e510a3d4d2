use Rattle.std.proofs.Common.{rules}
use Rattle.num_range.proofs.range.Range.meets.Goals as goal

pub returns-then-self-other : goal.returns-then-self-other
returns-then-self-other c = search rules
