use Rattle.std.proofs.Common.{rules}
use Rattle.num_range.proofs.range.Range.new.Goals as goal

pub invariant_of-result : goal.invariant_of-result
invariant_of-result c = search rules
