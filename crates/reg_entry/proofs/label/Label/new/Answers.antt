use Rattle.std.proofs.Common.{arith}
use Rattle.reg_entry.proofs.Padding.{over_zeros}
use Rattle.reg_entry.proofs.label.Label.new.Goals as goal

pub invariant_of-result : goal.invariant_of-result
invariant_of-result g c = rw c.copy_from_slice.ensures.after (over_zeros _ _ (omega arith))
