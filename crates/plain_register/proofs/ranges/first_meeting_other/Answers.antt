use Rattle.std.proofs.Common.{arith}
use Rattle.std.proofs.lemmas.Grind.{common_steps}
use Rattle.plain_register.proofs.ranges.first_meeting_other.Goals as goal

pub returns-then-meets-clause-first : goal.returns-then-meets-clause-first
returns-then-meets-clause-first g c = grind (arith, common_steps)

pub loop-p-preserved : goal.loop-p-preserved
loop-p-preserved g c = grind (arith, common_steps)

pub returns-clause-first : goal.returns-clause-first
returns-clause-first g c = grind (arith, common_steps)
