use Rattle.std.proofs.Common.{arith}
use Rattle.std.proofs.lemmas.Grind.{common_steps}
use Rattle.page_dir.proofs.locating.forward.Goals as goal

pub returns-then-at-page-clause-same : goal.returns-then-at-page-clause-same
returns-then-at-page-clause-same g c = grind (arith, common_steps)
