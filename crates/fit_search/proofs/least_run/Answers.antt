use Rattle.std.proofs.Common.{rules}
use Rattle.fit_search.proofs.least_run.Goals as goal

pub returns-then-last-first : goal.returns-then-last-first
returns-then-last-first c = search rules

pub loop-piece-preserved : goal.loop-piece-preserved
loop-piece-preserved c = search rules
