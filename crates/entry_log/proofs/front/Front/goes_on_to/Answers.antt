use Rattle.std.proofs.Common.{rules}
use Rattle.entry_log.proofs.front.Front.goes_on_to.Goals as goal

pub returns-then-self-other-2 : goal.returns-then-self-other-2
returns-then-self-other-2 c = search rules
