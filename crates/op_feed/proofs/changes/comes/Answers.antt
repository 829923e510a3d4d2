use Rattle.std.proofs.Common.{rules}
use Rattle.op_feed.proofs.changes.comes.Goals as goal

pub returns-in-Some : goal.returns-in-Some
returns-in-Some c = search rules
