use Rattle.std.proofs.Common.{rules}
use Rattle.op_feed.proofs.window.object_of.Goals as goal

pub returns-in-Some : goal.returns-in-Some
returns-in-Some c = search rules
