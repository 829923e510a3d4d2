use Rattle.std.proofs.Common.{rules}
use Rattle.op_feed.proofs.window.OpWindow.with_window.Goals as goal

pub returns : goal.returns
returns c = search rules
