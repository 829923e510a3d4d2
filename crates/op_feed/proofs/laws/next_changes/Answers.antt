use Rattle.op_feed.proofs.NextChanges.{next_changes_are}
use Rattle.op_feed.proofs.laws.next_changes.Goals as goal

pub returns : goal.returns
returns c = next_changes_are
