use Rattle.op_feed.proofs.Local.{changes_in_one, changes_in_two}
use Rattle.op_feed.proofs.laws.changes_are_local.Goals as goal

pub returns : goal.returns
returns c = record { one = changes_in_one; two = changes_in_two }
