use Rattle.op_feed.proofs.Fewness.{operations_few}
use Rattle.op_feed.proofs.laws.operations_are_few.Goals as goal

pub returns : goal.returns
returns c = operations_few
