use Rattle.std.proofs.Common.{rules}
use Rattle.cidr_cover.proofs.front.split_front.Goals as goal

pub returns-clause-behind : goal.returns-clause-behind
returns-clause-behind c = search rules
