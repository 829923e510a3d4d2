use Rattle.std.proofs.Common.{rules}
use Rattle.load_gen.proofs.draws.next_number.Goals as goal

pub returns : goal.returns
returns c = search rules
