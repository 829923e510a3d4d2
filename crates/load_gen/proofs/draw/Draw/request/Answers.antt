use Rattle.std.proofs.Common.{rules}
use Rattle.load_gen.proofs.draw.Draw.request.Goals as goal

pub returns-in_default-clause-request : goal.returns-in_default-clause-request
returns-in_default-clause-request c = search rules
