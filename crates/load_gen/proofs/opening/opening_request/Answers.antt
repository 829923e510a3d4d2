use Rattle.std.proofs.Common.{rules}
use Rattle.load_gen.proofs.opening.opening_request.Goals as goal

pub returns-in_default : goal.returns-in_default
returns-in_default c = search rules
