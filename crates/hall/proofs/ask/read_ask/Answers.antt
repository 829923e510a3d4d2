use Rattle.std.proofs.Common.{arith}
use Rattle.std.proofs.lemmas.Grind.{common_steps}
use Rattle.hall.proofs.ask.read_ask.Goals as goal

pub returns-else-is_lookup_name : goal.returns-else-is_lookup_name
returns-else-is_lookup_name c = grind (arith, common_steps)

pub returns-in_default-decoded : goal.returns-in_default-decoded
returns-in_default-decoded c = grind (arith, common_steps)

pub returns-then-eq : goal.returns-then-eq
returns-then-eq c = grind (arith, common_steps)

pub returns-then-is_lookup_name : goal.returns-then-is_lookup_name
returns-then-is_lookup_name c = grind (arith, common_steps)
