use Rattle.std.proofs.Common.{arith}
use Rattle.std.proofs.lemmas.Grind.{moves, elements}
use Rattle.plain_register.proofs.register.PlainRegister.with_room.Goals as goal

pub returns-in_err-with_capacity-3 : goal.returns-in_err-with_capacity-3
returns-in_err-with_capacity-3 c = grind (arith, moves)

pub invariant_of-result : goal.invariant_of-result
invariant_of-result c = grind (arith, moves)

pub returns : goal.returns
returns c = grind (arith, elements)
