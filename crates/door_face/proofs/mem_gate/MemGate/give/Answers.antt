use Rattle.std.proofs.Common.{rules}
use Rattle.door_face.proofs.mem_gate.MemGate.give.Goals as goal

pub returns-then-is_some-clause-way : goal.returns-then-is_some-clause-way
returns-then-is_some-clause-way g c = search rules
