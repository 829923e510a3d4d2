use Rattle.std.proofs.Common.{subst}
use Rattle.reg_entry.specs.Whole.{IsWholeRegister}
use Rattle.plain_register.proofs.register.PlainRegister.is_whole.Goals as goal

pub returns-clause-whole : goal.returns-clause-whole
returns-clause-whole c = subst IsWholeRegister c.self.view_is (c.reached_registers_are_whole.ensures _ c.self.invariant.reached)
