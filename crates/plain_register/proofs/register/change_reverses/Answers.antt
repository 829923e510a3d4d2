use Rattle.std.proofs.Common.{rules}
use Rattle.plain_register.proofs.register.change_reverses.Goals as goal

pub returns-in-Return-clause-items : goal.returns-in-Return-clause-items
returns-in-Return-clause-items c = search rules
