use Rattle.std.proofs.Common.{ap, arith}
use Rattle.reg_entry.specs.Register.{Register}
use Rattle.plain_register.proofs.register.PlainRegister.entries.Goals as goal

pub returns-clause-bound : goal.returns-clause-bound
returns-clause-bound c =
    let within = c.is_whole.ensures.whole.rooms.entries in
    let same = ap (λ (r : Register). r.entries) c.self.view_is in
    let most = c.is_whole.ensures.rooms.entries.1 in
    omega arith
