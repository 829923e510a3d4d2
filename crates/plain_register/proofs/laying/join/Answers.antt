use Rattle.std.proofs.Common.{◌-◌, sym, ◌∙◌, ap, arith}
use Rattle.reg_entry.specs.Reshaping.{joined_at}
use Rattle.plain_register.proofs.Neighbours.{joined_none}
use Rattle.plain_register.proofs.laying.join.Goals as goal

pub returns-clause-items : goal.returns-clause-items
returns-clause-items c =
    sym (joined_none c.loop-i.pieces.items (c.loop-i.i - 1) c.args.at (omega arith))
    ∙ c.loop-i.invariant.1
    ∙ ap (λ v. joined_at v.items c.args.at) c.loop-i.invariant.0
