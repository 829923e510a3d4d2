use Rattle.std.proofs.Common.{sym, subst}
use Rattle.plain_register.specs.Parts.{AreOf}
use Rattle.plain_register.proofs.laying.lay.Goals as goal

pub join_parts-requires-clause-each : goal.join_parts-requires-clause-each
join_parts-requires-clause-each c =
    (c.args.range.now.space, subst (AreOf c.args.range.now.space) (sym c.deref-2.ensures.value) c.part.ensures.each)
