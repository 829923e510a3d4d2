use Rattle.std.proofs.Common.{sym, subst}
use Rattle.plain_register.specs.Parts.{AreOf}
use Rattle.plain_register.proofs.laying.laid_count.Goals as goal

pub joined_count-requires : goal.joined_count-requires
joined_count-requires c =
    record { each = (c.args.range.now.space, subst (AreOf c.args.range.now.space) (sym c.deref.ensures.value) c.part.ensures.each) }
