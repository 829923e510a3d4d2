use Rattle.std.proofs.Common.{arith}
use Rattle.std.proofs.lemmas.Grind.{common_steps}
use Rattle.page_dir.proofs.Spreads.{no_spread}
use Rattle.page_dir.proofs.spread.Spread.with_pages.Goals as goal

pub invariant_of-result : goal.invariant_of-result
invariant_of-result g c =
    no_spread c.in_ok-with_room.field-0 c.in_ok-with_capacity.field-0.items c.in_ok-with_capacity-2.field-0.items c.args.count _ _
    c.in_ok-with_room.ensures c.in_ok-with_capacity.ensures.items c.in_ok-with_capacity-2.ensures.items
    (omega (arith, c.in_ok-with_capacity.ensures.exact)) (omega (arith, c.in_ok-with_capacity-2.ensures.exact))

pub returns-clause-spare : goal.returns-clause-spare
returns-clause-spare g c = grind (arith, common_steps)
