use Rattle.std.proofs.Common.{ap, ◌∙◌, arith, rules}
use Rattle.num_range.specs.Space.{width_of}
use Rattle.rdap_query.proofs.Once.{too_long}
use Rattle.rdap_query.proofs.path.read_masked.Goals as goal

pub returns-then-len-width-clause-none : goal.returns-then-len-width-clause-none
returns-then-len-width-clause-none c =
    let wide = c.width.ensures ∙ ap width_of c.space.ensures in
    too_long _ _ _ _ c.spells_one.ensures.address c.in_ok-n.ensures.some c.in_ok-len.ensures.some (search rules) (omega arith)

pub returns-clause-none : goal.returns-clause-none
returns-clause-none c = cc
