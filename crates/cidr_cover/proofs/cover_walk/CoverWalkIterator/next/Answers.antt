use Rattle.std.proofs.Common.{rules, ◌∙◌, sym, ap, []}
use Rattle.std.specs.Option.{option_map_or}
use Rattle.num_range.specs.Cover.{least_cover}
use Rattle.cidr_cover.proofs.Greedy.{least_cover-front}
use Rattle.cidr_cover.proofs.cover_walk.CoverWalkIterator.next.Goals as goal

pub returns-clause-steps : goal.returns-clause-steps
returns-clause-steps c =
    let step = least_cover-front c.in_ok-rest.rest c.front_length.result c.front_length.ensures.fits c.front_length.ensures.widest in
    let was = ap (λ o. option_map_or least_cover o []) (c.in_ok-rest.was {u = tt}) in
    sym c.self.view_is ∙ was ∙ (rw (c.split_front-block.ensures.block, c.split_front-block.ensures.behind) step)

pub returns-clause-goes : goal.returns-clause-goes
returns-clause-goes c =
    let steps = returns-clause-steps c in
    search rules
