use Rattle.std.proofs.Common.{rules, ◌≡◌, ◌∙◌, sym, ap, []}
use Rattle.std.specs.Option.{option_map_or}
use Rattle.num_range.specs.Cover.{reverse_cuts}
use Rattle.cidr_cover.proofs.Cutting.{reverse_cuts-none, reverse_cuts-front}
use Rattle.cidr_cover.proofs.cut_walk.CutWalkIterator.next.Goals as goal

pub returns-in_err-len-clause-steps : goal.returns-in_err-len-clause-steps
returns-in_err-len-clause-steps c =
    let start = c.in_ok-rest.ensures {u = tt} in
    let none = (c.in_err-len.ensures {u = tt}).widest in
    let was = ap (λ o. option_map_or reverse_cuts o []) (c.in_ok-self.was {u = tt}) in
    let empty : c.args.self.now ≡ [] = sym c.self.view_is ∙ was ∙ start.same_cuts ∙ reverse_cuts-none c.in_ok-rest.rest start.starts none in
    rw c.from_residual-in_err-len.ensures (empty, empty)

pub returns-clause-steps : goal.returns-clause-steps
returns-clause-steps c =
    let cut = c.in_ok-len.ensures {u = tt} in
    let step = reverse_cuts-front c.in_ok-rest.rest c.in_ok-len.len cut.front cut.cut cut.widest in
    let was = ap (λ o. option_map_or reverse_cuts o []) (c.in_ok-self.was {u = tt}) in
    sym c.self.view_is ∙ was ∙ (c.in_ok-rest.ensures {u = tt}).same_cuts ∙ (rw (c.split_front-block.ensures.block, c.split_front-block.ensures.behind) step)

pub returns-clause-goes : goal.returns-clause-goes
returns-clause-goes c =
    let steps = returns-clause-steps c in
    search rules
