use Rattle.std.proofs.Common.{arith}
use Rattle.num_range.specs.Cover.{longest_cut}
use Rattle.num_range.proofs.BlockEnds.{top_fits}
use Rattle.cidr_cover.proofs.Sizes.{size_pos}
use Rattle.cidr_cover.proofs.Cutting.{reverse_cuts-past, reverse_cuts-from}
use Rattle.cidr_cover.proofs.cut_walk.from_cut_start.Goals as goal

pub returns-in_err-first-clause-same_cuts : goal.returns-in_err-first-clause-same_cuts
returns-in_err-first-clause-same_cuts c =
    let r = c.args.r.now in
    let top = top_fits r.space in
    let valid = c.first.ensures.valid in
    let pos = size_pos r.space (longest_cut r.space) in
    let over = rw (c.smallest_cut.ensures, c.first.ensures.first) at (c.in_err-first.ensures {u = tt}) in
    rw c.from_residual.ensures (reverse_cuts-past r (grind (arith, over)))

pub returns-clause-same_cuts : goal.returns-clause-same_cuts
returns-clause-same_cuts c =
    let r = c.args.r.now in
    let found = rw (c.smallest_cut.ensures, c.first.ensures.first) at (c.in_ok-first.ensures {u = tt}) in
    reverse_cuts-from r c.new.result c.first.ensures.valid
    (rw (found.1, c.last.ensures.last, c.space.ensures) at c.new.ensures.fits)
    (rw (found.1, c.last.ensures.last, c.space.ensures) at c.new.ensures.range)
