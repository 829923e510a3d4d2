use Rattle.cidr_cover.proofs.Cutting.{front-cut}
use Rattle.cidr_cover.proofs.cut_walk.front_cut_length.Goals as goal

pub returns-clause-front : goal.returns-clause-front
returns-clause-front c =
    front-cut c.args.r.now c.front_length.result c.cut_length.result c.front_length.ensures.fits (rw c.space.ensures at c.cut_length.ensures.cut)
    c.cut_length.ensures.no_less
