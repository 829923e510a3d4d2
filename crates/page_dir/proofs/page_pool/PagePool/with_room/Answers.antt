use Rattle.std.proofs.Common.{◌∙◌, ap, arith}
use Rattle.page_dir.specs.Regions.{page_in, placed}
use Rattle.page_dir.proofs.PagePools.{no_pages, pool_begun}
use Rattle.page_dir.proofs.page_pool.PagePool.with_room.Goals as goal

pub invariant_of-result : goal.invariant_of-result
invariant_of-result g c =
    pool_begun c.in_ok-with_capacity.field-0.items c.in_ok-with_room.field-0 c.args.count _ c.in_ok-with_room.ensures c.ranges.count.fits
    (omega (arith, c.in_ok-with_capacity.ensures.exact))

pub returns : goal.returns
returns g c =
    ap (placed (page_in c.in_ok-with_capacity.field-0.items)) c.in_ok-with_room.ensures ∙ no_pages c.in_ok-with_capacity.field-0.items c.args.count
