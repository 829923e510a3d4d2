use Rattle.std.proofs.Common.{arith, vec_capacity}
use Rattle.page_dir.proofs.Counting.{no_dir}
use Rattle.page_dir.proofs.directory.PageDir.with_room.Goals as goal

pub invariant_of-result : goal.invariant_of-result
invariant_of-result g c =
    no_dir g.K.Ord.cmp c.in_ok-with_pages.field-0 c.args.room (vec_capacity c.in_ok-with_capacity.field-0) c.in_ok-with_pages.ensures.order
    (omega (arith, c.in_ok-with_pages.ensures.spare)) c.requires.most (omega (arith, c.in_ok-with_capacity.ensures.exact))
