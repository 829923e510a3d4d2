use Rattle.std.proofs.Common.{◌≡◌, length, arith}
use Rattle.course_core.proofs.Reached.{kept_published}
use Rattle.course_core.proofs.course.Course.publish.Goals as goal

pub invariant_of-self : goal.invariant_of-self
invariant_of-self c =
    let count : c.len.result ≡ length c.self.inside.journal.items = omega arith in
    rw count (kept_published _ _ _ _ _ c.self.invariant)
