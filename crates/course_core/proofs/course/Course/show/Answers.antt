use Rattle.course_core.proofs.Reached.{kept_seen}
use Rattle.course_core.proofs.course.Course.show.Goals as goal

pub invariant_of-self : goal.invariant_of-self
invariant_of-self c = kept_seen _ _ _ _ _ c.args.pass c.self.invariant
