use Rattle.std.proofs.Common.{subst}
use Rattle.course_core.specs.Promises.{KeepsPromises}
use Rattle.course_core.proofs.Reached.{reached_promises}
use Rattle.course_core.proofs.course.Course.keeps_promises.Goals as goal

pub returns : goal.returns
returns c = subst (λ x. KeepsPromises x.course) c.self.view_is (reached_promises _ c.self.invariant.reached)
