use Rattle.std.proofs.Common.{subst}
use Rattle.course_core.specs.Kept.{RoomyCourse, IsReached}
use Rattle.course_core.proofs.course.Course.is_reached.Goals as goal

pub returns : goal.returns
returns c = subst (λ (x : RoomyCourse). IsReached x.course) c.self.view_is c.self.invariant.reached
