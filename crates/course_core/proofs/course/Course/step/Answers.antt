use Rattle.std.proofs.Common.{sym, subst}
use Rattle.course_core.specs.Promises.{NothingFalls}
use Rattle.course_core.proofs.Keeping.{event_raises}
use Rattle.course_core.proofs.Reached.{is_course}
use Rattle.course_core.proofs.course.Course.step.Goals as goal

pub returns-clause-nothing_falls : goal.returns-clause-nothing_falls
returns-clause-nothing_falls c =
    subst (NothingFalls c.args.self.now.course) (sym c.take.ensures.course)
    (event_raises c.args.self.now.course c.args.e.now (is_course c.args.self.now.course c.is_reached.ensures))
