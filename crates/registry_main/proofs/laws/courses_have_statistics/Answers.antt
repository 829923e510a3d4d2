use Rattle.std.proofs.Common.{take}
use Rattle.course_core.specs.Course.{new_course, after_events, register_at}
use Rattle.registry_main.proofs.laws.courses_have_statistics.Goals as goal

pub returns : goal.returns
returns c rooms p passes mirrors k events policy are =
    let course = after_events (new_course rooms p passes mirrors) events in
    let keeps = c.courses_keep_their_promises.ensures.promises rooms p passes mirrors events policy are in
    c.records_conserve.ensures (register_at course k) (take k course.journal)
    (c.legal_entries_go_on.ensures.of course.rooms (take k course.journal) (keeps.fronts k))
