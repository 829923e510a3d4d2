use Rattle.course_core.proofs.Keeping.{keeps_promises, new_is_course, events_keep, events_raise, lookups_rise}
use Rattle.course_core.proofs.laws.courses_keep_their_promises.Goals as goal

pub returns : goal.returns
returns c = record {
  promises = λ rooms policy passes mirrors events valid are.
      keeps_promises _ (events_keep _ events (new_is_course rooms policy passes mirrors valid) are);
  nothing_falls = λ rooms policy passes mirrors events more valid are more_are.
      events_raise _ more (events_keep _ events (new_is_course rooms policy passes mirrors valid) are) more_are;
  lookups = λ rooms policy passes mirrors events more pass valid are more_are.
      lookups_rise pass _ more (events_keep _ events (new_is_course rooms policy passes mirrors valid) are) more_are;
}
