use Rattle.std.proofs.Common.{◌≡◌, ◌<◌, ◌-◌, ℕ, length, get_or, min, max, sym, ◌∙◌, ap, subst}
use Rattle.std.specs.Prelude.{vec_len, vec_capacity}
use Rattle.course_core.specs.Course.{PlainCourse, published_serial}
use Rattle.course_core.specs.Kept.{RoomyCourse}
use Rattle.course_core.proofs.Reached.{kept_fed, fed_to, read_as}
use Rattle.course_core.proofs.course.Course.feed.Goals as goal

-- the serial that is written is the one that the definition says
serial_is : (c : PlainCourse) (mirror own upto kept least serial : ℕ) → mirror < length c.serials → own ≡ get_or c.serials mirror own
    → upto < 18_446_744_073_709_551_616 → kept ≡ min (published_serial c) 18_446_744_073_709_551_615 → least ≡ min upto kept → serial ≡ max own least
    → serial ≡ max (get_or c.serials mirror 0) (min upto (published_serial c))
serial_is c mirror own upto kept least serial within own_is fits kept_is least_is is =
    is ∙ ap (λ (n : ℕ). max own n) least_is
    ∙ fed_to (get_or c.serials mirror 0) own upto (published_serial c) kept (read_as c.serials mirror 0 own within own_is) fits kept_is

within_inside : (inside view : RoomyCourse) (mirror : ℕ) → inside ≡ view → mirror < length view.course.serials → mirror < length inside.course.serials
within_inside inside view mirror e h = subst (λ (v : RoomyCourse). mirror < length v.course.serials) (sym e) h

pub invariant_of-self : goal.invariant_of-self
invariant_of-self c =
    let course : PlainCourse = record {
      rooms = c.self.inside.before.rooms;
      policy = c.self.inside.policy;
      journal = c.self.inside.journal.items;
      published = c.self.inside.published;
      seen = c.self.inside.seen.items;
      serials = c.self.inside.serials.items;
    } in
    let serial = serial_is course c.args.mirror c.index-own.result.now c.args.upto c.self.inside.published_serial c.min.result c.max-serial.result
    (within_inside (record { course = course; spare = vec_capacity c.self.inside.journal - vec_len c.self.inside.journal }) c.args.self.now c.args.mirror c.self.view_is c.requires.id) c.index-own.ensures c.ranges.upto.fits c.self.invariant.published_is
    c.min.ensures c.max-serial.ensures in
    rw serial (kept_fed course _ _ _ _ c.args.mirror c.args.upto c.self.invariant)
