use Rattle.std.proofs.Common.{◌≡◌, [], ◌∷◌, ◌++◌, sym, ◌∙◌, ap, length}
use Rattle.reg_entry.specs.Register.{Register, after_entry}
use Rattle.reg_entry.specs.Decision.{decision}
use Rattle.reg_entry.specs.Operations.{changes_of}
use Rattle.course_core.specs.Course.{PlainCourse}
use Rattle.course_core.specs.Kept.{kept_serial}
use Rattle.course_core.proofs.Reached.{kept_accepted, kept_as}
use Rattle.course_core.proofs.course.Course.submit.Goals as goal

pub invariant_of-self : goal.invariant_of-self
invariant_of-self c =
    let course : PlainCourse = record {
      rooms = c.self.inside.before.rooms;
      policy = c.self.inside.policy;
      journal = c.self.inside.journal.items;
      published = c.self.inside.published;
      seen = c.self.inside.seen.items;
      serials = c.self.inside.serials.items;
    } in
    let e = c.in-Accepted.e in
    let h = c.self.invariant in
    let same = c.decide-reply.ensures.same in
    let new_is : c.take_in-changes.new.before ≡ after_entry c.self.inside.before e =
    c.take_in-changes.ensures.before ∙ ap (λ (r : Register). after_entry r e) same in
    let rooms : c.take_in-changes.new.before.rooms ≡ c.self.inside.before.rooms = ap (λ (r : Register). r.rooms) new_is in
    kept_as course c.take_in-changes.new.before.rooms c.push_reserved.new.self.items (course.journal ++ e ∷ []) c.take_in-changes.new.before
    c.take_in-changes.new.after c.saturating_add-self-inside.result c.self.inside.published_serial rooms c.push_reserved.ensures.items
    (kept_accepted course c.self.inside.before c.self.inside.after c.take_in-changes.new.before c.take_in-changes.new.after c.self.inside.serial
    c.self.inside.published_serial c.take_in-changes.result c.saturating_add-self-inside.result c.args.day c.args.who.now c.args.request.now e h c.has_ranges.ensures
    (ap (λ (r : Register). decision r c.self.inside.policy c.args.day c.args.who.now c.args.request.now) (sym h.head) ∙ sym c.decide-reply.ensures.decision ∙ c.in-Accepted.is)
    new_is
    (c.take_in-changes.ensures.after ∙ ap (λ (r : Register). after_entry r e) (same ∙ h.head ∙ sym h.copy))
    (c.take_in-changes.ensures.changes ∙ ap (λ (r : Register). kept_serial (length (changes_of r e))) same)
    c.saturating_add-self-inside.ensures)
