use Rattle.std.proofs.Common.{◌∙◌, ap, length}
use Rattle.reg_entry.specs.Register.{Register, after_entry}
use Rattle.reg_entry.specs.Objects.{objects_of, changes_between}
use Rattle.course_core.specs.Kept.{kept_serial}
use Rattle.course_core.proofs.course.take_in.Goals as goal

pub returns-clause-changes : goal.returns-clause-changes
returns-clause-changes c =
    c.changes_to-changes.ensures
    ∙ ap (λ (r : Register). kept_serial (length (changes_between (objects_of c.args.before.now) (objects_of r))))
    (c.apply.ensures ∙ ap (λ (r : Register). after_entry r c.args.e.now) c.requires.same)
