use Rattle.std.proofs.Common.{ap, subst, List, sym, ◌∙◌}
use mathlib.Core.List.{IsPrefix}
use Rattle.entry_log.specs.declared.append.Append.{Append}
use Rattle.entry_log.proofs.Grown.{begins_where_counted}
use Rattle.entry_log.proofs.front.Front.begins.Goals as goal

pub returns-clause-prefix : goal.returns-clause-prefix
returns-clause-prefix c is =
    let both = c.learn.new.self.log in
    let this : IsPrefix c.self.inside.seen.log both = subst (λ (l : List Append). IsPrefix l both) (ap (λ s. s.log) c.again-both.ensures) c.learn.ensures.2 in
    rw (← c.self.view_is, ← c.other.view_is)
    (begins_where_counted both c.self.inside.seen.log c.other.inside.seen.log c.self.inside.appends c.other.inside.appends
    c.self.invariant.0 c.other.invariant.0 this c.learn.ensures.3 (rw (← c.self.view_is, ← c.other.view_is) at (sym c.goes_on_to.ensures ∙ is)))
