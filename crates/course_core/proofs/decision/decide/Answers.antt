use Rattle.std.proofs.Common.{sym, ◌∙◌}
use Rattle.std.proofs.lemmas.Option.{none-some}
use Rattle.reg_entry.specs.Covers.{IsLeastCover}
use Rattle.reg_entry.specs.Decision.{decision}
use Rattle.reg_entry.specs.Next.{IsNextEntry}
use Rattle.course_core.proofs.Refusals.{refused_is, late_is, accepted_is, of_accepted}
use Rattle.course_core.proofs.decision.decide.Goals as goal

pub returns-in-Some-clause-decision : goal.returns-in-Some-clause-decision
returns-in-Some-clause-decision c =
    sym (refused_is c.args.register.now c.args.policy.now c.args.day c.args.who.now c.args.request.now c.in-Some.refusal
    (sym c.first_refusal.ensures.refusal ∙ c.in-Some.is))

pub returns-in-None-clause-next : goal.returns-in-None-clause-next
returns-in-None-clause-next c =
    let r = c.args.register.now in
    let whole = c.is_whole.ensures.whole in
    let e = c.proposed_entry-entry.result in
    of_accepted (decision r c.args.policy.now c.args.day c.args.who.now c.args.request.now) e (IsNextEntry r)
    (c.accepted_may_come_next.ensures.next r c.args.policy.now c.args.day c.args.who.now c.args.request.now
    whole.pieces whole.days.1 c.is_well_formed.ensures.rows c.has_ranges.ensures)
    (accepted_is r c.args.policy.now c.args.day c.args.who.now c.args.request.now e
    (sym c.first_refusal.ensures.refusal ∙ c.in_default.is) c.proposed_entry-entry.ensures.entry (sym c.late_refusal.ensures.refusal ∙ c.in-None.is))

pub returns-in-None-clause-least : goal.returns-in-None-clause-least
returns-in-None-clause-least c =
    let r = c.args.register.now in
    let whole = c.is_whole.ensures.whole in
    let e = c.proposed_entry-entry.result in
    of_accepted (decision r c.args.policy.now c.args.day c.args.who.now c.args.request.now) e (λ x. IsLeastCover r x.request x.cover)
    (c.accepted_may_come_next.ensures.least r c.args.policy.now c.args.day c.args.who.now c.args.request.now
    whole.pieces whole.days.1 c.is_well_formed.ensures.rows c.has_ranges.ensures)
    (accepted_is r c.args.policy.now c.args.day c.args.who.now c.args.request.now e
    (sym c.first_refusal.ensures.refusal ∙ c.in_default.is) c.proposed_entry-entry.ensures.entry (sym c.late_refusal.ensures.refusal ∙ c.in-None.is))

pub returns-in-Some-late_refusal-clause-accepted : goal.returns-in-Some-late_refusal-clause-accepted
returns-in-Some-late_refusal-clause-accepted c none =
    absurd (none-some c.in-Some-late_refusal.refusal
    (sym none
    ∙ late_is c.args.register.now c.args.policy.now c.args.day c.args.who.now c.args.request.now c.proposed_entry-entry.result
    (sym c.first_refusal.ensures.refusal ∙ c.in_default.is) c.proposed_entry-entry.ensures.entry
    ∙ sym c.late_refusal.ensures.refusal ∙ c.in-Some-late_refusal.is))
