use Rattle.std.proofs.Common.{sym, ap, ◌∙◌}
use Rattle.std.proofs.lemmas.Option.{none-some}
use Rattle.reg_entry.specs.declared.entry.Reply.TheVariants.{Accepted}
use Rattle.reg_entry.specs.Covers.{IsLeastCover}
use Rattle.reg_entry.specs.Decision.{decision}
use Rattle.reg_entry.specs.Entry.{PlainEntry}
use Rattle.reg_entry.specs.Next.{IsNextEntry}
use Rattle.request_core.proofs.Refusals.{late_is, accepted_is, refused_late_is, of_accepted}
use Rattle.request_core.proofs.decision.decide_on_day.Goals as goal

pub returns-clause-decision : goal.returns-clause-decision
returns-clause-decision c =
    let x = c.propose-proposal.result in
    let e : PlainEntry = record { seq = x.seq; day = x.day; who = c.args.who.now; request = c.args.request.now; cover = x.cover; card = x.card } in
    sym (accepted_is c.args.board.now.register c.args.policy.now c.args.day c.args.who.now c.args.request.now e
    c.requires.unopposed (c.propose-proposal.ensures.entry c.args.who.now) (sym c.late_refusal-late.ensures ∙ c.in_default.is))

pub returns-clause-accepted : goal.returns-clause-accepted
returns-clause-accepted c none = ap (λ (e : PlainEntry). Accepted e) (c.propose-proposal.ensures.entry c.args.who.now)

pub returns-clause-next : goal.returns-clause-next
returns-clause-next c =
    let r = c.args.board.now.register in
    let whole = c.is_whole.ensures.whole in
    let x = c.propose-proposal.result in
    let e : PlainEntry = record { seq = x.seq; day = x.day; who = c.args.who.now; request = c.args.request.now; cover = x.cover; card = x.card } in
    of_accepted (decision r c.args.policy.now c.args.day c.args.who.now c.args.request.now) e (IsNextEntry r)
    (c.accepted_may_come_next.ensures.next r c.args.policy.now c.args.day c.args.who.now c.args.request.now
    whole.pieces whole.days.1 c.is_well_formed.ensures.rows c.has_ranges.ensures)
    (accepted_is r c.args.policy.now c.args.day c.args.who.now c.args.request.now e
    c.requires.unopposed (c.propose-proposal.ensures.entry c.args.who.now) (sym c.late_refusal-late.ensures ∙ c.in_default.is))

pub returns-clause-least : goal.returns-clause-least
returns-clause-least c =
    let r = c.args.board.now.register in
    let whole = c.is_whole.ensures.whole in
    let x = c.propose-proposal.result in
    let e : PlainEntry = record { seq = x.seq; day = x.day; who = c.args.who.now; request = c.args.request.now; cover = x.cover; card = x.card } in
    of_accepted (decision r c.args.policy.now c.args.day c.args.who.now c.args.request.now) e (λ x. IsLeastCover r x.request x.cover)
    (c.accepted_may_come_next.ensures.least r c.args.policy.now c.args.day c.args.who.now c.args.request.now
    whole.pieces whole.days.1 c.is_well_formed.ensures.rows c.has_ranges.ensures)
    (accepted_is r c.args.policy.now c.args.day c.args.who.now c.args.request.now e
    c.requires.unopposed (c.propose-proposal.ensures.entry c.args.who.now) (sym c.late_refusal-late.ensures ∙ c.in_default.is))

pub returns-in-Some-clause-decision : goal.returns-in-Some-clause-decision
returns-in-Some-clause-decision c =
    let x = c.propose-proposal.result in
    let e : PlainEntry = record { seq = x.seq; day = x.day; who = c.args.who.now; request = c.args.request.now; cover = x.cover; card = x.card } in
    sym (refused_late_is c.args.board.now.register c.args.policy.now c.args.day c.args.who.now c.args.request.now e c.in-Some.refusal
    c.requires.unopposed (c.propose-proposal.ensures.entry c.args.who.now) (sym c.late_refusal-late.ensures ∙ c.in-Some.is))

pub returns-in-Some-clause-accepted : goal.returns-in-Some-clause-accepted
returns-in-Some-clause-accepted c none =
    let x = c.propose-proposal.result in
    let e : PlainEntry = record { seq = x.seq; day = x.day; who = c.args.who.now; request = c.args.request.now; cover = x.cover; card = x.card } in
    absurd (none-some c.in-Some.refusal
    (sym none
    ∙ late_is c.args.board.now.register c.args.policy.now c.args.day c.args.who.now c.args.request.now e
    c.requires.unopposed (c.propose-proposal.ensures.entry c.args.who.now)
    ∙ sym c.late_refusal-late.ensures ∙ c.in-Some.is))
