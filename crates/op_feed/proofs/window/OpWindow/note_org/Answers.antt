use Rattle.std.proofs.Common.{List, ◌+◌, ap, refl, ◌∙◌}
use Rattle.reg_entry.specs.declared.object.Object.TheVariants.{Org}
use Rattle.reg_entry.specs.Op.{PlainOp}
use Rattle.op_feed.specs.declared.noted.Brief.TheVariants.{Org as BriefOrg}
use Rattle.op_feed.specs.Window.{PlainOperations, noted}
use Rattle.op_feed.proofs.Briefs.{kept_org, window_org}
use Rattle.op_feed.proofs.window.OpWindow.note_org.Goals as goal

pub invariant_of-self : goal.invariant_of-self
invariant_of-self c =
    let w = c.self.inside in
    rw (c.push_back.ensures.items, c.push_back-2.ensures.items)
    (window_org w.serial w.noted.items (record { act = c.args.act; brief = BriefOrg w.org_count }) w.noted.capacity
    w.org_count w.orgs.items w.orgs.capacity w.cut_count w.cuts.items w.cuts.capacity c.self.invariant (c.args.holder.now, c.args.day) refl refl)

pub returns : goal.returns
returns c =
    let w = c.self.inside in
    let kept = kept_org w.serial w.noted.items (record { act = c.args.act; brief = BriefOrg w.org_count }) w.noted.capacity
    w.org_count w.orgs.items w.orgs.capacity w.cut_count w.cuts.items w.cuts.capacity c.self.invariant (c.args.holder.now, c.args.day) refl in
    rw (c.push_back.ensures.items, c.push_back-2.ensures.items)
    (ap (λ (ops : List PlainOp). let v : PlainOperations = record { serial = w.serial + 1; kept = ops; window = w.noted.capacity } in v) kept
    ∙ ap (λ (v : PlainOperations). noted v (c.args.act, Org c.args.holder.now c.args.day)) c.self.view_is)
