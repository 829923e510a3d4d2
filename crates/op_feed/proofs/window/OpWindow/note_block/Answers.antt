use Rattle.std.proofs.Common.{List, length, ◌+◌, ◌-◌, ap, refl, ◌∙◌}
use Rattle.reg_entry.specs.declared.object.Object.TheVariants.{Block}
use Rattle.reg_entry.specs.Op.{PlainOp}
use Rattle.op_feed.specs.declared.noted.Brief.TheVariants.{Block as BriefBlock}
use Rattle.op_feed.specs.Briefs.{object_of}
use Rattle.op_feed.specs.Window.{PlainOperations, noted}
use Rattle.op_feed.proofs.Briefs.{kept_more, window_more}
use Rattle.op_feed.proofs.window.OpWindow.note_block.Goals as goal

pub invariant_of-self : goal.invariant_of-self
invariant_of-self c =
    let w = c.self.inside in
    rw c.push_back.ensures.items
    (window_more w.serial w.noted.items _ w.noted.capacity w.org_count w.orgs.items w.orgs.capacity w.cut_count w.cuts.items w.cuts.capacity c.self.invariant refl refl)

pub returns : goal.returns
returns c =
    let w = c.self.inside in
    let kept = kept_more w.serial w.noted.capacity w.noted.items (record { act = c.args.act; brief = BriefBlock c.args.piece.now.range c.args.piece.now.card.status c.args.handle c.args.piece.now.card.day c.args.piece.now.card.until })
    (object_of (w.org_count - length w.orgs.items) w.orgs.items (w.cut_count - length w.cuts.items) w.cuts.items) c.self.invariant.few in
    rw c.push_back.ensures.items
    (ap (λ (ops : List PlainOp). let v : PlainOperations = record { serial = w.serial + 1; kept = ops; window = w.noted.capacity } in v) kept
    ∙ ap (λ (v : PlainOperations). noted v (c.args.act, Block c.args.piece.now.range c.args.piece.now.card.status c.args.handle c.args.piece.now.card.day c.args.piece.now.card.until)) c.self.view_is)
