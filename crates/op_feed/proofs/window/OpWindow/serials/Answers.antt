use Rattle.std.proofs.Common.{ap, arith, length}
use Rattle.op_feed.specs.Window.{PlainOperations}
use Rattle.op_feed.proofs.Briefs.{length_kept}
use Rattle.op_feed.proofs.window.OpWindow.serials.Goals as goal

pub returns-clause-first : goal.returns-clause-first
returns-clause-first c =
    let w = c.self.inside in
    let kept = length_kept w.serial w.noted.items w.org_count w.orgs.items w.cut_count w.cuts.items in
    let seen = ap (λ (v : PlainOperations). length v.kept) c.self.view_is in
    let serial = ap (λ (v : PlainOperations). v.serial) c.self.view_is in
    omega (arith, kept, seen, serial, c.len.ensures.len)
