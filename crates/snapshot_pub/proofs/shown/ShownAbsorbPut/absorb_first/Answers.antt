use Rattle.std.proofs.Common.{◌≡◌, ap, ◌∙◌}
use Rattle.reg_entry.specs.Operations.{PlainBoard}
use Rattle.entry_log.specs.Front.{PlainFront}
use Rattle.snapshot_pub.specs.Shown.{PlainShown}
use Rattle.snapshot_pub.specs.Absorbing.{board_if_next}
use Rattle.snapshot_pub.proofs.shown.ShownAbsorbPut.absorb_first.Goals as goal

pub returns-clause-absorbed : goal.returns-clause-absorbed
returns-clause-absorbed c =
    let e = c.args.operation.now.entry in
    let b : c.take_in.new.board ≡ board_if_next c.args.self.now.board e = c.take_in.ensures ∙ ap (λ (s : PlainShown). board_if_next s.board e) c.self.view_is in
    ap (λ (x : PlainBoard). record { board = x; front = c.again.result }) b
    ∙ ap (λ (f : PlainFront). record { board = board_if_next c.args.self.now.board e; front = f }) c.again.ensures
