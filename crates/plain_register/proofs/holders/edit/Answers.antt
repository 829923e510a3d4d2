use Rattle.std.proofs.Common.{sym, ◌∙◌, arith}
use Rattle.plain_register.proofs.Places.{edited_here, others_stay}
use Rattle.plain_register.proofs.holders.edit.Goals as goal
use Rattle.plain_register.proofs.holders.edit.Goals.{then-has_handle, else-has_handle}

pub loop-i-preserved : goal.loop-i-preserved
loop-i-preserved c =
    elim c.if-has_handle.branch [
      | then-has_handle w ↦
          rw w.holders-is (
            edited_here c.loop-i.holders.items c.args.holders.now.items c.loop-i.i c.args.holder.now c.args.day c.index.result.now (omega arith)
                c.loop-i.invariant.0 c.index.ensures (sym c.has_handle.ensures ∙ w.if-has_handle.true),
            c.loop-i.invariant.1,
          )
      | else-has_handle w ↦
          rw w.holders-is (
            others_stay c.loop-i.holders.items c.args.holders.now.items c.loop-i.i c.args.holder.now c.args.day c.index.result.now (omega arith)
                c.loop-i.invariant.0 c.index.ensures (sym c.has_handle.ensures ∙ w.if-has_handle.false),
            c.loop-i.invariant.1,
          )
    ]
