use Rattle.std.proofs.Common.{sym, ◌∙◌, ap}
use Rattle.std.specs.Option.{is_some}
use Rattle.reg_laws.proofs.HolderFacts.{none_with_handle}
use Rattle.op_feed.proofs.NextChanges.{named}
use Rattle.board.proofs.operations.holder_named.Goals as goal

pub returns-in-Some : goal.returns-in-Some
returns-in-Some c =
    let m = named c.args.holders.now.holders c.args.handle.now c.in-Some.number (sym c.by_handle.ensures.number ∙ c.in-Some.is) in
    sym c.holder.ensures.holder ∙ m.at ∙ sym m.found

pub returns-in-None : goal.returns-in-None
returns-in-None c =
    sym (none_with_handle c.args.holders.now.holders c.args.handle.now (ap is_some (sym c.by_handle.ensures.number ∙ c.in-None.is)))
