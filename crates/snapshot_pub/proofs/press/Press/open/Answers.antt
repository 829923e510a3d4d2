use Rattle.std.proofs.Common.{◌≡◌, List, fold, sym, subst, ap, ◌∙◌}
use Rattle.op_feed.specs.ReachedBoard.{IsBoardOf}
use Rattle.entry_log.specs.Front.{PlainFront}
use Rattle.snapshot_pub.specs.declared.put.Put.{Put}
use Rattle.snapshot_pub.specs.Shown.{PlainShown, IsOfItsList}
use Rattle.snapshot_pub.specs.Absorbing.{applied}
use Rattle.snapshot_pub.specs.Press.{IsBehind}
use Rattle.snapshot_pub.proofs.Rules.{begins}
use Rattle.snapshot_pub.proofs.Pressing.{going_nowhere, pressed_first, behind_itself}
use Rattle.snapshot_pub.proofs.press.Press.open.Goals as goal

pub new-requires-clause-rule : goal.new-requires-clause-rule
new-requires-clause-rule g c =
    begins (record { board = c.args.one; front = c.again.result }) (subst (λ (f : PlainFront). IsBoardOf c.args.one f.entries) (sym c.again.ensures) c.requires.list)

pub published-writer-requires : goal.published-writer-requires
published-writer-requires g c = record { going = λ own. going_nowhere _ _ c.in_ok-writer.ensures.1 own }

pub invariant_of-result : goal.invariant_of-result
invariant_of-result g c =
    let first : PlainShown = record { board = c.args.one; front = c.again.result } in
    let own : IsOfItsList first = subst (λ (f : PlainFront). IsBoardOf c.args.one f.entries) (sym c.again.ensures) c.requires.list in
    let writer = c.in_ok-writer.writer in
    let is : c.published-writer.result.desk.shown.value ≡ first =
    c.published-writer.ensures.shown ∙ (ap (λ (m : List Put). fold applied writer.desk.shown.value m) c.in_ok-writer.ensures.1 ∙ c.in_ok-writer.ensures.0) in (
      subst (λ (f : PlainFront). IsBehind c.args.log f c.args.front) (sym c.again-3.ensures) (behind_itself c.args.log c.args.front c.requires.log),
      pressed_first first c.args.front c.rooms-rooms.result _ _ _ own c.again.ensures (sym c.rooms-rooms.ensures.rooms) is c.published-writer.ensures.pending c.published-writer.ensures.view,
    )
