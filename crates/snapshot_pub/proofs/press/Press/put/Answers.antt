use Rattle.std.proofs.Common.{◌≡◌, ◌++◌, ◌∷◌, [], List, take, length, drop, sym, ap, subst, ◌∙◌, arith}
use Rattle.std.proofs.lemmas.Grind.{common_steps, moves}
use Rattle.left_right.specs.Sides.{view}
use Rattle.reg_entry.specs.Entry.{PlainEntry}
use Rattle.reg_entry.specs.Register.{register_after}
use Rattle.reg_entry.specs.Next.{IsNextEntry}
use Rattle.entry_log.specs.Front.{PlainFront}
use Rattle.snapshot_pub.specs.Press.{PlainPress, IsPressed, IsBehind}
use Rattle.snapshot_pub.proofs.Pressing.{put_more, behind_itself}
use Rattle.snapshot_pub.proofs.press.Press.put.Goals as goal

pub invariant_of-self : goal.invariant_of-self
invariant_of-self c =
    let e = c.args.e.now in
    let put = c.self.inside.put in
    let tip = c.add.new.self in
    let behind = c.self.invariant.0 in
    let writer = c.self.inside.writer in
    let next : IsNextEntry (register_after c.self.inside.rooms put.entries) e = subst (λ (p : PlainPress). IsNextEntry (register_after p.rooms p.put) e) (sym c.self.view_is) c.requires.next in
    let book : tip.book ≡ put.book = c.if-not-add.ensures.book ∙ (ap (λ (f : PlainFront). f.book) c.again-tip.ensures ∙ behind.tip_is) in
    let kept : take c.entries.result c.again-tip.result.entries ≡ put.entries =
    ap (λ n. take n c.again-tip.result.entries) c.entries.ensures ∙ (ap (λ (f : PlainFront). take (length put.entries) f.entries) c.again-tip.ensures ∙ behind.begins) in
    let entries : tip.entries ≡ put.entries ++ e ∷ [] = c.if-not-add.ensures.entries ∙ ap (λ (es : List PlainEntry). es ++ e ∷ []) kept in
    let more : IsPressed writer.desk.shown.value (view writer.desk.place) (drop writer.behind writer.log.items ++ record { entry = e; front = tip } ∷ []) tip c.self.inside.rooms =
    put_more writer.desk.shown.value (view writer.desk.place) (drop writer.behind writer.log.items) put c.self.inside.rooms e tip
    c.entries_reach_boards.ensures.more c.reached_boards_are_whole.ensures.register c.self.invariant.1 next entries book in (
      subst (λ (f : PlainFront). IsBehind c.self.inside.log f tip) (sym c.again.ensures) (behind_itself c.self.inside.log tip (behind.log_is ∙ sym book)),
      rw (c.in-Ok.ensures.desk, c.in-Ok.ensures.pending, c.again-2.ensures) more,
    )

pub invariant_of-self-in-Err-1 : goal.invariant_of-self-in-Err-1
invariant_of-self-in-Err-1 c = grind (arith, common_steps)

pub returns-in-Ok-clause-put : goal.returns-in-Ok-clause-put
returns-in-Ok-clause-put c = grind (arith, moves)

pub returns-in-Ok-clause-published : goal.returns-in-Ok-clause-published
returns-in-Ok-clause-published c = grind (arith, moves)

pub returns-in-Err-clause-put : goal.returns-in-Err-clause-put
returns-in-Err-clause-put c = grind (arith, moves)
