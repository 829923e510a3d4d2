use Rattle.std.proofs.Common.{sym, subst}
use Rattle.snapshot_pub.specs.Rule.{GoesOn}
use Rattle.snapshot_pub.proofs.Rules.{turns}
use Rattle.snapshot_pub.proofs.press.published.Goals as goal

pub publish_as-writer-requires : goal.publish_as-writer-requires
publish_as-writer-requires g c next is =
    let now = c.args.writer.desk.shown.value in
    turns _ _ now next (λ own. subst (GoesOn now) (sym is) (c.requires.going own))
