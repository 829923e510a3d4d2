use Rattle.snapshot_pub.proofs.Pressing.{pressed_all}
use Rattle.snapshot_pub.proofs.press.Press.publish.Goals as goal

pub invariant_of-self : goal.invariant_of-self
invariant_of-self g c = (c.self.invariant.0, pressed_all _ _ _ _ _ _ _ _ c.self.invariant.1 c.publish_all.ensures.shown c.publish_all.ensures.pending c.publish_all.ensures.view)
