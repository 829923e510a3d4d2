use Rattle.std.proofs.Common.{ap, sym, ◌∙◌}
use Rattle.mirror_core.specs.Mirror.{PlainMirror}
use Rattle.mirror_core.proofs.Feeding.{still_stopped}
use Rattle.mirror_core.proofs.mirror.Mirror.feed.Goals as goal

pub returns-in-Some : goal.returns-in-Some
returns-in-Some c =
    still_stopped c.args.self.now c.pass.new.self c.args.bytes.now c.in-Some.fault (ap (λ (m : PlainMirror). m.fault) (sym c.self.view_is) ∙ c.in-Some.is)
    c.pass.ensures.sound c.pass.ensures.passed
