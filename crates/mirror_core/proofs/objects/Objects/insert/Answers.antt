use Rattle.std.proofs.Common.{◌∙◌}
use Rattle.mirror_core.proofs.KeyOrder.{inserted}
use Rattle.mirror_core.proofs.objects.Objects.insert.Goals as goal

pub returns-clause-ok : goal.returns-clause-ok
returns-clause-ok c = rw (← c.self.view_is) (c.in_ok-insert.ensures.entries ∙ inserted c.keys_are_in_order.ensures.keys _ c.args.key c.args.attributes)
