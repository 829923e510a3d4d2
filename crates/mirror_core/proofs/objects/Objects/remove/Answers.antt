use Rattle.std.proofs.Common.{◌∙◌}
use Rattle.mirror_core.proofs.KeyOrder.{removed}
use Rattle.mirror_core.proofs.objects.Objects.remove.Goals as goal

pub returns : goal.returns
returns c = rw (← c.self.view_is) (c.remove-gone.ensures.entries ∙ removed c.args.key.now _ c.len.ensures.ordered)
