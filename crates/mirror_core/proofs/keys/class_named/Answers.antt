use Rattle.std.proofs.Common.{sym}
use Rattle.mirror_core.proofs.Classes.{differs, none_named}
use Rattle.mirror_core.proofs.keys.class_named.Goals as goal

pub returns-else-eq-6 : goal.returns-else-eq-6
returns-else-eq-6 c =
    sym (none_named c.args.name.now (differs _ _ _ _ c.eq.ensures c.as_slice.ensures c.if-eq.false)
    (differs _ _ _ _ c.eq-else-eq.ensures c.as_slice-else-eq.ensures c.if-eq-2.false)
    (differs _ _ _ _ c.eq-else-eq-2.ensures c.as_slice-else-eq-2.ensures c.if-eq-3.false)
    (differs _ _ _ _ c.eq-else-eq-3.ensures c.as_slice-else-eq-3.ensures c.if-eq-4.false)
    (differs _ _ _ _ c.eq-else-eq-4.ensures c.as_slice-else-eq-4.ensures c.if-eq-5.false)
    (differs _ _ _ _ c.eq-else-eq-5.ensures c.as_slice-else-eq-5.ensures c.if-eq-6.false))
