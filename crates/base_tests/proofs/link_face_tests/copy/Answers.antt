use Rattle.std.proofs.Common.{◌++◌, take, arith}
use Rattle.std.proofs.KnownBytes.{Consumes-trans, Appends-trans}
use Rattle.base_tests.proofs.link_face_tests.copy.Goals as goal

pub loop-failed-preserved : goal.loop-failed-preserved
loop-failed-preserved g c =
    let before = c.loop-failed.invariant in (
      (
        before.0.0 ++ take c.in-Ok.count c.read.new.buf,
        Consumes-trans _ _ _ _ _ before.0.1 c.in-Ok.ensures.left.0,
        Appends-trans _ _ _ _ _ before.0.2 c.in_ok-write-in-Ok.ensures.ok,
      ),
      omega (arith, before.1, c.read.ensures.cause.kept),
      omega (arith, before.2, c.write.ensures.cause.kept),
    )
