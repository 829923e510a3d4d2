use Rattle.std.proofs.Common.{arith, length-take, rules}
use Rattle.registry_main.proofs.Front.{front_ended, front_full}
use Rattle.registry_main.proofs.policy_bytes.read_front.Goals.{else-pieces-test, then-pieces-test+in-Ok-eq0}
use Rattle.registry_main.proofs.policy_bytes.read_front.Goals as goal

pub returns-clause-front : goal.returns-clause-front
returns-clause-front g c = elim c.pieces-test.branch [
  | else-pieces-test w ↦ front_full _ _ _ c.pieces.invariant.consumed (omega (arith, c.pieces.bytes.ok))
  | then-pieces-test+in-Ok-eq0 w ↦
      front_ended _ _ _ _ c.pieces.invariant.consumed
      (rw w.in-Ok-eq0.field-0-test at w.in-Ok-eq0.ensures.left.0)
      (w.in-Ok-eq0.ensures.left.1 w.in-Ok-eq0.field-0-test (omega (arith, length-take w.min-most.result c.pieces.piece)))
      c.pieces.invariant.within
]

pub returns-in-Err-clause-read_told : goal.returns-in-Err-clause-read_told
returns-in-Err-clause-read_told g c = search rules
