use Rattle.wire_http.proofs.Steps.{whole_head}
use Rattle.wire_http.proofs.head.Head.read.Goals as goal

pub returns-in-Whole-2-clause-none : goal.returns-in-Whole-2-clause-none
returns-in-Whole-2-clause-none c =
    λ h whole. c.if-size-bytes.false (whole_head c.args.bytes.now c.in-Whole.head c.in-Whole.size h c.in-Whole.ensures.0 c.in-Whole.ensures.1 whole)
