use Rattle.std.proofs.Common.{IsTrue, arith}
use Rattle.std.proofs.lemmas.Grind.{moves, common_steps}
use Rattle.addr_text.proofs.Parsed.{no_pair_first, no_pair_last, no_pair_order}
use Rattle.addr_text.proofs.range.read_first_to_last.Goals as goal

pub returns-in_err-first-2-clause-none : goal.returns-in_err-first-2-clause-none
returns-in_err-first-2-clause-none c =
    let parts = c.in_ok-first.ensures in
    rw c.from_residual-in_err-first-2.ensures (no_pair_first _ _ _ parts.parts parts.first c.in_err-first-2.ensures.none)

pub returns-in_err-last-clause-none : goal.returns-in_err-last-clause-none
returns-in_err-last-clause-none c =
    let parts = c.in_ok-first.ensures in
    rw c.from_residual-in_err-last.ensures (no_pair_last _ _ _ parts.parts parts.first c.in_err-last.ensures.none)

pub returns-then-not-in_order-clause-none : goal.returns-then-not-in_order-clause-none
returns-then-not-in_order-clause-none c =
    let parts = c.in_ok-first.ensures in
    no_pair_order _ _ _ parts.parts parts.first _ _ c.in_ok-first-2.ensures.some c.in_ok-last.ensures.some
    λ both. let ordered : IsTrue c.in_order.result = c.in_order.ensures.1 both in absurd (cc)

pub returns-in_err-first-clause-none : goal.returns-in_err-first-clause-none
returns-in_err-first-clause-none c = grind (arith, moves)

pub between-requires-clause-ordered : goal.between-requires-clause-ordered
between-requires-clause-ordered c = grind (arith, common_steps)

pub returns-clause-some : goal.returns-clause-some
returns-clause-some c = grind (arith, common_steps)
