use Rattle.std.proofs.Common.{length, arith}
use Rattle.page_dir.proofs.Halving.{four_first, four_alone}
use Rattle.page_dir.proofs.locating.rows_before.Goals as goal

pub returns-then-is_turn-clause-cost : goal.returns-then-is_turn-clause-cost
returns-then-is_turn-clause-cost g c = four_alone c.args.steps.now c.is_turn.new.steps (length c.args.rows.now) (omega (arith, c.is_turn.ensures.few))

pub returns-then-is_turn-2-clause-cost : goal.returns-then-is_turn-2-clause-cost
returns-then-is_turn-2-clause-cost g c =
    four_alone c.args.steps.now c.is_turn-2.new.steps (length c.args.rows.now) (omega (arith, c.is_turn.ensures.few, c.is_turn-2.ensures.few))

pub returns-clause-cost : goal.returns-clause-cost
returns-clause-cost g c =
    four_first c.args.steps.now c.is_turn-2.new.steps c.rows_by_halving.new.steps (length c.args.rows.now)
    (omega (arith, c.is_turn.ensures.counted, c.is_turn-2.ensures.counted)) (omega (arith, c.is_turn.ensures.few, c.is_turn-2.ensures.few))
    c.rows_by_halving.ensures.counted c.rows_by_halving.ensures.cost
