use Rattle.load_run.proofs.Legal.{reached_by_load}
use Rattle.load_run.proofs.laws.loads_are_legal.Goals as goal

pub returns : goal.returns
returns c rooms p who seed count policy =
    reached_by_load c.accepted_may_come_next.ensures.next c.entries_reach_registers.ensures.empty c.entries_reach_registers.ensures.next
    c.reached_registers_are_whole.ensures rooms p who seed count policy
