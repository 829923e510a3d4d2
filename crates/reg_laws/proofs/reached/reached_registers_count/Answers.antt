use Rattle.reg_laws.proofs.Reaching.{reached_count, reached_first_day, reached_last_day}
use Rattle.reg_laws.proofs.reached.reached_registers_count.Goals as goal

pub returns : goal.returns
returns c = record { entries = reached_count; first_day = reached_first_day; last_day = reached_last_day }
