use Rattle.op_feed.proofs.Boards.{serial_few, kept_few, kept_serials}
use Rattle.op_feed.proofs.laws.reached_boards_number_operations.Goals as goal

pub returns : goal.returns
returns c = record { bound = serial_few; few = kept_few; serials = kept_serials }
