use Rattle.op_feed.proofs.Boards.{empty_reached, board_of_more, reached_next}
use Rattle.op_feed.proofs.laws.entries_reach_boards.Goals as goal

pub returns : goal.returns
returns c = record { empty = empty_reached; more = board_of_more; next = reached_next }
