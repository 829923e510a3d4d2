use Rattle.op_feed.proofs.Boards.{register_of, reached_is_whole}
use Rattle.op_feed.proofs.laws.reached_boards_are_whole.Goals as goal

pub returns : goal.returns
returns c = record { register = register_of; whole = reached_is_whole }
