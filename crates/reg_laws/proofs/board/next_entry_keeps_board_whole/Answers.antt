use Rattle.reg_laws.proofs.Boards.{next_board_whole}
use Rattle.reg_laws.proofs.board.next_entry_keeps_board_whole.Goals as goal

pub returns : goal.returns
returns c = next_board_whole
