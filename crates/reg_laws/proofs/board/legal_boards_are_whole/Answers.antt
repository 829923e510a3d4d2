use Rattle.reg_laws.proofs.Boards.{legal_board_whole}
use Rattle.reg_laws.proofs.board.legal_boards_are_whole.Goals as goal

pub returns : goal.returns
returns c = legal_board_whole
