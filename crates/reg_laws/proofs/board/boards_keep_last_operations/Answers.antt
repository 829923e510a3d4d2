use Rattle.reg_laws.proofs.Boards.{board_register, board_serial, board_kept}
use Rattle.reg_laws.proofs.board.boards_keep_last_operations.Goals as goal

pub returns : goal.returns
returns c = record { register = board_register; serial = board_serial; kept = board_kept }
