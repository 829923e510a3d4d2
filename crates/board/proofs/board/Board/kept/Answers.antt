use Rattle.std.proofs.Common.{arith}
use Rattle.board.specs.Kept.{board_of}
use Rattle.board.proofs.Steps.{register_in}
use Rattle.board.proofs.board.Board.kept.Goals as goal

pub serials-requires : goal.serials-requires
serials-requires c =
    let most = c.reached_boards_number_operations.ensures.bound (board_of (register_in c.self.inside) c.self.inside.operations) c.self.invariant.books.rooms c.self.invariant.board in
    omega arith
