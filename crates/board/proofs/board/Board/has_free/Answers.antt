use Rattle.std.proofs.Common.{◌∙◌, ap}
use Rattle.reg_entry.specs.Register.{register_pieces, piece_of}
use Rattle.board.proofs.FreeBlocks.{free_at}
use Rattle.board.proofs.board.Board.has_free.Goals as goal

pub returns : goal.returns
returns c =
    c.reaches_free.ensures
    ∙ free_at 0 c.args.first c.args.last (register_pieces c.args.self.now.register c.args.space) c.piece_of.result
    (c.is_whole.ensures.whole.pieces.each c.args.space).rises c.requires.ordered
    (c.piece_of.ensures.piece ∙ ap (piece_of c.args.self.now.register.pool) c.of.ensures)
