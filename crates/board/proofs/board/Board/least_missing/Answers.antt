use Rattle.std.proofs.Common.{◌<◌, ◌+◌, sym, ◌∙◌, ap, subst, arith}
use Rattle.reg_entry.specs.Partition.{IsPartition}
use Rattle.reg_entry.specs.Register.{register_pieces, piece_of}
use Rattle.board.proofs.Missing.{missing_behind, missing_past}
use Rattle.board.proofs.board.Board.least_missing.Goals as goal

pub returns-then-last-end-clause-value : goal.returns-then-last-end-clause-value
returns-then-last-end-clause-value c =
    let valid = (subst IsPartition c.pieces-2.ensures.pool c.are_pieces.ensures.pieces).each c.space-space.result in
    let past : c.last-last.result < c.in-Some.piece.range.last + 1 = omega arith in
    sym (missing_past (register_pieces c.args.self.now.register c.space-space.result) (c.in-Some.piece.range.last + 1) c.last-last.result past)
    ∙ sym (missing_behind c.space-space.result 0 (register_pieces c.args.self.now.register c.space-space.result) c.pieces.value c.last-last.result c.in-Some.piece
    valid.rises valid.each
    (ap (piece_of c.args.self.now.register.pool) (sym c.of.ensures) ∙ sym c.piece_of.ensures.piece ∙ c.in-Some.is))
    ∙ c.pieces.invariant.1
