use Rattle.std.proofs.Common.{◌≤◌, sym, ◌∙◌, ap, subst, arith}
use Rattle.reg_entry.specs.Decision.{outside_at}
use Rattle.reg_entry.specs.Partition.{IsPartition}
use Rattle.reg_entry.specs.Register.{register_pieces}
use Rattle.board.proofs.Missing.{none_missing}
use Rattle.board.proofs.board.Board.outside_pool.Goals as goal

pub returns-then-last : goal.returns-then-last
returns-then-last c =
    let range = c.args.range.now in
    let valid = (subst IsPartition c.pieces.ensures.pool c.are_pieces.ensures.pieces).each range.space in
    let within : range.last ≤ c.in-Some.piece.range.last = omega arith in
    sym (ap (outside_at range.space)
    (none_missing range.space (register_pieces c.args.self.now.register range.space) range.first range.last c.in-Some.piece valid.rises valid.each
    (sym c.requires ∙ c.in-Some.is) within))
