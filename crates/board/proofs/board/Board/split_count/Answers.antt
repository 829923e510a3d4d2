use Rattle.std.proofs.Common.{◌<◌, ◌≤◌, ◌+◌, ◌∙◌, ap, sym, subst, arith}
use Rattle.reg_entry.specs.Partition.{IsPartition, piece_count}
use Rattle.board.proofs.Splitting.{split_adds, split_at_first, split_outside}
use Rattle.board.proofs.board.Board.split_count.Goals as goal

pub overflow_add-result : goal.overflow_add-result
overflow_add-result c =
    let bounds = c.is_whole.ensures.rooms.pieces in
    let most = bounds.1 in
    let same = c.pieces.ensures.room in
    omega arith

pub returns-in-Some : goal.returns-in-Some
returns-in-Some c =
    let lt : c.in-Some.piece.range.first < c.args.at.value = omega arith in
    ap (λ n. n + 1) (c.pieces-pieces.ensures.count ∙ ap piece_count c.pieces.ensures.pool)
    ∙ sym (split_adds c.args.self.now.register.pool c.args.at c.in-Some.piece (subst IsPartition c.pieces.ensures.pool c.pieces-pieces.ensures.valid)
    (sym c.requires.is ∙ c.in-Some.is) lt)

pub returns-in_default : goal.returns-in_default
returns-in_default c =
    let le : c.args.at.value ≤ c.in-Some.piece.range.first = omega arith in
    c.pieces-pieces.ensures.count ∙ ap piece_count c.pieces.ensures.pool
    ∙ sym (split_at_first c.args.self.now.register.pool c.args.at c.in-Some.piece (subst IsPartition c.pieces.ensures.pool c.pieces-pieces.ensures.valid)
    (sym c.requires.is ∙ c.in-Some.is) le)

pub returns-in_default-2 : goal.returns-in_default-2
returns-in_default-2 c =
    c.pieces-pieces.ensures.count ∙ ap piece_count c.pieces.ensures.pool
    ∙ sym (split_outside c.args.self.now.register.pool c.args.at (subst IsPartition c.pieces.ensures.pool c.pieces-pieces.ensures.valid)
    (sym c.requires.is ∙ c.in_default.is))
