use Rattle.std.proofs.Common.{ℕ, ◌∙◌, ap, drop, arith}
use Rattle.piece_book.proofs.Finding.{none_begun}
use Rattle.piece_book.proofs.space_book.SpaceBook.walk.Goals as goal

pub returns-clause-pieces : goal.returns-clause-pieces
returns-clause-pieces c =
    c.walk_from.ensures.pieces
    ∙ ap (λ (n : ℕ). drop n c.args.self.now.pieces) (none_begun 0 0 c.args.self.now.pieces c.walk_from.ensures.valid.rises (omega arith))
