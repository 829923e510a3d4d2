use Rattle.std.proofs.Common.{◌<◌, ◌^◌, List, sym, subst}
use Rattle.reg_entry.specs.declared.piece.Piece.{Piece}
use Rattle.reg_entry.specs.Sums.{status_sum}
use Rattle.piece_book.proofs.Totals.{sum_fits}
use Rattle.piece_book.proofs.space_book.SpaceBook.sum.Goals as goal

pub status_sum-requires : goal.status_sum-requires
status_sum-requires c =
    subst (λ (xs : List Piece). status_sum xs c.args.status < 2 ^ 128) (sym c.walk.ensures.pieces)
    (sum_fits c.args.self.now.space c.args.self.now.pieces c.args.status c.walk.ensures.valid)
