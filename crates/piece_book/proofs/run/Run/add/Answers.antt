use Rattle.std.proofs.Common.{refl, ap, Some}
use Rattle.reg_entry.specs.declared.piece.Piece.{Piece}
use Rattle.piece_book.proofs.Collecting.{noted}
use Rattle.piece_book.proofs.run.Run.add.Goals as goal

pub returns : goal.returns
returns c =
    λ ps run.
    noted ps c.args.piece.now _ _ _ _ _ _ _ _ (ap (λ (p : Piece). Some p) c.unwrap_or.ensures) refl refl c.keep_few.ensures run
