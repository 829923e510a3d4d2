use Rattle.std.proofs.Common.{arith}
use Rattle.piece_book.proofs.Painted.{built}
use Rattle.piece_book.proofs.painting.note_seams.Goals as goal

pub line_up-requires-clause-ordered : goal.line_up-requires-clause-ordered
line_up-requires-clause-ordered c =
    let seams = c.seams_of-seams.ensures in
    omega (arith, seams.low, seams.high, seams.valid.0)

pub returns-clause-built : goal.returns-clause-built
returns-clause-built c =
    let seams = c.seams_of-seams.ensures in
    built c.args.book.now.pieces c.args.range.now c.args.card.now _ _ _ _ _ _ _ seams.pieces seams.valid.0 c.requires.plain c.requires.one seams.seams c.line_up.ensures
