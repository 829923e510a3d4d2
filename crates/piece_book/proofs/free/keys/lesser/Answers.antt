use Rattle.std.proofs.Common.{rules}
use Rattle.piece_book.proofs.free.keys.lesser.Goals as goal

pub returns-in-Some : goal.returns-in-Some
returns-in-Some c = search rules
