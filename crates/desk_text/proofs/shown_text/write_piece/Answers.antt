use Rattle.std.proofs.Common.{rules}
use Rattle.desk_text.proofs.shown_text.write_piece.Goals as goal

pub returns-clause-text : goal.returns-clause-text
returns-clause-text c = search rules
