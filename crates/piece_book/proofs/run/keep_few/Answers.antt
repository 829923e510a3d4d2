use Rattle.std.proofs.Common.{sym, arith, [], ◌∷◌}
use Rattle.std.proofs.lemmas.List.{take_at}
use Rattle.piece_book.proofs.run.keep_few.Goals as goal

pub returns-then-len-eq3 : goal.returns-then-len-eq3
returns-then-len-eq3 c = sym (take_at c.args.few.now.items (c.args.piece.now ∷ []) 3 (omega arith))
