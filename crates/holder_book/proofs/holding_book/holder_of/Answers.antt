use Rattle.std.proofs.Common.{rules}
use Rattle.holder_book.proofs.holding_book.holder_of.Goals as goal

pub returns-in-Allocated : goal.returns-in-Allocated
returns-in-Allocated c = search rules
