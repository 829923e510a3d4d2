use Rattle.std.proofs.Common.{rules}
use Rattle.desk_book.proofs.book.Book.enter.Goals as goal

pub invariant_of-self-in-Ok-put : goal.invariant_of-self-in-Ok-put
invariant_of-self-in-Ok-put g c = search rules
