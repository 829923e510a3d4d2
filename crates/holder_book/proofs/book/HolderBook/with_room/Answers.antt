use Rattle.std.proofs.Common.{rules}
use Rattle.holder_book.proofs.book.HolderBook.with_room.Goals as goal

pub invariant_of-result : goal.invariant_of-result
invariant_of-result c = search rules
