use Rattle.std.proofs.Common.{◌≡◌}
use mathlib.Core.List.{IsPrefix}
use Rattle.reg_entry.specs.Next.{IsLegal}
use Rattle.desk_book.proofs.locked.settle_for.Given as goal

-- the book has the entries that it had, and the pass has seen those that it had seen, and was not shut
abbrev pub invariant-loop : goal.invariant-loop
invariant-loop g l = record {
  next : (goal.iterator-loop g).can_next l.iterator' × (goal.iterator-loop g).is_finite l.iterator';
  entries : l.book.entries ≡ l.fn.book.entries;
  same_book : (l.book.book ≡ l.fn.book.book) × (l.book.rooms ≡ l.fn.book.rooms);
  seen : IsPrefix l.fn.pass.entries l.pass.entries;
  legal : IsLegal l.pass.rooms l.pass.entries;
  shuts : l.pass.shuts ≡ l.fn.pass.shuts;
  same : (l.pass.book ≡ l.fn.pass.book) × (l.pass.rooms ≡ l.fn.pass.rooms);
}
