use Rattle.std.proofs.Common.{◌≡◌, take}
use Rattle.entry_log.proofs.log.open_with.Given as goal

-- the entries so far are in the log
abbrev pub invariant-loop-e : goal.invariant-loop-e
invariant-loop-e l = (l.front.book ≡ l.log-inside.head.book) × (l.front.entries ≡ take l.e-index l.list)
