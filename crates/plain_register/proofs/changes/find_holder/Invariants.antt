use Rattle.std.proofs.Common.{◌≡◌, find, drop}
use Rattle.reg_entry.specs.Holders.{has_handle}
use Rattle.plain_register.proofs.changes.find_holder.Given as goal

abbrev pub invariant-loop-member : goal.invariant-loop-member
invariant-loop-member l = find (has_handle l.handle) (drop l.member-index l.holders) ≡ find (has_handle l.handle) l.holders
