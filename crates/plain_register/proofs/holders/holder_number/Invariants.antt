use Rattle.std.proofs.Common.{◌≡◌, ◌+◌, drop}
use Rattle.std.specs.List.{position_or_len}
use Rattle.reg_entry.specs.Holders.{has_handle}
use Rattle.plain_register.proofs.holders.holder_number.Given as goal

abbrev pub invariant-loop-i : goal.invariant-loop-i
invariant-loop-i l = l.i + position_or_len (has_handle l.handle) (drop l.i l.holders) ≡ position_or_len (has_handle l.handle) l.holders
