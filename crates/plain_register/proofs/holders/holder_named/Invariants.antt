use Rattle.std.proofs.Common.{◌≡◌, drop}
use Rattle.reg_entry.specs.Holders.{holder_named}
use Rattle.plain_register.proofs.holders.holder_named.Given as goal

abbrev pub invariant-loop-m : goal.invariant-loop-m
invariant-loop-m l = holder_named (drop l.m-index l.holders) l.handle ≡ holder_named l.holders l.handle
