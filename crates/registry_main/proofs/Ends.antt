-- The ends of a program differ. Each is said alone, since where a session is let go there are too many facts to look through.
use Rattle.std.proofs.Common.{◌≡◌}
use Rattle.registry_main.specs.declared.exit.Exit.{Exit}
use Rattle.registry_main.specs.declared.exit.Exit.TheVariants.{Done, ReadFault, WriteFault}

pub done_not_read : ◌≡◌ {A = Exit} Done ReadFault → ⊥
done_not_read e = cc

pub read_not_done : ◌≡◌ {A = Exit} ReadFault Done → ⊥
read_not_done e = cc

pub write_not_done : ◌≡◌ {A = Exit} WriteFault Done → ⊥
write_not_done e = cc

pub write_not_read : ◌≡◌ {A = Exit} WriteFault ReadFault → ⊥
write_not_read e = cc
