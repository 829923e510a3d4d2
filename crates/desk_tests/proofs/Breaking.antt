-- What a fault of any kind may raise.
use Rattle.std.proofs.Common.{◌+◌, inl, arith}
use Rattle.hall.specs.declared.backend.Fault.{Fault}
use Rattle.hall.specs.declared.backend.Fault.TheVariants.{NoMemory, Shut, DiskFailed}
use Rattle.hall.specs.Standing.{Standing, standing, NoCountFalls, IsCausedBetween}

-- both counts are one higher
abbrev pub worse : Standing → Standing
worse s = standing s.entries (s.refusals + 1) (s.failures + 1)

no_fall : (s : Standing) → NoCountFalls s (worse s)
no_fall s = record { looks = omega arith; disk = omega arith }

pub caused : (fault : Fault) (s : Standing) → IsCausedBetween fault s (worse s)
caused NoMemory s = (no_fall s, tt)
caused Shut s = (no_fall s, inl (omega arith))
caused DiskFailed s = (no_fall s, inl (omega arith))
