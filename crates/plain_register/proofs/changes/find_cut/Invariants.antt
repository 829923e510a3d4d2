use Rattle.std.proofs.Common.{◌≡◌, drop}
use Rattle.plain_register.specs.Changes.{found_cut}
use Rattle.plain_register.proofs.changes.find_cut.Given as goal

abbrev pub invariant-loop-entry : goal.invariant-loop-entry
invariant-loop-entry l = found_cut (drop l.entry-index l.reverses) l.block ≡ found_cut l.reverses l.block
