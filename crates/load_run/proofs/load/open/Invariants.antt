use Rattle.std.proofs.Common.{◌≡◌, ◌≤◌, drop}
use Rattle.load_gen.specs.Load.{after_requests}
use Rattle.load_gen.specs.Opening.{opening_requests}
use Rattle.load_run.proofs.load.open.Given as goal

abbrev pub invariant-loop-i : goal.invariant-loop-i
invariant-loop-i l = record {
  leads : after_requests l.load (drop l.i opening_requests) ≡ after_requests l.initial.load opening_requests;
  few : l.load.refused ≤ l.i;
}
