use Rattle.std.proofs.Common.{◌≡◌, ◌≤◌, ◌+◌, ◌-◌}
use Rattle.load_gen.specs.Load.{after_draws}
use Rattle.load_run.proofs.load.load_of.Given as goal

abbrev pub invariant-loop-draws : goal.invariant-loop-draws
invariant-loop-draws l = record {
  load : l.load ≡ after_draws l.initial.load l.seed l.draws.given;
  seed : l.draws.seed ≡ l.seed;
  most : l.draws.given ≤ l.count;
  few : l.load.refused ≤ 11 + l.draws.given;
}

abbrev pub decreases-loop-draws : goal.decreases-loop-draws
decreases-loop-draws l = l.count - l.draws.given
