use Rattle.std.specs.Prelude.{◌≡◌, drop}
use Rattle.std.specs.List.{list_any}
use Rattle.door_face.specs.Duties.{is_back}
use Rattle.door_face.proofs.outcome.any_back.Given as goal

-- a duty came back among those that are left just where one did among all
abbrev pub invariant-loop-outcome : goal.invariant-loop-outcome
invariant-loop-outcome g l = list_any is_back (drop l.outcome-index l.outcomes) ≡ list_any is_back l.outcomes
