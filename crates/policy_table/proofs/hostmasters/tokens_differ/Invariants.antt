use Rattle.std.proofs.Common.{◌≡◌, drop}
use Rattle.policy_table.specs.Hostmasters.{tokens_differ}
use Rattle.policy_table.proofs.hostmasters.tokens_differ.Given as goal

abbrev pub invariant-loop-place : goal.invariant-loop-place
invariant-loop-place l = tokens_differ (drop l.place l.hostmasters) ≡ tokens_differ l.hostmasters
