use Rattle.std.proofs.Common.{◌≡◌, ◌≤◌, length, All, vec_capacity}
use Rattle.snapshot_pub.specs.Opening.{new_pass}
use Rattle.snapshot_pub.proofs.opening.with_passes.Given as goal

-- each pass so far is a new one, and there is room for the rest
abbrev pub invariant-loop : goal.invariant-loop
invariant-loop l = record {
  press : l.press ≡ l.fn.press;
  count : length l.opened.items ≡ l.counter;
  passes : All (λ p. p ≡ new_pass l.fn.press) l.opened.items;
  room : l.passes ≤ vec_capacity l.opened;
}
