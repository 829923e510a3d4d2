use Rattle.std.proofs.Common.{◌≡◌, ◌+◌, ◌-◌, ◌^◌, ◌≤◌, ℕ, min, drop}
use Rattle.std.specs.List.{flat_map}
use Rattle.reg_entry.specs.Objects.{cuts_of, objects_of}
use Rattle.plain_register.specs.Changes.{changed_count}
use Rattle.plain_register.proofs.changes.count_cuts.Given as goal

abbrev pub invariant-loop-entry : goal.invariant-loop-entry
invariant-loop-entry l =
    ◌≡◌ {A = ℕ} (min (l.count + changed_count l.act (objects_of l.others) (flat_map cuts_of (drop l.entry-index l.reverses))) (2 ^ 64 - 1))
    (min (changed_count l.act (objects_of l.others) (flat_map cuts_of l.reverses)) (2 ^ 64 - 1))
    × (l.count ≤ 2 ^ 64 - 1)
