use Rattle.std.proofs.Common.{◌≡◌, ◌+◌, ◌-◌, ◌^◌, ◌≤◌, ℕ, min, map}
use Rattle.num_range.specs.Range.{PlainRange}
use Rattle.reg_entry.specs.declared.object.Object.TheVariants.{Cut}
use Rattle.reg_entry.specs.Objects.{cuts_of, objects_of}
use Rattle.plain_register.specs.Changes.{changed_count}
use Rattle.plain_register.proofs.changes.count_cuts_of.Given as goal

abbrev pub invariant-loop-block : goal.invariant-loop-block
invariant-loop-block l =
    ◌≡◌ {A = ℕ} (min (l.count + changed_count l.act (objects_of l.others) (map (λ (b : PlainRange). Cut b l.entry.1) l.block-iterator)) (2 ^ 64 - 1))
    (min (changed_count l.act (objects_of l.others) (cuts_of l.entry)) (2 ^ 64 - 1))
    × (l.count ≤ 2 ^ 64 - 1)
