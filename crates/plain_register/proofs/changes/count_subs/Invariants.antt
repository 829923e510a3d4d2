use Rattle.std.proofs.Common.{◌≡◌, ◌+◌, ◌≤◌, ℕ, map, drop}
use Rattle.reg_entry.specs.Objects.{sub_of, objects_of}
use Rattle.plain_register.specs.Changes.{changed_count}
use Rattle.plain_register.proofs.changes.count_subs.Given as goal

abbrev pub invariant-loop-sub : goal.invariant-loop-sub
invariant-loop-sub l =
    ◌≡◌ {A = ℕ} (l.count + changed_count l.act (objects_of l.others) (map (sub_of l.holders) (drop l.sub-index l.subs))) (changed_count l.act (objects_of l.others) (map (sub_of l.holders) l.subs))
    × (l.count ≤ l.sub-index)
