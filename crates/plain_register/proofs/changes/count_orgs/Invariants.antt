use Rattle.std.proofs.Common.{◌≡◌, ◌+◌, ◌≤◌, ℕ, map, drop}
use Rattle.reg_entry.specs.Objects.{org_of, objects_of}
use Rattle.plain_register.specs.Changes.{changed_count}
use Rattle.plain_register.proofs.changes.count_orgs.Given as goal

abbrev pub invariant-loop-member : goal.invariant-loop-member
invariant-loop-member l =
    ◌≡◌ {A = ℕ} (l.count + changed_count l.act (objects_of l.others) (map org_of (drop l.member-index l.holders))) (changed_count l.act (objects_of l.others) (map org_of l.holders))
    × (l.count ≤ l.member-index)
