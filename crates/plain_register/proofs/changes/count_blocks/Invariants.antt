use Rattle.std.proofs.Common.{◌≡◌, ◌+◌, ◌≤◌, ℕ, drop}
use Rattle.reg_entry.specs.Objects.{blocks_of, objects_of}
use Rattle.plain_register.specs.Changes.{changed_count}
use Rattle.plain_register.proofs.changes.count_blocks.Given as goal

abbrev pub invariant-loop-piece : goal.invariant-loop-piece
invariant-loop-piece l =
    ◌≡◌ {A = ℕ} (l.count + changed_count l.act (objects_of l.others) (blocks_of l.holders (drop l.piece-index l.pieces))) (changed_count l.act (objects_of l.others) (blocks_of l.holders l.pieces))
    × (l.count ≤ l.piece-index)
