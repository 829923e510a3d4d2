use Rattle.std.proofs.Common.{◌≡◌, ◌+◌, ◌≤◌, ℕ, length, drop}
use Rattle.num_range.specs.declared.space.Space.{Space}
use Rattle.reg_entry.specs.Pieces.{joined_after, joined}
use Rattle.plain_register.specs.Parts.{AreOf}
use Rattle.plain_register.proofs.laying.joined_count.Given as goal

-- those that were counted, the last among them, and those that the last and the rest become are all; they are of one space
abbrev pub invariant-loop-piece : goal.invariant-loop-piece
invariant-loop-piece l =
    ◌≡◌ {A = ℕ} (l.count + length (joined_after l.last (drop l.piece-index l.rest))) (length (joined l.parts) + 1)
    × (l.count ≤ l.piece-index + 1)
    × ((space : Space) × (l.last.range.space ≡ space) × AreOf space (drop l.piece-index l.rest))
