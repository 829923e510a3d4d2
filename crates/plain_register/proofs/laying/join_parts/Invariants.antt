use Rattle.std.proofs.Common.{◌≡◌, ◌≤◌, ◌++◌, ℕ, drop}
use Rattle.std.specs.Prelude.{vec_len, vec_capacity}
use Rattle.num_range.specs.declared.space.Space.{Space}
use Rattle.reg_entry.specs.Pieces.{joined_after, joined}
use Rattle.plain_register.specs.Parts.{AreOf}
use Rattle.plain_register.proofs.laying.join_parts.Given as goal

-- what was written, followed by what becomes of the last piece and the rest, is what becomes of all; they are of one space
abbrev pub invariant-loop-piece : goal.invariant-loop-piece
invariant-loop-piece l =
    (l.pieces.items ++ joined_after l.last (drop l.piece-index l.rest) ≡ joined l.parts)
    × (vec_len l.pieces ≤ l.piece-index) × ◌≡◌ {A = ℕ} (vec_capacity l.pieces) (vec_capacity l.initial.pieces)
    × ((space : Space) × (l.last.range.space ≡ space) × AreOf space (drop l.piece-index l.rest))
