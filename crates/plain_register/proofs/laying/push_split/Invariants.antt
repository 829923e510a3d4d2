use Rattle.std.proofs.Common.{◌≡◌, ◌+◌, ◌*◌, ◌≤◌, ◌++◌, ℕ, drop}
use Rattle.std.specs.Prelude.{vec_len, vec_capacity}
use Rattle.reg_entry.specs.Reshaping.{split_at_number}
use Rattle.plain_register.proofs.laying.push_split.Given as goal

abbrev pub invariant-loop-piece : goal.invariant-loop-piece
invariant-loop-piece l =
    (l.parts.items ++ split_at_number (drop l.piece-index l.pieces) l.at ≡ l.initial.parts.items ++ split_at_number l.pieces l.at)
    × (vec_len l.parts ≤ vec_len l.initial.parts + 2 * l.piece-index) × ◌≡◌ {A = ℕ} (vec_capacity l.parts) (vec_capacity l.initial.parts)
