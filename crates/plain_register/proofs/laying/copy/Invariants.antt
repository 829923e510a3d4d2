use Rattle.std.proofs.Common.{◌≡◌, ◌≤◌, ◌++◌, ℕ, drop}
use Rattle.std.specs.Prelude.{vec_len, vec_capacity}
use Rattle.plain_register.proofs.laying.copy.Given as goal

abbrev pub invariant-loop-piece : goal.invariant-loop-piece
invariant-loop-piece l =
    (l.pieces.items ++ drop l.piece-index l.parts ≡ l.parts) × (vec_len l.pieces ≤ l.piece-index)
    × ◌≡◌ {A = ℕ} (vec_capacity l.pieces) (vec_capacity l.initial.pieces)
