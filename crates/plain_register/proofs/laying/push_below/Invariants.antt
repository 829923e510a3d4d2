use Rattle.std.proofs.Common.{◌≡◌, ◌+◌, ◌≤◌, ◌++◌, ℕ, drop}
use Rattle.std.specs.Prelude.{vec_len, vec_capacity}
use Rattle.std.specs.List.{flat_map}
use Rattle.reg_entry.specs.Pieces.{part_below}
use Rattle.plain_register.proofs.laying.push_below.Given as goal

abbrev pub invariant-loop-piece : goal.invariant-loop-piece
invariant-loop-piece l =
    (l.parts.items ++ flat_map (part_below l.range) (drop l.piece-index l.pieces) ≡ l.initial.parts.items ++ flat_map (part_below l.range) l.pieces)
    × (vec_len l.parts ≤ vec_len l.initial.parts + l.piece-index) × ◌≡◌ {A = ℕ} (vec_capacity l.parts) (vec_capacity l.initial.parts)
