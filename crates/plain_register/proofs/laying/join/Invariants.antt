use Rattle.std.proofs.Common.{◌≡◌, ◌-◌, ◌++◌, take, drop}
use Rattle.reg_entry.specs.Reshaping.{joined_at}
use Rattle.plain_register.proofs.laying.join.Given as goal

-- the pieces up to the one before this stay as they are
abbrev pub invariant-loop-i : goal.invariant-loop-i
invariant-loop-i l =
    (l.pieces ≡ l.initial.pieces)
    × (take (l.i - 1) l.pieces.items ++ joined_at (drop (l.i - 1) l.pieces.items) l.at ≡ joined_at l.pieces.items l.at)
