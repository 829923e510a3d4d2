use Rattle.std.proofs.Common.{◌≡◌, ◌≤◌, ◌-◌}
use Rattle.reg_entry.specs.Decision.{least_missing}
use Rattle.reg_entry.specs.Register.{register_pieces}
use Rattle.board.proofs.board.Board.least_missing.Given as goal

-- the search from where it stands is the search from the start
abbrev pub invariant-pieces : goal.invariant-pieces
invariant-pieces l =
    (l.value ≤ l.last)
    × (least_missing (register_pieces l.self.register l.space) l.value l.last ≡ least_missing (register_pieces l.fn.self.register l.fn.range.space) l.fn.range.first l.fn.range.last)

abbrev pub decreases-pieces : goal.decreases-pieces
decreases-pieces l = l.last - l.value
