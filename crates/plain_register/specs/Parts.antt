-- The parts of pieces, before any two are joined.
use Rattle.std.specs.Prelude.{◌≡◌, List, [], ◌∷◌}
use Rattle.num_range.specs.declared.space.Space.{Space}
use Rattle.reg_entry.specs.declared.piece.Piece.{Piece}

-- all are of the space
abbrev pub AreOf : Space → List Piece → Type 0
AreOf space [] = Unit {0}
AreOf space (p ∷ ps) = (p.range.space ≡ space) × AreOf space ps
