-- Whether a piece is available up to a number.
use Rattle.std.specs.Prelude.{ℕ, Bool, false, ◌&&◌, nat_le, Option, None, Some}
use Rattle.reg_entry.specs.declared.piece.Piece.{Piece}
use Rattle.reg_entry.specs.Card.{is_available}

-- the piece, where there is one, is available and reaches so far
abbrev pub reaches_free : Option Piece → ℕ → Bool
reaches_free None last = false
reaches_free (Some p) last = is_available p.card.status && nat_le last p.range.last
