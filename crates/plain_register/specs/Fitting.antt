-- Whether a piece has room for a block.
use Rattle.std.specs.Prelude.{ℕ, ◌+◌, ◌-◌, Bool, ◌&&◌, nat_le}
use Rattle.num_range.specs.declared.space.Space.{Space}
use Rattle.reg_entry.specs.declared.piece.Piece.{Piece}
use Rattle.reg_entry.specs.Card.{is_available}
use Rattle.reg_entry.specs.Blocks.{alignment, rounded_up}

-- the piece is available, and has a block of the size behind its first aligned number
abbrev pub has_room : Piece → Space → ℕ → Bool
has_room p space size =
    is_available p.card.status && nat_le (rounded_up p.range.first (alignment space size) + (size - 1)) p.range.last
