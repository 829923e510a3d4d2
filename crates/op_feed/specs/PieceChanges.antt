-- How the pieces of a space change, from those that were touched alone.
use Rattle.std.specs.Prelude.{Bool, false, not, ◌&&◌, List, Option, find, filter}
use Rattle.std.specs.Option.{is_none, option_map_or}
use Rattle.num_range.specs.Range.{PlainRange}
use Rattle.reg_entry.specs.declared.piece.Piece.{Piece}
use Rattle.reg_entry.specs.Card.{same_card}
use Rattle.reg_entry.specs.Ranges.{same_range}

abbrev pub same_piece : Piece → Piece → Bool
same_piece p q = same_range p.range q.range && same_card p.card q.card

-- the piece of exactly this range
abbrev pub piece_of_range : List Piece → PlainRange → Option Piece
piece_of_range ps r = find (λ p. same_range p.range r) ps

-- none of the pieces after has the range
abbrev pub goes : List Piece → Piece → Bool
goes after p = is_none (piece_of_range after p.range)

-- the piece isn't there before, or is another at its range
abbrev pub comes : List Piece → Piece → Bool
comes before p = not (option_map_or (same_piece p) (piece_of_range before p.range) false)

abbrev pub pieces_gone : List Piece → List Piece → List Piece
pieces_gone before after = filter (goes after) before

abbrev pub pieces_come : List Piece → List Piece → List Piece
pieces_come before after = filter (comes before) after
