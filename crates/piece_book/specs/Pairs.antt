-- The pieces of a space as pairs: each under its first number.
use Rattle.std.specs.Prelude.{ℕ, ◌≤◌, List, map}
use Rattle.std.specs.List.{AllByRecursion}
use Rattle.num_range.specs.declared.space.Space.{Space}
use Rattle.num_range.specs.Space.{top_of}
use Rattle.reg_entry.specs.declared.piece.Piece.{Piece}
use Rattle.piece_book.specs.declared.part.Part.{Part}

abbrev pub piece_of_pair : Space → ℕ × Part → Piece
piece_of_pair space pair = record { range = record { space = space; first = pair.0; last = pair.1.last }; card = pair.1.card }

abbrev pub pieces_of_pairs : Space → List (ℕ × Part) → List Piece
pieces_of_pairs space pairs = map (piece_of_pair space) pairs

abbrev pub pair_of_piece : Piece → ℕ × Part
pair_of_piece p = (p.range.first, record { last = p.range.last; card = p.card })

-- each pair is of a range of the space
abbrev pub AreOfRanges : Space → List (ℕ × Part) → Type 0
AreOfRanges space pairs = AllByRecursion (λ pair. (pair.0 ≤ pair.1.last) × (pair.1.last ≤ top_of space)) pairs
