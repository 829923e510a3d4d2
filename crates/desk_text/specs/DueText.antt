-- The answer to the question which pieces' quarantine is over: how many there are, and then these, a line each.
use Rattle.std.specs.Prelude.{ℕ, List, [], ◌∷◌, ◌++◌, length, codes, decimal}
use Rattle.reg_entry.specs.declared.piece.Piece.{Piece}
use Rattle.desk_text.specs.ReplyText.{spaced_range}

abbrev pub due_count_text : ℕ → List ℕ
due_count_text count = codes "due " ++ decimal count

abbrev pub due_piece_text : Piece → List ℕ
due_piece_text piece = spaced_range piece.range

-- a line a piece
abbrev pub piece_lines : List Piece → List ℕ
piece_lines [] = []
piece_lines (piece ∷ more) = (due_piece_text piece ++ codes "\n") ++ piece_lines more

-- the whole answer, each line with its line end
abbrev pub due_text : List Piece → List ℕ
due_text pieces = (due_count_text (length pieces) ++ codes "\n") ++ piece_lines pieces
