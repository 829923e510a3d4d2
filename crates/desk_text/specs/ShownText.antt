-- The answer to the question what is known of a number: nothing, or the piece that holds it.
use Rattle.std.specs.Prelude.{ℕ, List, ◌++◌, Option, None, Some, codes}
use Rattle.reg_entry.specs.declared.piece.Piece.{Piece}
use Rattle.desk_text.specs.Vocabulary.{status_word}
use Rattle.desk_text.specs.ReplyText.{spaced_range}
use Rattle.desk_text.specs.EntryText.{day_word}

-- no piece holds the number
abbrev pub none_text : List ℕ
none_text = codes "none"

-- a holder's handle
abbrev pub handle_word : Option (List ℕ) → List ℕ
handle_word None = codes "-"
handle_word (Some handle) = handle

-- the piece's range, its status, its holder, and its days
abbrev pub piece_text : Piece → Option (List ℕ) → List ℕ
piece_text p handle =
    spaced_range p.range ++ codes " " ++ status_word p.card.status ++ codes " " ++ handle_word handle ++ codes " "
    ++ day_word p.card.day ++ codes " " ++ day_word p.card.until
