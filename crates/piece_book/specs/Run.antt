-- What is noted of the pieces that give way, and what is left of them at the two ends of the range.
use Rattle.std.specs.Prelude.{◌≡◌, ℕ, List, ◌∷◌, ◌++◌, Option, length, take, option_to_list}
use Rattle.num_range.specs.Range.{PlainRange}
use Rattle.reg_entry.specs.declared.card.Card.{Card}
use Rattle.reg_entry.specs.declared.card.Status.{Status}
use Rattle.reg_entry.specs.declared.piece.Piece.{Piece}
use Rattle.piece_book.specs.GivesWay.{giving_way, line_of, first_of, last_of, rest_below, new_first, rest_above, new_last}

-- the first and the last of them, how many they are, and the first three
pub record IsRun (ps : List Piece) (first last : Option Piece) (count : ℕ) (few : List Piece) : Type 0 where
  pub first_is : first ≡ first_of ps
  pub last_is : last ≡ last_of ps
  pub count_is : count ≡ length ps
  pub few_is : few ≡ take 3 ps

-- what is left below and above, and where the new piece begins and ends
pub record AreSeams (r : PlainRange) (s : Status) (ps : List Piece) (low : Option Piece) (first : ℕ) (high : Option Piece) (last : ℕ) (count : ℕ) (few : List Piece) : Type 0 where
  pub low_is : low ≡ rest_below r s (first_of ps)
  pub first_is : first ≡ new_first r s (first_of ps)
  pub high_is : high ≡ rest_above r s (last_of ps)
  pub last_is : last ≡ new_last r s (last_of ps)
  pub count_is : count ≡ length ps
  pub few_is : few ≡ take 3 ps

-- the line of the new piece and what is left at its two ends
abbrev pub line_from : PlainRange → Card → Option Piece → ℕ → Option Piece → ℕ → List Piece
line_from r c low first high last =
    option_to_list low ++ (record { range = record { space = r.space; first = first; last = last }; card = c } ∷ option_to_list high)

-- these give way, and those come
pub record IsBuilt (r : PlainRange) (c : Card) (ps gone come : List Piece) : Type 0 where
  pub gone_is : gone ≡ giving_way r c.status ps
  pub come_is : come ≡ line_of r c ps
