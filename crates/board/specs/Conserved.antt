-- That no number is lost or held twice: the register says of each number what the entries made of it.
use Rattle.std.specs.Prelude.{◌≡◌, true, false, List, [], ◌∷◌, ◌++◌, length, option_to_list}
use Rattle.std.specs.Option.{is_some}
use Rattle.num_range.specs.declared.space.Space.{Space}
use Rattle.num_range.specs.Number.{PlainNumber}
use Rattle.reg_entry.specs.Entry.{PlainEntry}
use Rattle.reg_entry.specs.Entries.{covers, last_card, received_size, is_received, first_day_of, last_day_of}
use Rattle.reg_entry.specs.Pieces.{cards_at, size_sum}
use Rattle.reg_entry.specs.Register.{Register, register_pieces, card_of}
use Rattle.reg_entry.specs.Request.{is_reshaping}
use Rattle.reg_laws.specs.Reached.{IsRegisterOf}

-- the entries are legal and give the register
pub record IsConservedBy (r : Register) (es : List PlainEntry) : Type 0 where
  pub register : IsRegisterOf r es
  -- each number has the card of the last entry that painted it, and none where none did
  pub cards : (n : PlainNumber) → card_of r.pool n ≡ last_card es n
  -- it lies in just one piece, of that card, or in none
  pub once : (n : PlainNumber) → cards_at (register_pieces r n.space) n.value ≡ option_to_list (last_card es n)
  -- the numbers that lie in a piece are those that were received, and each space has just as many
  pub pooled : (n : PlainNumber) → is_some (last_card es n) ≡ is_received es n
  pub sizes : (space : Space) → size_sum (register_pieces r space) ≡ received_size es space
  pub entries : r.entries ≡ length es
  pub first_day : r.first_day ≡ first_day_of es
  pub last_day : r.last_day ≡ last_day_of es

-- one entry more changes the last card of numbers inside its cover alone, and that of none where it cuts or joins pieces
pub record ChangesCards (es : List PlainEntry) (e : PlainEntry) : Type 0 where
  pub outside : (n : PlainNumber) → covers e.cover n ≡ false → last_card (es ++ e ∷ []) n ≡ last_card es n
  pub reshaped : (n : PlainNumber) → is_reshaping e.request ≡ true → last_card (es ++ e ∷ []) n ≡ last_card es n
