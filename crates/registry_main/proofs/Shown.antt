-- The days that are shown of a whole register can be written, and its cards' holders are there.
use Rattle.std.proofs.Common.{◌≡◌, ◌<◌, ◌≤◌, length, Option, None, Some, IfSome, sym, arith}
use Rattle.num_range.specs.Number.{PlainNumber}
use Rattle.reg_entry.specs.declared.piece.Piece.{Piece}
use Rattle.reg_entry.specs.Days.{last_date}
use Rattle.reg_entry.specs.Register.{Register, register_pieces, piece_of}
use Rattle.reg_entry.specs.Whole.{IsCardIn, IsWholeRegister}
use Rattle.board.proofs.Known.{card_in, card_holder}

-- ---- pieces

piece_card : (r : Register) (n : PlainNumber) (p : Piece) → IsWholeRegister r → piece_of r.pool n ≡ Some p → IsCardIn r p.card
piece_card r n p whole e = card_in r (register_pieces r n.space) n.value p (whole.cards n.space) e

piece_until : (r : Register) (n : PlainNumber) (p : Piece) → IsWholeRegister r → piece_of r.pool n ≡ Some p → p.card.until ≤ last_date
piece_until r n p whole e = let c = piece_card r n p whole e in c.until

abbrev pub HasCardDates : Piece → Type 0
HasCardDates p = (p.card.day ≤ last_date) × (p.card.until ≤ last_date)

pub piece_has_dates : (r : Register) (n : PlainNumber) (o : Option Piece) → IsWholeRegister r → o ≡ piece_of r.pool n
    → IfSome o HasCardDates
piece_has_dates r n None whole e = tt
piece_has_dates r n (Some p) whole e =
    let c = piece_card r n p whole (sym e) in
    let days = whole.days in
    let day : p.card.day ≤ r.last_day = c.day in
    let last : r.last_day ≤ last_date = days.1 in
    (omega arith, c.until)

pub holder_is_there : (r : Register) (n : PlainNumber) (o : Option Piece) → IsWholeRegister r → o ≡ piece_of r.pool n
    → IfSome o (λ p. IfSome p.card.holder (λ number. number < length r.holders))
holder_is_there r n None whole e = tt
holder_is_there r n (Some p) whole e = card_holder r p.card (piece_card r n p whole (sym e))
