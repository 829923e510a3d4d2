-- Which pieces of a space give way where a card is painted over a range, and what comes in their place.
use Rattle.std.specs.Prelude.{ℕ, ◌+◌, ◌-◌, Bool, ◌&&◌, nat_lt, nat_le, if◌then◌else◌, List, [], ◌∷◌, ◌++◌, Option, None, Some, filter, option_to_list}
use Rattle.num_range.specs.Range.{PlainRange}
use Rattle.reg_entry.specs.declared.card.Card.{Card}
use Rattle.reg_entry.specs.declared.card.Status.{Status}
use Rattle.reg_entry.specs.declared.piece.Piece.{Piece}
use Rattle.reg_entry.specs.Card.{is_available}

-- the piece and a new one of the status become one where they touch
abbrev pub both_available : Status → Piece → Bool
both_available status p = is_available p.card.status && is_available status

-- how far past its ends a piece meets a new one: up to the number that touches it, where they become one
abbrev pub reach : Status → Piece → ℕ
reach status p = if both_available status p then 1 else 0

-- the range meets the piece, or the two touch and become one
abbrev pub gives_way : PlainRange → Status → Piece → Bool
gives_way r status p = nat_le r.first (p.range.last + reach status p) && nat_le p.range.first (r.last + reach status p)

-- the pieces that give way
abbrev pub giving_way : PlainRange → Status → List Piece → List Piece
giving_way r status ps = filter (gives_way r status) ps

abbrev pub first_of : List Piece → Option Piece
first_of [] = None
first_of (p ∷ ps) = Some p

-- the last of a piece and those behind it
abbrev pub last_from : Piece → List Piece → Piece
last_from p [] = p
last_from p (q ∷ qs) = last_from q qs

abbrev pub last_of : List Piece → Option Piece
last_of [] = None
last_of (p ∷ ps) = Some (last_from p ps)

-- ---- the new piece, and what is left of the first and of the last piece that gives way

abbrev pub ending_at : Piece → ℕ → Piece
ending_at p last = record { range = record { space = p.range.space; first = p.range.first; last = last }; card = p.card }

abbrev pub starting_at : Piece → ℕ → Piece
starting_at p first = record { range = record { space = p.range.space; first = first; last = p.range.last }; card = p.card }

-- what is left below the range
abbrev pub rest_below : PlainRange → Status → Option Piece → Option Piece
rest_below r status None = None
rest_below r status (Some p) = if nat_lt p.range.first r.first then (if both_available status p then None else Some (ending_at p (r.first - 1))) else None

-- where the new piece begins
abbrev pub new_first : PlainRange → Status → Option Piece → ℕ
new_first r status None = r.first
new_first r status (Some p) = if nat_lt p.range.first r.first then (if both_available status p then p.range.first else r.first) else r.first

-- the new piece's card: where it becomes one with the piece below, that piece's
abbrev pub new_card : PlainRange → Card → Option Piece → Card
new_card r c None = c
new_card r c (Some p) = if nat_lt p.range.first r.first then (if both_available c.status p then p.card else c) else c

-- what is left above the range
abbrev pub rest_above : PlainRange → Status → Option Piece → Option Piece
rest_above r status None = None
rest_above r status (Some p) = if nat_lt r.last p.range.last then (if both_available status p then None else Some (starting_at p (r.last + 1))) else None

-- where the new piece ends
abbrev pub new_last : PlainRange → Status → Option Piece → ℕ
new_last r status None = r.last
new_last r status (Some p) = if nat_lt r.last p.range.last then (if both_available status p then p.range.last else r.last) else r.last

-- the new piece and the rests on its two sides, from the first and the last piece that give way
abbrev pub new_line : PlainRange → Card → Option Piece → Option Piece → List Piece
new_line r c low high =
    option_to_list (rest_below r c.status low)
    ++ record { range = record { space = r.space; first = new_first r c.status low; last = new_last r c.status high }; card = new_card r c low }
    ∷ option_to_list (rest_above r c.status high)

-- what comes in the place of those that give way
abbrev pub line_of : PlainRange → Card → List Piece → List Piece
line_of r c ps = new_line r c (first_of (giving_way r c.status ps)) (last_of (giving_way r c.status ps))
