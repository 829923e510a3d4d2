-- The narrowest registration round a range, said of members of lists (RFC 9082 3.1.1).
use Rattle.std.specs.Prelude.{◌≡◌, ◌≤◌, Bool, true, false, ◌&&◌, if◌then◌else◌, Contains, Option, None, Some}
use Rattle.num_range.specs.Range.{PlainRange}
use Rattle.reg_entry.specs.declared.piece.Piece.{Piece}
use Rattle.reg_entry.specs.declared.sub_card.SubCard.{SubCard}
use Rattle.reg_entry.specs.declared.found.Found.{Found}
use Rattle.reg_entry.specs.declared.found.Found.TheVariants.{Piece as ThePiece, Sub}
use Rattle.reg_entry.specs.Card.{is_delegated}
use Rattle.reg_entry.specs.Ranges.{lies_inside}
use Rattle.reg_entry.specs.Register.{Register, register_pieces}
use Rattle.reg_entry.specs.Sums.{found_size}

-- the registration has all numbers of the range: a delegated piece, or a sub with the range of a piece that it lies in
abbrev pub IsRound : Register → PlainRange → Found → Type 0
IsRound r range (ThePiece p) =
    Contains (register_pieces r range.space) p × (is_delegated p.card.status ≡ true) × (lies_inside range p.range ≡ true)
IsRound r range (Sub s card parent) =
    Contains r.subs (s, card) × (lies_inside range s ≡ true)
    × ((p : Piece) × Contains (register_pieces r s.space) p × (p.range ≡ parent) × (lies_inside s p.range ≡ true))

abbrev pub is_sub : Found → Bool
is_sub (ThePiece p) = false
is_sub (Sub s card parent) = true

-- the first is no wider, and a sub where the second is one of the same size
abbrev pub IsNoWider : Found → Found → Type 0
IsNoWider f g = (found_size f ≤ found_size g) × (found_size f ≡ found_size g → is_sub g ≡ true → is_sub f ≡ true)

-- a registration round the range that is no wider than any, or none where there is none
abbrev pub IsNarrowest : Register → PlainRange → Option Found → Type 0
IsNarrowest r range None = (f : Found) → IsRound r range f → ⊥
IsNarrowest r range (Some f) = IsRound r range f × ((g : Found) → IsRound r range g → IsNoWider f g)

-- ---- looked up

-- what is found of the sub that the range lies inside, and of the piece that holds the range's first number
abbrev pub looked_up : PlainRange → Option (PlainRange × SubCard) → Option Piece → Option Found
looked_up range (Some s) (Some p) = Some (Sub s.0 s.1 p.range)
looked_up range (Some s) None = None
looked_up range None (Some p) = if is_delegated p.card.status && lies_inside range p.range then Some (ThePiece p) else None
looked_up range None None = None
