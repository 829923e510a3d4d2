-- How many numbers of a space have a status, and how many a holder holds.
use Rattle.std.specs.Prelude.{ℕ, ◌+◌, Bool, ◌&&◌, nat_eq, nat_le, if◌then◌else◌, List, [], ◌∷◌, ◌++◌, Option, None, Some, filter, map}
use Rattle.std.specs.Option.{option_eq}
use Rattle.std.specs.List.{list_any, flat_map}
use Rattle.num_range.specs.declared.space.Space.{Space}
use Rattle.num_range.specs.Range.{PlainRange, size_of}
use Rattle.reg_entry.specs.declared.card.Status.{Status}
use Rattle.reg_entry.specs.declared.card.Status.TheVariants.{Allocated}
use Rattle.reg_entry.specs.declared.piece.Piece.{Piece}
use Rattle.reg_entry.specs.declared.found.Found.{Found}
use Rattle.reg_entry.specs.declared.found.Found.TheVariants.{Piece as ThePiece, Sub}
use Rattle.reg_entry.specs.declared.sub_card.SubCard.{SubCard}
use Rattle.reg_entry.specs.Card.{same_status, is_delegated}
use Rattle.reg_entry.specs.Pieces.{size_sum}
use Rattle.reg_entry.specs.Ranges.{lies_inside}
use Rattle.reg_entry.specs.Register.{Register, register_pieces}

-- how many numbers the ranges have
abbrev pub ranges_size : {T : Type 0} → List (PlainRange × T) → ℕ
ranges_size [] = 0
ranges_size (s ∷ ss) = size_of s.0 + ranges_size ss

abbrev pub has_status : Status → Piece → Bool
has_status status p = same_status p.card.status status

-- how many numbers the pieces of the status have
abbrev pub status_sum : List Piece → Status → ℕ
status_sum ps status = size_sum (filter (has_status status) ps)

abbrev pub is_held_by : ℕ → Piece → Bool
is_held_by holder p = is_delegated p.card.status && option_eq nat_eq p.card.holder (Some holder)

abbrev pub is_allocated_to : ℕ → Piece → Bool
is_allocated_to holder p = same_status p.card.status Allocated && option_eq nat_eq p.card.holder (Some holder)

-- the numbers of a space that are delegated to a holder
abbrev pub held : Register → ℕ → Space → ℕ
held r holder space = size_sum (filter (is_held_by holder) (register_pieces r space))

-- the numbers of a space that are allocated to a holder
abbrev pub allocated : Register → ℕ → Space → ℕ
allocated r holder space = size_sum (filter (is_allocated_to holder) (register_pieces r space))

-- the range lies inside one of the pieces
abbrev pub lies_in_one : List Piece → PlainRange → Bool
lies_in_one ps r = list_any (λ p. lies_inside r p.range) ps

-- of the numbers that are allocated to a holder, those that are sub-assigned, whoever holds the subs
abbrev pub used : Register → ℕ → Space → ℕ
used r holder space =
    ranges_size (filter (λ s. lies_in_one (filter (is_allocated_to holder) (register_pieces r space)) s.0) r.subs)

-- ---- the narrowest registration round a range (RFC 9082 3.1.1)

abbrev pub found_size : Found → ℕ
found_size (ThePiece piece) = size_of piece.range
found_size (Sub range card parent) = size_of range

-- a sub, with the range of the piece that it lies in
abbrev pub found_sub : Register → PlainRange × SubCard → List Found
found_sub r s = map (λ p. Sub s.0 s.1 p.range) (filter (λ p. lies_inside s.0 p.range) (register_pieces r s.0.space))

-- the subs and then the delegated pieces that the range lies inside
abbrev pub all_found : Register → PlainRange → List Found
all_found r range =
    flat_map (found_sub r) (filter (λ s. lies_inside range s.0) r.subs)
    ++ map (λ p. ThePiece p) (filter (λ p. is_delegated p.card.status && lies_inside range p.range) (register_pieces r range.space))

-- the first, where it is no larger than the second
abbrev pub narrower : Found → Option Found → Option Found
narrower f None = Some f
narrower f (Some g) = if nat_le (found_size f) (found_size g) then Some f else Some g

-- the first of the least size
abbrev pub least_found : List Found → Option Found
least_found [] = None
least_found (f ∷ fs) = narrower f (least_found fs)

-- of the delegated pieces and subs that the range lies inside, the one of least size, the sub on a tie
abbrev pub narrowest : Register → PlainRange → Option Found
narrowest r range = least_found (all_found r range)
