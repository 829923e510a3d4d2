-- What an accepted request paints: its cover and its card.
use Rattle.std.specs.Prelude.{◌≡◌, ℕ, ◌+◌, ◌-◌, Option, None, Some}
use Rattle.std.specs.Option.{option_map, option_and_then}
use Rattle.num_range.specs.declared.space.Space.{Space}
pub use Rattle.num_range.specs.Number.{number_before}
use Rattle.num_range.specs.Range.{PlainRange}
pub use Rattle.num_range.specs.Range.{first_number}
use Rattle.reg_entry.specs.declared.card.Card.{Card}
use Rattle.reg_entry.specs.declared.card.Status.{Status}
use Rattle.reg_entry.specs.declared.card.Status.TheVariants.{Reserved, Quarantine}
use Rattle.reg_entry.specs.declared.piece.Piece.{Piece}
use Rattle.reg_entry.specs.declared.request.Request.{Request}
use Rattle.reg_entry.specs.declared.request.Request.TheVariants.{Receive, AddHolder, EditHolder, Delegate, Reserve, Unreserve, SubAssign, SubReturn, Return, Release, Split, Join, Transfer, SetReverse, ClearReverse}
use Rattle.reg_entry.specs.Card.{plain_card}
use Rattle.reg_entry.specs.Request.{status_of, amount_size}
use Rattle.reg_entry.specs.Blocks.{least_block, IsLeastBlock}
use Rattle.reg_entry.specs.Holders.{holder_number}
use Rattle.reg_entry.specs.Register.{Register, register_pieces, piece_of}

-- the range of so many numbers
abbrev pub range_from : Space → ℕ → ℕ → PlainRange
range_from space start size = record { space = space; first = start; last = start + (size - 1) }

abbrev pub range_across : Piece → Piece → PlainRange
range_across p q = record { space = p.range.space; first = p.range.first; last = q.range.last }

-- from the first number of one piece to the last of another
abbrev pub across : Option Piece → Option Piece → Option PlainRange
across p q = option_and_then (λ p. option_map (range_across p) q) p

-- the block that a Delegate takes where the registry chooses: the least
abbrev pub chosen_start : Register → Request → Option ℕ
chosen_start r (Delegate space amount status handle) = least_block (register_pieces r space) space (amount_size space amount)
chosen_start r request = None

-- the range that an entry paints or reshapes; a Delegate's block starts at the start
abbrev pub cover_for : Register → Request → Option ℕ → Option PlainRange
cover_for r (Receive range) start = Some range
cover_for r (AddHolder holder) start = None
cover_for r (EditHolder holder) start = None
cover_for r (Delegate space amount status handle) start = option_map (λ x. range_from space x (amount_size space amount)) start
cover_for r (Reserve range) start = Some range
cover_for r (Unreserve range) start = Some range
cover_for r (SubAssign range handle) start = Some range
cover_for r (SubReturn range) start = Some range
cover_for r (Return range handle) start = Some range
cover_for r (Release range) start = Some range
cover_for r (Split at) start = option_map (λ p. p.range) (piece_of r.pool at)
cover_for r (Join at) start = across (piece_of r.pool (number_before at)) (piece_of r.pool at)
cover_for r (Transfer range from to) start = Some range
cover_for r (SetReverse range servers) start = None
cover_for r (ClearReverse range) start = None

-- a Delegate's cover is the least free block of its size
abbrev pub IsLeastCover : Register → Request → Option PlainRange → Type 0
IsLeastCover r (Delegate space amount status handle) cover =
    (start : ℕ) × (cover ≡ Some (range_from space start (amount_size space amount)))
    × IsLeastBlock (register_pieces r space) space (amount_size space amount) (Some start)
IsLeastCover r request cover = Unit {0}

-- a card of the registry's own numbers
abbrev pub kept_card : Status → ℕ → ℕ → Card
kept_card status day until = record { status = status; holder = None; day = day; until = until }

-- a card of a holder's numbers
abbrev pub holder_card : Status → Option ℕ → ℕ → ℕ → Card
holder_card status holder day until = record { status = status; holder = holder; day = day; until = until }

-- the card that an entry of a day paints
abbrev pub card_for : Register → Request → ℕ → ℕ → Option Card
card_for r (Receive range) day until = Some plain_card
card_for r (AddHolder holder) day until = None
card_for r (EditHolder holder) day until = None
card_for r (Delegate space amount status handle) day until = Some (holder_card (status_of status) (holder_number r.holders handle) day 0)
card_for r (Reserve range) day until = Some (kept_card Reserved day 0)
card_for r (Unreserve range) day until = Some plain_card
card_for r (SubAssign range handle) day until = None
card_for r (SubReturn range) day until = None
card_for r (Return range handle) day until = Some (kept_card Quarantine day until)
card_for r (Release range) day until = Some plain_card
card_for r (Split at) day until = None
card_for r (Join at) day until = None
card_for r (Transfer range from to) day until =
    option_map (λ p. holder_card p.card.status (holder_number r.holders to) day until) (piece_of r.pool (first_number range))
card_for r (SetReverse range servers) day until = None
card_for r (ClearReverse range) day until = None
