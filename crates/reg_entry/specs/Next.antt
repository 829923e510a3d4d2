-- Which entry may come next. The policy may change between two runs, so a journal is judged by the rules of the register
-- alone; two things are free: which free block a Delegate takes, and until when a returned or transferred piece is kept.
use Rattle.std.specs.Prelude.{◌≡◌, ℕ, ◌+◌, ◌-◌, ◌%◌, Bool, true, false, ◌&&◌, ◌==◌, nat_le, List, [], ◌∷◌, Option}
use Rattle.std.specs.Option.{is_none, option_eq, option_map, option_map_or}
use Rattle.std.specs.List.{list_any}
use Rattle.num_range.specs.declared.space.Space.{Space}
use Rattle.num_range.specs.Space.{top_of}
use Rattle.num_range.specs.Range.{PlainRange}
use Rattle.reg_entry.specs.declared.card.Card.{Card}
use Rattle.reg_entry.specs.declared.piece.Piece.{Piece}
use Rattle.reg_entry.specs.declared.rooms.Rooms.{Rooms}
use Rattle.reg_entry.specs.declared.request.Request.{Request}
use Rattle.reg_entry.specs.declared.request.Request.TheVariants.{Delegate, Return, Transfer}
use Rattle.reg_entry.specs.Entry.{PlainEntry}
use Rattle.reg_entry.specs.Card.{is_available, same_card}
use Rattle.reg_entry.specs.Request.{amount_size, has_size, is_request}
use Rattle.reg_entry.specs.Blocks.{alignment}
use Rattle.reg_entry.specs.Pieces.{piece_holds}
use Rattle.reg_entry.specs.Ranges.{same_range}
use Rattle.reg_entry.specs.Days.{last_date}
use Rattle.reg_entry.specs.Register.{Register, register_pieces, after_entry, empty_register}
use Rattle.reg_entry.specs.Covers.{cover_for, card_for}
use Rattle.reg_entry.specs.Decision.{first_of, early_rules, late_refusal}

-- the piece is available and has all numbers from the first to the last
abbrev pub has_free : ℕ → ℕ → Piece → Bool
has_free first last p = is_available p.card.status && piece_holds p first && piece_holds p last

-- the block is aligned, within its space, and available; touching available pieces are always one
abbrev pub is_free_block : List Piece → Space → ℕ → ℕ → Bool
is_free_block ps space size start =
    (start % alignment space size == 0) && nat_le (start + (size - 1)) (top_of space)
    && list_any (has_free start (start + (size - 1))) ps

-- where an entry's cover starts
abbrev pub start_of : Option PlainRange → Option ℕ
start_of cover = option_map (λ r. r.first) cover

-- the free block that a Delegate takes; nothing else is free to choose its cover
abbrev pub block_may_be : Register → Request → Option ℕ → Bool
block_may_be r (Delegate space amount status handle) start =
    has_size space amount && option_map_or (is_free_block (register_pieces r space) space (amount_size space amount)) start false
block_may_be r request start = true

-- the until of an entry's card, or 0 where it has none
abbrev pub until_of : Option Card → ℕ
until_of card = option_map_or (λ c. c.until) card 0

-- the day up to which a returned or transferred piece may be kept as it is
abbrev pub until_may_be : Request → ℕ → ℕ → Bool
until_may_be (Return range handle) day until = nat_le day until && nat_le until last_date
until_may_be (Transfer range from to) day until = nat_le day until && nat_le until last_date
until_may_be request day until = true

abbrev pub day_may_be : Register → ℕ → Bool
day_may_be r day = nat_le 1 day && nat_le r.last_day day && nat_le day last_date

abbrev pub same_cover : Option PlainRange → Option PlainRange → Bool
same_cover = option_eq same_range

abbrev pub same_painted : Option Card → Option Card → Bool
same_painted = option_eq same_card

-- the entry's number, day, block, until, cover and card are right, and no rule of the register is against it
abbrev pub may_come_next : Register → PlainEntry → Bool
may_come_next r e =
    is_request e.request && (e.seq == r.entries + 1) && day_may_be r e.day
    && is_none (first_of (early_rules r e.request)) && block_may_be r e.request (start_of e.cover)
    && until_may_be e.request e.day (until_of e.card) && is_none (late_refusal r e)
    && same_cover e.cover (cover_for r e.request (start_of e.cover))
    && same_painted e.card (card_for r e.request e.day (until_of e.card))

abbrev pub IsNextEntry : Register → PlainEntry → Type 0
IsNextEntry r e = may_come_next r e ≡ true

-- each entry may come next after those before it
abbrev pub IsLegalFrom : Register → List PlainEntry → Type 0
IsLegalFrom r [] = Unit {0}
IsLegalFrom r (e ∷ es) = IsNextEntry r e × IsLegalFrom (after_entry r e) es

abbrev pub IsLegal : Rooms → List PlainEntry → Type 0
IsLegal rooms es = IsLegalFrom (empty_register rooms) es
