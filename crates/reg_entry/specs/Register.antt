-- The register: what the entries so far amount to, and how one entry more changes it.
use Rattle.std.specs.Prelude.{ℕ, ◌+◌, ◌==◌, if◌then◌else◌, List, [], ◌∷◌, Option, None, Some}
use Rattle.num_range.specs.declared.space.Space.{Space}
use Rattle.num_range.specs.Number.{PlainNumber}
use Rattle.num_range.specs.Range.{PlainRange}
use Rattle.reg_entry.specs.declared.card.Card.{Card}
use Rattle.reg_entry.specs.declared.piece.Piece.{Piece}
use Rattle.reg_entry.specs.declared.holder.Holder.{Holder}
use Rattle.reg_entry.specs.declared.rooms.Rooms.{Rooms}
use Rattle.reg_entry.specs.declared.sub_card.SubCard.{SubCard}
use Rattle.reg_entry.specs.declared.request.Request.{Request}
use Rattle.reg_entry.specs.declared.request.Request.TheVariants.{AddHolder, EditHolder, SubAssign, SubReturn, Return, Split, Join, SetReverse, ClearReverse}
use Rattle.reg_entry.specs.Entry.{PlainEntry}
use Rattle.reg_entry.specs.Pieces.{piece_at, card_at, laid}
use Rattle.reg_entry.specs.Partition.{Partition, pieces_in, with_pieces, empty_partition}
use Rattle.reg_entry.specs.Reshaping.{split_at_number, joined_at}
use Rattle.reg_entry.specs.Ranges.{with_range, without_range, without_inside}
use Rattle.reg_entry.specs.Holders.{holder_number, added_holder, edited_holder}

pub record Register : Type 0 where
  pub rooms : Rooms
  pub entries : ℕ
  pub first_day : ℕ
  pub last_day : ℕ
  pub pool : Partition
  pub holders : List (Holder × ℕ)
  pub subs : List (PlainRange × SubCard)
  pub reverses : List (PlainRange × List (List ℕ))

-- the register of no entry
abbrev pub empty_register : Rooms → Register
empty_register rooms = record {
  rooms = rooms;
  entries = 0;
  first_day = 0;
  last_day = 0;
  pool = empty_partition;
  holders = [];
  subs = [];
  reverses = [];
}

-- ---- looking up

abbrev pub register_pieces : Register → Space → List Piece
register_pieces r space = pieces_in r.pool space

-- the piece that holds the number
abbrev pub piece_of : Partition → PlainNumber → Option Piece
piece_of pool n = piece_at (pieces_in pool n.space) n.value

-- the card of the number
abbrev pub card_of : Partition → PlainNumber → Option Card
card_of pool n = card_at (pieces_in pool n.space) n.value

-- ---- the pool after an entry

-- splitting and joining change no number's card; all other requests leave the pieces to what is painted
abbrev pub reshaped : Request → Partition → Partition
reshaped (Split at) pool = with_pieces pool at.space (split_at_number (pieces_in pool at.space) at.value)
reshaped (Join at) pool = with_pieces pool at.space (joined_at (pieces_in pool at.space) at.value)
reshaped request pool = pool

-- an entry with a cover and a card paints the card over the cover
abbrev pub painted : Option PlainRange → Option Card → Partition → Partition
painted (Some r) (Some c) pool = with_pieces pool r.space (laid (pieces_in pool r.space) r c)
painted (Some r) None pool = pool
painted None card pool = pool

abbrev pub pool_after : Request → Option PlainRange → Option Card → Partition → Partition
pool_after request cover card pool = painted cover card (reshaped request pool)

-- ---- the rest of the register after an entry

abbrev pub holders_after : Request → ℕ → List (Holder × ℕ) → List (Holder × ℕ)
holders_after (AddHolder holder) day hs = added_holder hs holder day
holders_after (EditHolder holder) day hs = edited_holder hs holder day
holders_after request day hs = hs

-- the subs with one more, where its holder is known
abbrev pub with_sub : List (PlainRange × SubCard) → PlainRange → ℕ → Option ℕ → List (PlainRange × SubCard)
with_sub subs range day None = subs
with_sub subs range day (Some holder) = with_range subs range (record { holder = holder; day = day })

abbrev pub subs_after : Request → ℕ → List (Holder × ℕ) → List (PlainRange × SubCard) → List (PlainRange × SubCard)
subs_after (SubAssign range handle) day hs subs = with_sub subs range day (holder_number hs handle)
subs_after (SubReturn range) day hs subs = without_range subs range
subs_after request day hs subs = subs

abbrev pub reverses_after : Request → List (PlainRange × List (List ℕ)) → List (PlainRange × List (List ℕ))
reverses_after (SetReverse range servers) reverses = with_range reverses range servers
reverses_after (ClearReverse range) reverses = without_range reverses range
reverses_after (Return range handle) reverses = without_inside reverses range
reverses_after request reverses = reverses

-- the register after one entry more
abbrev pub after_entry : Register → PlainEntry → Register
after_entry r e = record {
  rooms = r.rooms;
  entries = r.entries + 1;
  first_day = if r.entries == 0 then e.day else r.first_day;
  last_day = e.day;
  pool = pool_after e.request e.cover e.card r.pool;
  holders = holders_after e.request e.day r.holders;
  subs = subs_after e.request e.day r.holders r.subs;
  reverses = reverses_after e.request r.reverses;
}

abbrev pub after_entries : Register → List PlainEntry → Register
after_entries r [] = r
after_entries r (e ∷ es) = after_entries (after_entry r e) es

-- the register of a list of entries
abbrev pub register_after : Rooms → List PlainEntry → Register
register_after rooms es = after_entries (empty_register rooms) es
