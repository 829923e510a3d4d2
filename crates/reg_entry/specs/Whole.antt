-- What every legal list of entries keeps: a register that is whole.
use Rattle.std.specs.Prelude.{◌≡◌, ℕ, ◌<◌, ◌≤◌, true, false, List, [], ◌∷◌, Option, None, length}
use Rattle.std.specs.Option.{IsSomeAnd}
use Rattle.num_range.specs.declared.space.Space.{Space}
use Rattle.num_range.specs.Range.{PlainRange}
use Rattle.num_range.specs.Block.{IsBlockStart, block_of}
use Rattle.num_range.specs.Cover.{is_cut_length}
use Rattle.reg_entry.specs.declared.card.Card.{Card}
use Rattle.reg_entry.specs.declared.card.Status.TheVariants.{Allocated}
use Rattle.reg_entry.specs.declared.piece.Piece.{Piece}
use Rattle.reg_entry.specs.declared.holder.Holder.{Holder}
use Rattle.reg_entry.specs.declared.sub_card.SubCard.{SubCard}
use Rattle.reg_entry.specs.declared.object.Object.{Object}
use Rattle.reg_entry.specs.declared.object.Object.TheVariants.{Org, Block, Sub, Cut}
use Rattle.reg_entry.specs.Card.{is_delegated}
use Rattle.reg_entry.specs.Op.{PlainOp}
use Rattle.reg_entry.specs.Partition.{IsPartition, piece_count}
use Rattle.reg_entry.specs.Ranges.{lies_inside, AreApart}
use Rattle.reg_entry.specs.Holders.{HaveDistinctHandles}
use Rattle.reg_entry.specs.Days.{last_date}
use Rattle.reg_entry.specs.Register.{Register, register_pieces, piece_of}
use Rattle.reg_entry.specs.Covers.{first_number}
use Rattle.reg_entry.specs.Decision.{of_asn}
use Rattle.reg_entry.specs.Operations.{PlainBoard}

-- ---- of each card, holder, sub and reverse entry

-- a holder of this number is there
abbrev pub IsKnownHolder : Register → Option ℕ → Type 0
IsKnownHolder r holder = IsSomeAnd holder (λ number. number < length r.holders)

-- a delegated card has a holder that is there, and a day; all others have none
pub record IsCardIn (r : Register) (c : Card) : Type 0 where
  pub holder : is_delegated c.status ≡ true → IsKnownHolder r c.holder
  pub nobody : is_delegated c.status ≡ false → c.holder ≡ None
  pub dated : is_delegated c.status ≡ true → 1 ≤ c.day
  pub day : c.day ≤ r.last_day
  pub until : c.until ≤ last_date

abbrev pub HaveCardsIn : Register → List Piece → Type 0
HaveCardsIn r [] = Unit {0}
HaveCardsIn r (p ∷ ps) = IsCardIn r p.card × HaveCardsIn r ps

abbrev pub IsDayIn : Register → ℕ → Type 0
IsDayIn r day = (1 ≤ day) × (day ≤ r.last_day)

abbrev pub HaveDaysIn : Register → List (Holder × ℕ) → Type 0
HaveDaysIn r [] = Unit {0}
HaveDaysIn r (m ∷ hs) = IsDayIn r m.1 × HaveDaysIn r hs

-- the piece that holds the range's first number holds its last too
abbrev pub piece_round : Register → PlainRange → Option Piece
piece_round r range = piece_of r.pool (first_number range)

abbrev pub HasRange : PlainRange → Piece → Type 0
HasRange range p = lies_inside range p.range ≡ true

pub record IsSubIn (r : Register) (s : PlainRange × SubCard) : Type 0 where
  pub inside : IsSomeAnd (piece_round r s.0) (λ p. HasRange s.0 p × (p.card.status ≡ Allocated))
  pub holder : s.1.holder < length r.holders
  pub day : IsDayIn r s.1.day

abbrev pub AreSubsIn : Register → List (PlainRange × SubCard) → Type 0
AreSubsIn r [] = Unit {0}
AreSubsIn r (s ∷ subs) = IsSubIn r s × AreSubsIn r subs

pub record IsReverseIn (r : Register) (s : PlainRange × List (List ℕ)) : Type 0 where
  pub inside : IsSomeAnd (piece_round r s.0) (λ p. HasRange s.0 p × (is_delegated p.card.status ≡ true))
  pub addresses : of_asn s.0.space ≡ false
  pub servers : (1 ≤ length s.1) × (length s.1 ≤ 4)

abbrev pub AreReversesIn : Register → List (PlainRange × List (List ℕ)) → Type 0
AreReversesIn r [] = Unit {0}
AreReversesIn r (s ∷ reverses) = IsReverseIn r s × AreReversesIn r reverses

-- ---- the register

pub record AreWithinRooms (r : Register) : Type 0 where
  pub pieces : piece_count r.pool ≤ r.rooms.pieces
  pub holders : length r.holders ≤ r.rooms.holders
  pub subs : length r.subs ≤ r.rooms.subs
  pub reverse : length r.reverses ≤ r.rooms.reverse
  pub entries : r.entries ≤ r.rooms.entries

pub record IsWholeRegister (r : Register) : Type 0 where
  -- the pieces of each space rise and are disjoint, no two touching ones are both available, available cards are plain,
  -- and IPv6 pieces lie in global unicast
  pub pieces : IsPartition r.pool
  pub cards : (space : Space) → HaveCardsIn r (register_pieces r space)
  pub subs_apart : AreApart r.subs
  pub subs : AreSubsIn r r.subs
  pub reverses_apart : AreApart r.reverses
  pub reverses : AreReversesIn r r.reverses
  pub handles : HaveDistinctHandles r.holders
  pub holder_days : HaveDaysIn r r.holders
  pub days : (r.first_day ≤ r.last_day) × (r.last_day ≤ last_date)
  pub rooms : AreWithinRooms r

-- ---- the board

-- the days of an object's text can be written, and are no later than the last entry's
abbrev pub HasDaysOf : Register → Object → Type 0
HasDaysOf r (Org holder day) = day ≤ r.last_day
HasDaysOf r (Block range status handle day until) = (day ≤ r.last_day) × (until ≤ last_date)
HasDaysOf r (Sub range handle day) = day ≤ r.last_day
HasDaysOf r (Cut block servers) = Unit {0}

-- the block is one of those at which reverse zones are cut
abbrev pub IsCutBlock : PlainRange → Type 0
IsCutBlock block =
    (len : ℕ) × (is_cut_length block.space len ≡ true) × IsBlockStart block.space block.first len × (block ≡ block_of block.space block.first len)

abbrev pub IsCutOf : Object → Type 0
IsCutOf (Org holder day) = Unit {0}
IsCutOf (Block range status handle day until) = Unit {0}
IsCutOf (Sub range handle day) = Unit {0}
IsCutOf (Cut block servers) = IsCutBlock block

abbrev pub AreOpsIn : Register → List PlainOp → Type 0
AreOpsIn r [] = Unit {0}
AreOpsIn r (op ∷ ops) = HasDaysOf r op.object × IsCutOf op.object × AreOpsIn r ops

pub record IsWhole (b : PlainBoard) : Type 0 where
  pub register : IsWholeRegister b.register
  pub ops : AreOpsIn b.register b.kept
  pub window : length b.kept ≤ b.register.rooms.window
