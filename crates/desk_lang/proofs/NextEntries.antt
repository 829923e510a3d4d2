-- An entry that may come next has days that can be written, and a card beside a cover alone.
use Rattle.std.proofs.Common.{◌≡◌, ℕ, ◌≤◌, true, false, ◌&&◌, nat_le, Option, None, Some, sym, subst, arith}
use Rattle.std.specs.Prelude.{IfSome}
use Rattle.std.specs.Option.{option_map, option_map_or}
use Rattle.std.proofs.lemmas.Bool.{and_parts, leb-true, false≢true}
use Rattle.num_range.specs.Range.{PlainRange}
use Rattle.reg_entry.specs.declared.card.Card.{Card}
use Rattle.reg_entry.specs.declared.piece.Piece.{Piece}
use Rattle.reg_entry.specs.declared.request.Request.{Request}
use Rattle.reg_entry.specs.declared.request.Request.TheVariants.{Receive, AddHolder, EditHolder, Delegate, Reserve, Unreserve, SubAssign, SubReturn, Return, Release, Split, Join, Transfer, SetReverse, ClearReverse}
use Rattle.reg_entry.specs.Covers.{first_number, holder_card, cover_for, card_for}
use Rattle.reg_entry.specs.Days.{last_date}
use Rattle.reg_entry.specs.Entry.{PlainEntry}
use Rattle.reg_entry.specs.Holders.{holder_number}
use Rattle.reg_entry.specs.Next.{is_free_block, start_of, block_may_be, until_of, until_may_be, IsNextEntry}
use Rattle.reg_entry.specs.Register.{Register, register_pieces, piece_of}
use Rattle.reg_entry.specs.Request.{amount_size, has_size, IsSizedRequest}
use Rattle.reg_laws.proofs.NextFacts.{next_facts}
use Rattle.desk_text.specs.EntryText.{CardHasDates}
use Rattle.desk_lang.specs.EntryReading.{IsHolderNumber, IsWritableCard}

-- the card lies beside a cover, and its days are dates
abbrev FitsCover : Option PlainRange → Option Card → Type 0
FitsCover cover None = Unit {0}
FitsCover None (Some card) = ⊥
FitsCover (Some range) (Some card) = (card.day ≤ last_date) × (card.until ≤ last_date)

pub record FitsText (e : PlainEntry) : Type 0 where
  pub some_day : 1 ≤ e.day
  pub date : e.day ≤ last_date
  pub card : FitsCover e.cover e.card
  pub sized : IsSizedRequest e.request

sized : (r : Register) (request : Request) (start : Option ℕ) → block_may_be r request start ≡ true → IsSizedRequest request
sized r (Receive range) start h = tt
sized r (AddHolder holder) start h = tt
sized r (EditHolder holder) start h = tt
sized r (Delegate space amount status handle) start h =
    (and_parts (has_size space amount) (option_map_or (is_free_block (register_pieces r space) space (amount_size space amount)) start false) h).0
sized r (Reserve range) start h = tt
sized r (Unreserve range) start h = tt
sized r (SubAssign range handle) start h = tt
sized r (SubReturn range) start h = tt
sized r (Return range handle) start h = tt
sized r (Release range) start h = tt
sized r (Split at) start h = tt
sized r (Join at) start h = tt
sized r (Transfer range from to) start h = tt
sized r (SetReverse range servers) start h = tt
sized r (ClearReverse range) start h = tt

-- a returned or transferred piece is kept up to a date
until_date : (day until : ℕ) → (nat_le day until && nat_le until last_date) ≡ true → until ≤ last_date
until_date day until h = leb-true until last_date (and_parts (nat_le day until) (nat_le until last_date) h).1

module _ (r : Register) (day until : ℕ) (date : day ≤ last_date) where
  fits : (request : Request) (start : Option ℕ) → block_may_be r request start ≡ true → until_may_be request day until ≡ true → FitsCover (cover_for r request start) (card_for r request day until)
  fits (Receive range) start block kept = (omega arith, omega arith)
  fits (AddHolder holder) start block kept = tt
  fits (EditHolder holder) start block kept = tt
  fits (Delegate space amount status handle) None block kept = absurd (false≢true (and_parts (has_size space amount) false block).1)
  fits (Delegate space amount status handle) (Some first) block kept = (date, omega arith)
  fits (Reserve range) start block kept = (date, omega arith)
  fits (Unreserve range) start block kept = (omega arith, omega arith)
  fits (SubAssign range handle) start block kept = tt
  fits (SubReturn range) start block kept = tt
  fits (Return range handle) start block kept = (date, until_date day until kept)
  fits (Release range) start block kept = (omega arith, omega arith)
  fits (Split at) start block kept = tt
  fits (Join at) start block kept = tt
  fits (Transfer range from to) start block kept = moved (piece_of r.pool (first_number range))
    where
      moved : (piece : Option Piece) → FitsCover (Some range) (option_map (λ p. holder_card p.card.status (holder_number r.holders to) day until) piece)
      moved None = tt
      moved (Some p) = (date, until_date day until kept)
  fits (SetReverse range servers) start block kept = tt
  fits (ClearReverse range) start block kept = tt

pub next_fits : (r : Register) (e : PlainEntry) → IsNextEntry r e → FitsText e
next_fits r e h =
    let facts = next_facts r e h in
    let days = and_parts (nat_le 1 e.day && nat_le r.last_day e.day) (nat_le e.day last_date) facts.day in
    let date = leb-true e.day last_date days.1 in
    let painted = fits r e.day (until_of e.card) date e.request (start_of e.cover) facts.block facts.until in
    record {
      some_day = leb-true 1 e.day (and_parts (nat_le 1 e.day) (nat_le r.last_day e.day) days.0).0;
      date = date;
      card =
          subst (λ (cover : Option PlainRange). FitsCover cover e.card) (sym facts.cover)
          (subst (λ (card : Option Card). FitsCover (cover_for r e.request (start_of e.cover)) card) (sym facts.card) painted);
      sized = sized r e.request (start_of e.cover) facts.block;
    }

pub card_fits : (cover : Option PlainRange) (card : Option Card) → FitsCover cover card → IfSome card (λ c. IsHolderNumber c.holder) → IsWritableCard cover card
card_fits cover None h k = tt
card_fits None (Some card) h k = h
card_fits (Some range) (Some card) h k = (k, h.0, h.1)

pub card_dates : (cover : Option PlainRange) (card : Option Card) → FitsCover cover card → CardHasDates card
card_dates cover None h = tt
card_dates None (Some card) h = absurd h
card_dates (Some range) (Some card) h = h
