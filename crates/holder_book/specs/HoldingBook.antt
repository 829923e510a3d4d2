-- A book of holdings as contracts see it: what each holder holds, in the order of the holders' numbers.
use Rattle.std.specs.Prelude.{ℕ, ◌^◌, ◌≤◌, ◌&&◌, if◌then◌else◌, List, Option, None, length, slice_get}
use Rattle.std.specs.Option.{option_map_or}
use Rattle.num_range.specs.declared.space.Space.{Space}
use Rattle.num_range.specs.declared.space.Space.TheVariants.{Asn, Ipv4, Ipv6}
use Rattle.num_range.specs.Range.{PlainRange}
use Rattle.num_range.specs.Space.{same_space}
use Rattle.reg_entry.specs.declared.card.Card.{Card}
use Rattle.reg_entry.specs.declared.card.Status.TheVariants.{Allocated}
use Rattle.reg_entry.specs.Card.{is_delegated, same_status}
use Rattle.reg_entry.specs.Holdings.{gives_allocated}
use Rattle.holder_book.specs.declared.holding_book.Held.{Held}
use Rattle.holder_book.specs.declared.holding_book.Holding.{Holding}

pub record PlainHoldingBook : Type 0 where
  pub holdings : List Holding
  pub room : ℕ

-- what of it is of one space
abbrev pub of_space : Holding → Space → Held
of_space h Asn = h.asn
of_space h Ipv4 = h.ipv4
of_space h Ipv6 = h.ipv6

abbrev pub with_space : Holding → Space → Held → Holding
with_space h Asn x = record { asn = x; ipv4 = h.ipv4; ipv6 = h.ipv6 }
with_space h Ipv4 x = record { asn = h.asn; ipv4 = x; ipv6 = h.ipv6 }
with_space h Ipv6 x = record { asn = h.asn; ipv4 = h.ipv4; ipv6 = x }

-- how many numbers of the space the holder of this number holds, and 0 where there is no such holder
abbrev pub held_in : PlainHoldingBook → ℕ → Space → ℕ
held_in b holder space = option_map_or (λ h. (of_space h space).held) (slice_get b.holdings holder) 0

-- how many of them are allocated
abbrev pub allocated_in : PlainHoldingBook → ℕ → Space → ℕ
allocated_in b holder space = option_map_or (λ h. (of_space h space).allocated) (slice_get b.holdings holder) 0

-- how many of these are used
abbrev pub used_in : PlainHoldingBook → ℕ → Space → ℕ
used_in b holder space = option_map_or (λ h. (of_space h space).used) (slice_get b.holdings holder) 0

-- how many numbers of the space are used of those that are allocated to the holder by the card, if the numbers of the range
-- have it and so many of them are used
abbrev pub used_of_card : ℕ → Space → PlainRange → Card → ℕ → ℕ
used_of_card holder space range c used = if same_space range.space space && gives_allocated holder c then used else 0

-- the same of a card that may be none
abbrev pub used_of : ℕ → Space → PlainRange → Option Card → ℕ → ℕ
used_of holder space range card used = option_map_or (λ c. used_of_card holder space range c used) card 0

-- who holds the numbers with this card
abbrev pub holder_of : Card → Option ℕ
holder_of c = if is_delegated c.status then c.holder else None

-- to whom the numbers with this card are allocated
abbrev pub allocated_to : Card → Option ℕ
allocated_to c = if same_status c.status Allocated then c.holder else None

-- the capacity is the list's
pub record IsHoldingBook (holdings : List Holding) (room capacity : ℕ) : Type 0 where
  pub within : length holdings ≤ room
  pub at_most : room ≤ 2 ^ 30
  pub reserved : room ≤ capacity
