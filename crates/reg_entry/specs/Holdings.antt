-- How many numbers a card over a range gives a holder.
use Rattle.std.specs.Prelude.{ℕ, Bool, ◌&&◌, nat_eq, if◌then◌else◌, Option, Some}
use Rattle.std.specs.Option.{option_eq, option_map_or}
use Rattle.num_range.specs.declared.space.Space.{Space}
use Rattle.num_range.specs.Range.{PlainRange, size_of}
use Rattle.reg_entry.specs.declared.card.Card.{Card}
use Rattle.reg_entry.specs.declared.card.Status.TheVariants.{Allocated}
use Rattle.reg_entry.specs.Card.{same_status, is_delegated}
use Rattle.num_range.specs.Space.{same_space}

-- the numbers with this card are the holder's
abbrev pub gives_held : ℕ → Card → Bool
gives_held holder c = is_delegated c.status && option_eq nat_eq c.holder (Some holder)

-- the numbers with this card are allocated to the holder
abbrev pub gives_allocated : ℕ → Card → Bool
gives_allocated holder c = same_status c.status Allocated && option_eq nat_eq c.holder (Some holder)

-- how many numbers of the space the holder has by the card, if the numbers of the range have it
abbrev pub held_by_card : ℕ → Space → PlainRange → Card → ℕ
held_by_card holder space range c = if same_space range.space space && gives_held holder c then size_of range else 0

-- how many numbers of the space are allocated to the holder by the card, if the numbers of the range have it
abbrev pub allocated_by_card : ℕ → Space → PlainRange → Card → ℕ
allocated_by_card holder space range c = if same_space range.space space && gives_allocated holder c then size_of range else 0

-- the same of a card that may be none
abbrev pub held_by : ℕ → Space → PlainRange → Option Card → ℕ
held_by holder space range card = option_map_or (held_by_card holder space range) card 0

abbrev pub allocated_by : ℕ → Space → PlainRange → Option Card → ℕ
allocated_by holder space range card = option_map_or (allocated_by_card holder space range) card 0
