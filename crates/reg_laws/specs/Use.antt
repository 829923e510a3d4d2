-- How many numbers of an allocation are used: sub-assigned.
use Rattle.std.specs.Prelude.{ℕ, ◌&&◌, if◌then◌else◌, List, Option}
use Rattle.std.specs.Option.{option_map_or}
use Rattle.num_range.specs.declared.space.Space.{Space}
use Rattle.num_range.specs.Range.{PlainRange}
use Rattle.reg_entry.specs.declared.card.Card.{Card}
use Rattle.reg_entry.specs.declared.sub_card.SubCard.{SubCard}
use Rattle.reg_entry.specs.Ranges.{same_space, ranges_inside}
use Rattle.reg_entry.specs.Sums.{ranges_size}
use Rattle.reg_entry.specs.Holdings.{gives_allocated}

-- how many of the holder's numbers of the space the subs inside the range use, if the numbers of the range have the card
abbrev pub used_by_card : List (PlainRange × SubCard) → ℕ → Space → PlainRange → Card → ℕ
used_by_card subs holder space range c =
    if same_space range.space space && gives_allocated holder c then ranges_size (ranges_inside subs range) else 0

-- the same of a card that may be none
abbrev pub used_by : List (PlainRange × SubCard) → ℕ → Space → PlainRange → Option Card → ℕ
used_by subs holder space range card = option_map_or (used_by_card subs holder space range) card 0
