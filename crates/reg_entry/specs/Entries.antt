-- What a list of entries says of each number by itself, with no pieces in it: the card of the last entry that painted
-- the number, and what was received.
use Rattle.std.specs.Prelude.{ℕ, ◌+◌, Bool, false, if◌then◌else◌, List, [], ◌∷◌, Option, None, Some}
use Rattle.std.specs.Option.{option_or}
use Rattle.std.specs.List.{filter_map, list_any}
use Rattle.num_range.specs.declared.space.Space.{Space}
use Rattle.num_range.specs.Number.{PlainNumber}
use Rattle.num_range.specs.Range.{PlainRange, size_of}
use Rattle.reg_entry.specs.declared.card.Card.{Card}
use Rattle.reg_entry.specs.declared.request.Request.{Request}
use Rattle.reg_entry.specs.declared.request.Request.TheVariants.{Receive}
use Rattle.reg_entry.specs.Entry.{PlainEntry}
use Rattle.reg_entry.specs.Ranges.{same_space, range_holds}

-- the number is one of the entry's cover
abbrev pub covers : Option PlainRange → PlainNumber → Bool
covers None n = false
covers (Some r) n = range_holds r n

-- the card that the entry paints over the number
abbrev pub painted_card : PlainEntry → PlainNumber → Option Card
painted_card e n = if covers e.cover n then e.card else None

-- the card of the last entry that painted the number
abbrev pub last_card : List PlainEntry → PlainNumber → Option Card
last_card [] n = None
last_card (e ∷ es) n = option_or (last_card es n) (painted_card e n)

abbrev pub received_range : Request → Option PlainRange
received_range (Receive range) = Some range
received_range request = None

-- the ranges that came into the pool
abbrev pub received : List PlainEntry → List PlainRange
received es = filter_map (λ e. received_range e.request) es

-- one of the ranges that came into the pool has the number
abbrev pub is_received : List PlainEntry → PlainNumber → Bool
is_received es n = list_any (λ r. range_holds r n) (received es)

-- how many numbers of a space an entry brought into the pool
abbrev pub size_within : Space → Option PlainRange → ℕ
size_within space None = 0
size_within space (Some r) = if same_space r.space space then size_of r else 0

-- how many numbers of a space came into the pool
abbrev pub received_size : List PlainEntry → Space → ℕ
received_size [] space = 0
received_size (e ∷ es) space = size_within space (received_range e.request) + received_size es space

-- ---- the days of a list of entries

-- the day of the first entry, or 0 where there is none
abbrev pub first_day_of : List PlainEntry → ℕ
first_day_of [] = 0
first_day_of (e ∷ es) = e.day

-- the day of the last entry, or a day where there is none
abbrev pub last_day_after : ℕ → List PlainEntry → ℕ
last_day_after day [] = day
last_day_after day (e ∷ es) = last_day_after e.day es

-- the day of the last entry, or 0 where there is none
abbrev pub last_day_of : List PlainEntry → ℕ
last_day_of es = last_day_after 0 es
