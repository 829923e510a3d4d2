-- Cards: what the register knows of a number.
use Rattle.std.specs.Prelude.{ℕ, Bool, true, false, ◌&&◌, ◌==◌, nat_eq, None}
use Rattle.std.specs.Option.{option_eq}
use Rattle.reg_entry.specs.declared.card.Status.{Status}
use Rattle.reg_entry.specs.declared.card.Status.TheVariants.{Available, Reserved, Quarantine, Allocated, Assigned}
use Rattle.reg_entry.specs.declared.card.Card.{Card}

-- the numbers may be delegated
abbrev pub is_available : Status → Bool
is_available Available = true
is_available Reserved = false
is_available Quarantine = false
is_available Allocated = false
is_available Assigned = false

-- the card of numbers that nobody holds and nothing is kept of
abbrev pub plain_card : Card
plain_card = record { status = Available; holder = None; day = 0; until = 0 }

-- the numbers are a holder's
abbrev pub is_delegated : Status → Bool
is_delegated Available = false
is_delegated Reserved = false
is_delegated Quarantine = false
is_delegated Allocated = true
is_delegated Assigned = true

-- the place of a status in the order of their kinds
abbrev pub status_rank : Status → ℕ
status_rank Available = 0
status_rank Reserved = 1
status_rank Quarantine = 2
status_rank Allocated = 3
status_rank Assigned = 4

abbrev pub same_status : Status → Status → Bool
same_status a b = status_rank a == status_rank b

abbrev pub same_card : Card → Card → Bool
same_card a b = same_status a.status b.status && option_eq nat_eq a.holder b.holder && (a.day == b.day) && (a.until == b.until)
