-- What a course keeps at every moment, and from each moment to every later one.
use Rattle.std.specs.Prelude.{◌≡◌, ℕ, ◌≤◌, true, List, [], ◌∷◌, length, take, option_to_list}
use Rattle.std.specs.Option.{is_some}
use Rattle.num_range.specs.declared.space.Space.{Space}
use Rattle.num_range.specs.Number.{PlainNumber}
use Rattle.reg_entry.specs.Request.{is_request}
use Rattle.reg_entry.specs.Pieces.{cards_at, size_sum}
use Rattle.reg_entry.specs.Entries.{last_card, is_received, received_size}
use Rattle.reg_entry.specs.Register.{register_pieces}
use Rattle.reg_entry.specs.Next.{IsLegal}
use Rattle.reg_entry.specs.Objects.{objects_of}
use Rattle.reg_entry.specs.Operations.{operations_of, objects_after}
use Rattle.reg_entry.specs.Whole.{IsWholeRegister}
use Rattle.course_core.specs.declared.event.Event.{Event}
use Rattle.course_core.specs.declared.event.Event.TheVariants.{Submit}
use Rattle.course_core.specs.Course.{PlainCourse, register_at, serial_at, published_serial, seen_by, serial_of}

-- ---- the events

-- the ranges and numbers of a request are those of their spaces
abbrev pub IsEvent : Event → Type 0
IsEvent (Submit day who request) = is_request request ≡ true
IsEvent e = Unit {0}

abbrev pub AreEvents : List Event → Type 0
AreEvents [] = Unit {0}
AreEvents (e ∷ es) = IsEvent e × AreEvents es

-- ---- at every moment

pub record KeepsPromises (c : PlainCourse) : Type 0 where
  -- each entry might come next after those before it; so the first entries are a legal list, however many
  pub legal : IsLegal c.rooms c.journal
  pub fronts : (k : ℕ) → IsLegal c.rooms (take k c.journal)
  -- what a pass has seen is published, and what is published is in the journal
  pub published : c.published ≤ length c.journal
  pub seen : (pass : ℕ) → seen_by c pass ≤ c.published
  -- what a mirror was fed is published
  pub fed : (mirror : ℕ) → serial_of c mirror ≤ published_serial c
  -- after each entry the register is whole
  pub whole : (k : ℕ) → IsWholeRegister (register_at c k)
  -- there each number has the card of the last entry that painted it, in just one piece; and lies in no piece where none did
  pub cards : (k : ℕ) (n : PlainNumber)
      → cards_at (register_pieces (register_at c k) n.space) n.value ≡ option_to_list (last_card (take k c.journal) n)
  -- those that some entry painted are those that were received, and the pieces of each space have just as many numbers
  pub pooled : (k : ℕ) (n : PlainNumber) → is_some (last_card (take k c.journal) n) ≡ is_received (take k c.journal) n
  pub sizes : (k : ℕ) (space : Space)
      → size_sum (register_pieces (register_at c k) space) ≡ received_size (take k c.journal) space
  -- the first operations, up to the last of an entry, played on nothing give the objects of the register after that entry
  pub objects : (k : ℕ) → objects_after (take (serial_at c k) (operations_of c.rooms c.journal)) ≡ objects_of (register_at c k)

-- ---- from one moment to a later one

-- no entry goes, and no count falls
pub record NothingFalls (before after : PlainCourse) : Type 0 where
  pub entries : length before.journal ≤ length after.journal
  pub prefixes : (k : ℕ) → k ≤ length before.journal → take k after.journal ≡ take k before.journal
  pub published : before.published ≤ after.published
  pub seen : (pass : ℕ) → seen_by before pass ≤ seen_by after pass
  pub serials : (mirror : ℕ) → serial_of before mirror ≤ serial_of after mirror

-- the counts rise, from one count to the length of a list: each is that of a prefix of the list, and none is shorter than the
-- one before it
abbrev pub AreRisingPrefixes : {T : Type 0} → ℕ → List ℕ → List T → Type 0
AreRisingPrefixes low [] xs = low ≤ length xs
AreRisingPrefixes low (n ∷ ns) xs = (low ≤ n) × AreRisingPrefixes n ns xs
