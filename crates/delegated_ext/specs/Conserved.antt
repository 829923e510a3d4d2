-- What the records say of the numbers: none stands in two of them, and together they have what was received.
use Rattle.std.specs.Prelude.{◌≡◌, ℕ, ◌+◌, Bool, true, ◌&&◌, nat_le, nat_lt, if◌then◌else◌, AllPairs, List, [], ◌∷◌, filter, map, option_to_list}
use Rattle.std.specs.List.{list_any}
use Rattle.num_range.specs.declared.space.Space.{Space}
use Rattle.num_range.specs.Space.{same_space}
use Rattle.num_range.specs.Number.{PlainNumber}
use Rattle.reg_entry.specs.declared.card.Card.{Card}
use Rattle.reg_entry.specs.Entry.{PlainEntry}
use Rattle.reg_entry.specs.Entries.{is_received, last_card, received_size}
use Rattle.delegated_ext.specs.declared.record_line.RecordLine.{RecordLine}

-- the number is one of the record's
abbrev pub record_has : PlainNumber → RecordLine → Bool
record_has n line =
    same_space line.space n.space && nat_le line.start n.value && nat_lt n.value (line.start + line.size)

-- no number is one of two records'
abbrev pub AreDisjoint : List RecordLine → Type 0
AreDisjoint lines =
    AllPairs (λ line later. (n : PlainNumber) → record_has n line ≡ true → record_has n later ≡ true → ⊥) lines

-- the cards of all records that have the number
abbrev pub cards_in_records : List RecordLine → PlainNumber → List Card
cards_in_records lines n = map (λ line. line.card) (filter (record_has n) lines)

-- how many numbers of the space the records have, by their sizes
abbrev pub records_size : List RecordLine → Space → ℕ
records_size [] space = 0
records_size (line ∷ lines) space = (if same_space line.space space then line.size else 0) + records_size lines space

-- the records are those of the numbers that the entries received
pub record AreOfReceived (es : List PlainEntry) (lines : List RecordLine) : Type 0 where
  pub disjoint : AreDisjoint lines
  -- they have the numbers that were received, and no others
  pub exact : (n : PlainNumber) → list_any (record_has n) lines ≡ is_received es n
  -- each number stands with the card of the last entry that painted it
  pub cards : (n : PlainNumber) → cards_in_records lines n ≡ option_to_list (last_card es n)
  -- and the sizes of a space's records add up to what was received of it
  pub sizes : (space : Space) → records_size lines space ≡ received_size es space
