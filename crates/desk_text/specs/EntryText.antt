-- The one text that is written of an entry: its number and day, who asked, what it covers, the card that it lays and the
-- request, parted by single blanks. What isn't there is `-`.
use Rattle.std.specs.Prelude.{ℕ, ◌≤◌, ◌==◌, if◌then◌else◌, List, ◌++◌, Option, None, Some, codes, decimal}
use Rattle.num_range.specs.Range.{PlainRange}
use Rattle.reg_entry.specs.declared.card.Card.{Card}
use Rattle.reg_entry.specs.Days.{last_date, day_text}
use Rattle.reg_entry.specs.Entry.{PlainEntry}
use Rattle.desk_text.specs.Vocabulary.{status_word}
use Rattle.desk_text.specs.RequestText.{range_word, request_text}

-- the days of the card can be written with a year of four digits
abbrev pub CardHasDates : Option Card → Type 0
CardHasDates None = Unit {0}
CardHasDates (Some card) = (card.day ≤ last_date) × (card.until ≤ last_date)

abbrev pub cover_word : Option PlainRange → List ℕ
cover_word None = codes "-"
cover_word (Some range) = range_word range

-- the holder's number
abbrev pub holder_word : Option ℕ → List ℕ
holder_word None = codes "-"
holder_word (Some holder) = decimal holder

-- a day of a card, where 0 is none
abbrev pub day_word : ℕ → List ℕ
day_word day = if day == 0 then codes "-" else day_text day

-- status, holder, day and until
abbrev pub card_text : Option Card → List ℕ
card_text None = codes "- - - -"
card_text (Some card) =
    status_word card.status ++ codes " " ++ holder_word card.holder ++ codes " " ++ day_word card.day ++ codes " "
    ++ day_word card.until

abbrev pub entry_text : PlainEntry → List ℕ
entry_text e =
    decimal e.seq ++ codes " " ++ day_text e.day ++ codes " " ++ e.who ++ codes " " ++ cover_word e.cover ++ codes " "
    ++ card_text e.card ++ codes " " ++ request_text e.request
