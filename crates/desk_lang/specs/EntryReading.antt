-- The entry that a text spells, and how one is found: its words, one behind the other, and the request's line.
use Rattle.std.specs.Prelude.{◌≡◌, ℕ, ◌-◌, ◌^◌, ◌<◌, ◌≤◌, if◌then◌else◌, List, Option, None, Some, Result, Ok, Err, codes, IsTrue}
use Rattle.std.specs.Option.{option_map}
use Rattle.std.specs.Str.{bytes_eq}
use Rattle.num_range.specs.Range.{PlainRange, IsRange}
use Rattle.addr_text.specs.Reading.{decimal_up_to, range_of}
use Rattle.reg_entry.specs.declared.card.Card.{Card}
use Rattle.reg_entry.specs.declared.card.Status.{Status}
use Rattle.reg_entry.specs.declared.card.Status.TheVariants.{Available, Reserved, Quarantine, Allocated, Assigned}
use Rattle.reg_entry.specs.declared.request.Request.{Request as ARequest}
use Rattle.reg_entry.specs.Days.{last_date, day_of_text}
use Rattle.reg_entry.specs.Entry.{PlainEntry}
use Rattle.reg_entry.specs.Name.{is_name}
use Rattle.desk_lang.specs.declared.line.Line.{Line}
use Rattle.desk_lang.specs.declared.line.Line.TheVariants.{Request}
use Rattle.desk_lang.specs.declared.rest.Form.TheVariants.{Plain}
use Rattle.desk_lang.specs.declared.rest.Malformed.{Malformed}
use Rattle.desk_text.specs.EntryText.{entry_text}
use Rattle.desk_text.specs.Vocabulary.{status_word}
use Rattle.desk_lang.specs.Words.{PlainRest, next_value, malformed_at, ◌>>=◌}
use Rattle.desk_lang.specs.Values.{label_of, decimal_of}
use Rattle.desk_lang.specs.Grammar.{line_of}
use Rattle.desk_lang.specs.Writable.{IsWritable}

-- ---- which entry a text spells

abbrev pub IsWritableCover : Option PlainRange → Type 0
IsWritableCover None = Unit {0}
IsWritableCover (Some range) = IsRange range

abbrev pub IsHolderNumber : Option ℕ → Type 0
IsHolderNumber None = Unit {0}
IsHolderNumber (Some holder) = holder < 2 ^ 32

-- a card lies beside a cover alone, its holder's number has 32 bits, and its days are dates
abbrev pub IsWritableCard : Option PlainRange → Option Card → Type 0
IsWritableCard cover None = Unit {0}
IsWritableCard None (Some card) = ⊥
IsWritableCard (Some range) (Some card) = IsHolderNumber card.holder × (card.day ≤ last_date) × (card.until ≤ last_date)

pub record IsWritableEntry (e : PlainEntry) : Type 0 where
  pub seq : e.seq < 2 ^ 64
  pub some_day : 1 ≤ e.day
  pub date : e.day ≤ last_date
  pub who : IsTrue (is_name e.who)
  pub cover : IsWritableCover e.cover
  pub card : IsWritableCard e.cover e.card
  pub request : IsWritable e.request

-- the text is the one that is written of the entry
abbrev pub SpellsEntry : List ℕ → PlainEntry → Type 0
SpellsEntry text e = IsWritableEntry e × (text ≡ entry_text e)

-- ---- the words

-- `-`, or a value
abbrev pub optional : {T : Type 0} → (List ℕ → Option T) → List ℕ → Option (Option T)
optional value word = if bytes_eq word (codes "-") then Some None else option_map Some (value word)

-- a day of a card, where `-` is 0
abbrev pub card_day_of : List ℕ → Option ℕ
card_day_of word = if bytes_eq word (codes "-") then Some 0 else day_of_text word

abbrev pub seq_of : List ℕ → Option ℕ
seq_of = decimal_up_to (2 ^ 64 - 1)

abbrev pub status_of_word : List ℕ → Option Status
status_of_word word =
    if bytes_eq word (status_word Available) then Some Available
    else (if bytes_eq word (status_word Reserved) then Some Reserved
    else (if bytes_eq word (status_word Quarantine) then Some Quarantine
    else (if bytes_eq word (status_word Allocated) then Some Allocated
    else (if bytes_eq word (status_word Assigned) then Some Assigned else None))))

-- a card whose status is there
abbrev pub card_of_words : Option Status → Option ℕ → ℕ → ℕ → Option Card
card_of_words None holder day until = None
card_of_words (Some status) holder day until = Some (record { status = status; holder = holder; day = day; until = until })

abbrev pub request_of_line : ℕ → Result Line Malformed → Result ARequest Malformed
request_of_line place (Ok (Request request)) = Ok request
request_of_line place line = Err (malformed_at place)

-- the request behind the words
abbrev pub request_of_rest : PlainRest → Result ARequest Malformed
request_of_rest rest = request_of_line rest.place (line_of rest.text)

-- an entry's line, whose text may still be another than the one that is written of the entry
unfoldable pub entry_line : PlainRest → Result PlainEntry Malformed
entry_line rest = do
  seq ← next_value Plain seq_of rest
  day ← next_value Plain day_of_text seq.1
  who ← next_value Plain (label_of is_name) day.1
  cover ← next_value Plain (optional range_of) who.1
  status ← next_value Plain (optional status_of_word) cover.1
  holder ← next_value Plain (optional decimal_of) status.1
  from ← next_value Plain card_day_of holder.1
  until ← next_value Plain card_day_of from.1
  request ← request_of_rest until.1
  Ok (record { seq = seq.0; day = day.0; who = who.0; request = request; cover = cover.0; card = card_of_words status.0 holder.0 from.0 until.0 })
