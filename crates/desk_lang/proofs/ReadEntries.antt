-- An entry's written text is read as the entry.
use Rattle.std.proofs.Common.{◌≡◌, ℕ, ◌+◌, ◌-◌, ◌/◌, ◌%◌, ◌^◌, ◌<◌, ◌≤◌, true, false, ◌==◌, ◌&&◌, nat_le, List, [], ◌∷◌, ◌++◌, length, All, Option, None, Some, Ok, decimal, codes, refl, sym, ap, ◌∙◌, subst, inl, inr, arith, append_assoc}
use Rattle.std.proofs.lemmas.Bool.{cond-true, cond-false, cases_eq, cond_both, eq-eqb, ne_eqb, false_from_ne_true, and_parts, leb-true}
use Rattle.std.proofs.lemmas.Bool.Decides.{nat_tests}
use Rattle.std.specs.List.{list_all}
use Rattle.std.proofs.lemmas.Fmt.{length-decimal-le, decimal_nonempty}
use Rattle.std.proofs.lemmas.List.Elements.{All-nil, All-cons, All-append}
use Rattle.std.proofs.lemmas.Option.{none-some}
use Rattle.std.proofs.lemmas.Slice.Eq.{bytes_eq-Decides}
use Rattle.std.specs.Fmt.{digits}
use Rattle.std.specs.Option.{option_map}
use Rattle.std.specs.Str.{bytes_eq}
use Rattle.std.specs.Net.Reader.{read_ipv4, read_octet, read_number, read_ipv6, read_segments, read_segment}
use Rattle.num_range.specs.Range.{PlainRange}
use Rattle.addr_text.specs.Reading.{range_of, block_of_text, whole_block_of, first_to_last_of}
use Rattle.addr_text.proofs.Computed.{decimal_found}
use Rattle.reg_entry.specs.declared.card.Card.{Card}
use Rattle.reg_entry.specs.declared.card.Status.{Status}
use Rattle.reg_entry.specs.declared.card.Status.TheVariants.{Available, Reserved, Quarantine, Allocated, Assigned}
use Rattle.reg_entry.specs.Days.{last_date, two_digits, date_text, date_of_day, day_text, day_of_text}
use Rattle.reg_entry.specs.Entry.{PlainEntry}
use Rattle.reg_entry.specs.Name.{is_name_byte, is_name}
use Rattle.reg_entry.proofs.DayTexts.{day_value}
use Rattle.desk_text.specs.EntryText.{cover_word, holder_word, day_word, card_text, entry_text}
use Rattle.desk_lang.specs.EntryReading.{IsWritableCover, IsHolderNumber, IsWritableCard, IsWritableEntry, SpellsEntry, optional, card_day_of, seq_of, status_of_word, card_of_words, request_of_line, entry_line}
use Rattle.desk_text.specs.RequestText.{range_word, request_text}
use Rattle.desk_lang.specs.Values.{label_of, decimal_of}
use Rattle.desk_text.specs.Vocabulary.{status_word}
use Rattle.desk_lang.specs.Words.{rest_at, ◌>>=◌}
use Rattle.desk_lang.proofs.ReadWords.{IsWordByte, IsWord, first_read, plain_read}
use Rattle.desk_lang.proofs.WordForms.{decimal_bytes, range_is_word, length_range, all_from_test}
use Rattle.desk_lang.proofs.ReadValues.{decimal_back, range_back, label_back}
use Rattle.desk_lang.proofs.ReadLines.{decimal_is_word, literal_word, length_two, length_request, behind_blank_reads}

-- ---- the words

-- a value that is there isn't written `-`
optional_back : {T : Type 0} (value : List ℕ → Option T) (x : T) (word : List ℕ) → value word ≡ Some x → value (codes "-") ≡ None → optional value word ≡ Some (Some x)
optional_back value x word some none =
    cond-false (bytes_eq word (codes "-")) (Some None) (option_map Some (value word)) (not_dash value x word some none)
    ∙ ap (option_map Some) some
  where
    not_dash : {T : Type 0} (value : List ℕ → Option T) (x : T) (word : List ℕ) → value word ≡ Some x → value (codes "-") ≡ None → bytes_eq word (codes "-") ≡ false
    not_dash value x word some none =
        false_from_ne_true (bytes_eq word (codes "-")) (λ e. none-some x (sym none ∙ ap value (sym ((bytes_eq-Decides word (codes "-")).0 e)) ∙ some))

seq_back : (n : ℕ) → n < 2 ^ 64 → seq_of (decimal n) ≡ Some n
seq_back n fits = decimal_found (2 ^ 64 - 1) n (decimal n) refl (omega arith) (omega arith)

pub day_back : (day : ℕ) → 1 ≤ day → day ≤ last_date → day_of_text (day_text day) ≡ Some day
day_back day some date =
    sym (day_value (day_text day) (Some day) ((λ _. (day, (some, date, refl))), (λ _. refl)) (some, date, refl))

status_back : (status : Status) → optional status_of_word (status_word status) ≡ Some (Some status)
status_back Available = refl
status_back Reserved = refl
status_back Quarantine = refl
status_back Allocated = refl
status_back Assigned = refl

dash_is_word : IsWord (codes "-")
dash_is_word = literal_word (codes "-") (omega arith) refl

status_is_word : (status : Status) → IsWord (status_word status)
status_is_word Available = literal_word (codes "available") (omega arith) refl
status_is_word Reserved = literal_word (codes "reserved") (omega arith) refl
status_is_word Quarantine = literal_word (codes "quarantine") (omega arith) refl
status_is_word Allocated = literal_word (codes "allocated") (omega arith) refl
status_is_word Assigned = literal_word (codes "assigned") (omega arith) refl

no_range : range_of (codes "-") ≡ None
unfolding read_ipv4 read_octet read_number read_ipv6 read_segments read_segment block_of_text whole_block_of first_to_last_of
no_range = refl

no_decimal : decimal_of (codes "-") ≡ None
unfolding digits
no_decimal = refl

cover_back : (cover : Option PlainRange) → IsWritableCover cover → optional range_of (cover_word cover) ≡ Some cover
cover_back None h = refl
cover_back (Some range) h = optional_back range_of range (range_word range) (range_back range h) no_range

cover_is_word : (cover : Option PlainRange) → IsWritableCover cover → IsWord (cover_word cover)
cover_is_word None h = dash_is_word
cover_is_word (Some range) h = range_is_word range h

holder_back : (holder : Option ℕ) → IsHolderNumber holder → optional decimal_of (holder_word holder) ≡ Some holder
holder_back None h = refl
holder_back (Some n) h = optional_back decimal_of n (decimal n) (decimal_back n h) no_decimal

holder_is_word : (holder : Option ℕ) → IsHolderNumber holder → IsWord (holder_word holder)
holder_is_word None h = dash_is_word
holder_is_word (Some n) h = decimal_is_word n h

digit_byte : (n : ℕ) → IsWordByte (48 + n)
digit_byte n = (omega arith, omega arith, omega arith)

pair_bytes : (n : ℕ) → All IsWordByte (two_digits n)
pair_bytes n =
    All-cons IsWordByte (48 + n / 10) ((48 + n % 10) ∷ []) (digit_byte (n / 10)) (All-cons IsWordByte (48 + n % 10) [] (digit_byte (n % 10)) (All-nil IsWordByte))

date_is_word : (year month day : ℕ) → IsWord (date_text year month day)
date_is_word year month day = record {
  some = omega arith;
  bytes =
      All-append IsWordByte (two_digits (year / 100) ++ two_digits (year % 100) ++ two_digits month) (two_digits day)
      (All-append IsWordByte (two_digits (year / 100) ++ two_digits (year % 100)) (two_digits month)
      (All-append IsWordByte (two_digits (year / 100)) (two_digits (year % 100)) (pair_bytes (year / 100)) (pair_bytes (year % 100))) (pair_bytes month)) (pair_bytes day);
}

pub day_is_word : (day : ℕ) → IsWord (day_text day)
day_is_word day = date_is_word (date_of_day day).0 (date_of_day day).1 (date_of_day day).2

card_day_back : (day : ℕ) → day ≤ last_date → card_day_of (day_word day) ≡ Some day
card_day_back day date =
    elim (cases_eq day 0) [
      | inl none ↦ ap card_day_of (cond-true (day == 0) (codes "-") (day_text day) (eq-eqb day 0 none)) ∙ ap Some (sym none)
      | inr some ↦
          let back = day_back day (omega arith) date in
          ap card_day_of (cond-false (day == 0) (codes "-") (day_text day) (ne_eqb day 0 some))
          ∙ cond-false (bytes_eq (day_text day) (codes "-")) (Some 0) (day_of_text (day_text day)) (no_dash (date_of_day day).0 (date_of_day day).1 (date_of_day day).2)
          ∙ back
    ]
  where
    no_dash : (year month day : ℕ) → bytes_eq (date_text year month day) (codes "-") ≡ false
    no_dash year month day = false_from_ne_true _ (λ e. absurd (omega (arith, ap length ((bytes_eq-Decides (date_text year month day) (codes "-")).0 e))))

card_day_is_word : (day : ℕ) → IsWord (day_word day)
card_day_is_word day =
    elim (cases_eq day 0) [
      | inl none ↦ subst IsWord (sym (cond-true (day == 0) (codes "-") (day_text day) (eq-eqb day 0 none))) dash_is_word
      | inr some ↦ subst IsWord (sym (cond-false (day == 0) (codes "-") (day_text day) (ne_eqb day 0 some))) (day_is_word day)
    ]

name_byte : (b : ℕ) → is_name_byte b ≡ true → IsWordByte b
name_byte b h = (λ e. grind (arith, nat_tests), λ e. grind (arith, nat_tests), λ e. grind (arith, nat_tests))

name_is_word : (name : List ℕ) → is_name name ≡ true → IsWord name
name_is_word name h =
    let parts = and_parts (nat_le 1 (length name) && nat_le (length name) 24) (list_all is_name_byte name) h in
    record {
      some = leb-true 1 (length name) (and_parts (nat_le 1 (length name)) (nat_le (length name) 24) parts.0).0;
      bytes = all_from_test is_name_byte IsWordByte name_byte name parts.1;
    }

length_name : (name : List ℕ) → is_name name ≡ true → length name ≤ 24
length_name name h =
    let parts = and_parts (nat_le 1 (length name) && nat_le (length name) 24) (list_all is_name_byte name) h in
    leb-true (length name) 24 (and_parts (nat_le 1 (length name)) (nat_le (length name) 24) parts.0).1

-- ---- the card, word by word

abbrev status_part : Option Card → List ℕ
status_part None = codes "-"
status_part (Some card) = status_word card.status

abbrev holder_part : Option Card → List ℕ
holder_part None = codes "-"
holder_part (Some card) = holder_word card.holder

abbrev from_part : Option Card → List ℕ
from_part None = codes "-"
from_part (Some card) = day_word card.day

abbrev until_part : Option Card → List ℕ
until_part None = codes "-"
until_part (Some card) = day_word card.until

abbrev status_value : Option Card → Option Status
status_value None = None
status_value (Some card) = Some card.status

abbrev holder_value : Option Card → Option ℕ
holder_value None = None
holder_value (Some card) = card.holder

abbrev from_value : Option Card → ℕ
from_value None = 0
from_value (Some card) = card.day

abbrev until_value : Option Card → ℕ
until_value None = 0
until_value (Some card) = card.until

card_back : (card : Option Card) → card_of_words (status_value card) (holder_value card) (from_value card) (until_value card) ≡ card
card_back None = refl
card_back (Some card) = refl

card_parts : (card : Option Card) → card_text card ≡ status_part card ++ codes " " ++ holder_part card ++ codes " " ++ from_part card ++ codes " " ++ until_part card
card_parts None = refl
card_parts (Some card) = refl

-- each word is one, and has its value
pub record IsPart {T : Type 0} (value : List ℕ → Option T) (word : List ℕ) (x : T) : Type 0 where
  pub is_word : IsWord word
  pub back : value word ≡ Some x

status_reads : (card : Option Card) → IsPart (optional status_of_word) (status_part card) (status_value card)
status_reads None = record { is_word = dash_is_word; back = refl }
status_reads (Some card) = record { is_word = status_is_word card.status; back = status_back card.status }

holder_reads : (cover : Option PlainRange) (card : Option Card) → IsWritableCard cover card → IsPart (optional decimal_of) (holder_part card) (holder_value card)
holder_reads cover None h = record { is_word = dash_is_word; back = refl }
holder_reads None (Some card) h = absurd h
holder_reads (Some range) (Some card) h = record { is_word = holder_is_word card.holder h.0; back = holder_back card.holder h.0 }

from_reads : (cover : Option PlainRange) (card : Option Card) → IsWritableCard cover card → IsPart card_day_of (from_part card) (from_value card)
from_reads cover None h = record { is_word = dash_is_word; back = refl }
from_reads None (Some card) h = absurd h
from_reads (Some range) (Some card) h = record { is_word = card_day_is_word card.day; back = card_day_back card.day h.1 }

until_reads : (cover : Option PlainRange) (card : Option Card) → IsWritableCard cover card → IsPart card_day_of (until_part card) (until_value card)
until_reads cover None h = record { is_word = dash_is_word; back = refl }
until_reads None (Some card) h = absurd h
until_reads (Some range) (Some card) h = record { is_word = card_day_is_word card.until; back = card_day_back card.until h.2 }

-- ---- the entry

entry_words : (a b c d s h f u r : List ℕ) → a ++ codes " " ++ b ++ codes " " ++ c ++ codes " " ++ d ++ codes " " ++ (s ++ codes " " ++ h ++ codes " " ++ f ++ codes " " ++ u) ++ codes " " ++ r
    ≡ a ++ (32 ∷ (b ++ (32 ∷ (c ++ (32 ∷ (d ++ (32 ∷ (s ++ (32 ∷ (h ++ (32 ∷ (f ++ (32 ∷ (u ++ (32 ∷ r)))))))))))))))
entry_words a b c d s h f u r = simp append_assoc

module _ (e : PlainEntry) (is : IsWritableEntry e) where
  abbrev request_part : List ℕ
  request_part = 32 ∷ request_text e.request

  abbrev behind_from : List ℕ
  behind_from = 32 ∷ (until_part e.card ++ request_part)

  abbrev behind_holder : List ℕ
  behind_holder = 32 ∷ (from_part e.card ++ behind_from)

  abbrev behind_status : List ℕ
  behind_status = 32 ∷ (holder_part e.card ++ behind_holder)

  abbrev behind_cover : List ℕ
  behind_cover = 32 ∷ (status_part e.card ++ behind_status)

  abbrev behind_who : List ℕ
  behind_who = 32 ∷ (cover_word e.cover ++ behind_cover)

  abbrev behind_day : List ℕ
  behind_day = 32 ∷ (e.who ++ behind_who)

  abbrev behind_seq : List ℕ
  behind_seq = 32 ∷ (day_text e.day ++ behind_day)

  words : entry_text e ≡ decimal e.seq ++ behind_seq
  words =
      ap (λ t. decimal e.seq ++ codes " " ++ day_text e.day ++ codes " " ++ e.who ++ codes " " ++ cover_word e.cover ++ codes " " ++ t ++ codes " " ++ request_text e.request) (card_parts e.card)
      ∙ entry_words (decimal e.seq) (day_text e.day) e.who (cover_word e.cover) (status_part e.card) (holder_part e.card) (from_part e.card) (until_part e.card) (request_text e.request)

  pub entry_reads : (place : ℕ) → entry_line (rest_at place (entry_text e)) ≡ Ok e
  unfolding entry_line
  entry_reads place =
      let status = status_reads e.card in
      let holder = holder_reads e.cover e.card is.card in
      let from = from_reads e.cover e.card is.card in
      let until = until_reads e.cover e.card is.card in
      ap (λ t. entry_line (rest_at place t)) words
      ∙ first_read seq_of e.seq _ e (decimal e.seq) behind_seq (record { some = decimal_nonempty e.seq is.seq; bytes = decimal_bytes e.seq is.seq }) (seq_back e.seq is.seq) refl
      (plain_read day_of_text e.day _ e (day_text e.day) behind_day (day_is_word e.day) (day_back e.day is.some_day is.date) refl
      (plain_read (label_of is_name) e.who _ e e.who behind_who (name_is_word e.who is.who) (label_back is_name e.who is.who) refl
      (plain_read (optional range_of) e.cover _ e (cover_word e.cover) behind_cover (cover_is_word e.cover is.cover) (cover_back e.cover is.cover) refl
      (plain_read (optional status_of_word) (status_value e.card) _ e (status_part e.card) behind_status status.is_word status.back refl
      (plain_read (optional decimal_of) (holder_value e.card) _ e (holder_part e.card) behind_holder holder.is_word holder.back refl
      (plain_read card_day_of (from_value e.card) _ e (from_part e.card) behind_from from.is_word from.back refl
      (plain_read card_day_of (until_value e.card) _ e (until_part e.card) request_part until.is_word until.back refl
      (λ p.
      ap (λ l. request_of_line p l >>= λ r. Ok (record { seq = e.seq; day = e.day; who = e.who; request = r; cover = e.cover; card = card_of_words (status_value e.card) (holder_value e.card) (from_value e.card) (until_value e.card) })) (behind_blank_reads e.request is.request)
      ∙ ap (λ c. Ok (record { seq = e.seq; day = e.day; who = e.who; request = e.request; cover = e.cover; card = c })) (card_back e.card))))))))) place

-- ---- the length of an entry

length_day : (day : ℕ) → length (day_text day) ≡ 8
length_day day = refl

length_card_day : (day : ℕ) → length (day_word day) ≤ 8
length_card_day day = cond_both (day == 0) (codes "-") (day_text day) (λ (t : List ℕ). length t ≤ 8) (λ _. omega arith) (λ _. omega (arith, length_day day))

length_status : (status : Status) → length (status_word status) ≤ 10
length_status Available = omega arith
length_status Reserved = omega arith
length_status Quarantine = omega arith
length_status Allocated = omega arith
length_status Assigned = omega arith

length_holder_number : (holder : Option ℕ) → IsHolderNumber holder → length (holder_word holder) ≤ 10
length_holder_number None h = omega arith
length_holder_number (Some n) h = length-decimal-le 10 n (omega arith) (omega arith) (omega arith)

length_cover : (cover : Option PlainRange) → IsWritableCover cover → length (cover_word cover) ≤ 85
length_cover None h = omega arith
length_cover (Some range) h = length_range range h

length_card : (cover : Option PlainRange) (card : Option Card) → IsWritableCard cover card → length (card_text card) ≤ 39
length_card cover None h = omega arith
length_card None (Some card) h = absurd h
length_card (Some range) (Some card) h =
    let holder = length_two 10 (status_word card.status) (holder_word card.holder) (length_status card.status) in
    let day = length_two 21 (status_word card.status ++ codes " " ++ holder_word card.holder) (day_word card.day) (omega (arith, holder, length_holder_number card.holder h.0)) in
    let until = length_two 30 (status_word card.status ++ codes " " ++ holder_word card.holder ++ codes " " ++ day_word card.day) (day_word card.until) (omega (arith, day, length_card_day card.day)) in
    omega (arith, until, length_card_day card.until)

pub length_entry : (e : PlainEntry) → IsWritableEntry e → length (entry_text e) ≤ 768
length_entry e is =
    let seq = length-decimal-le 20 e.seq (omega arith) (omega (arith, is.seq)) is.seq in
    let day = length_two 20 (decimal e.seq) (day_text e.day) seq in
    let who = length_two 29 (decimal e.seq ++ codes " " ++ day_text e.day) e.who (omega (arith, day, length_day e.day)) in
    let cover = length_two 54 (decimal e.seq ++ codes " " ++ day_text e.day ++ codes " " ++ e.who) (cover_word e.cover) (omega (arith, who, length_name e.who is.who)) in
    let card = length_two 140 (decimal e.seq ++ codes " " ++ day_text e.day ++ codes " " ++ e.who ++ codes " " ++ cover_word e.cover) (card_text e.card) (omega (arith, cover, length_cover e.cover is.cover)) in
    let request = length_two 180 (decimal e.seq ++ codes " " ++ day_text e.day ++ codes " " ++ e.who ++ codes " " ++ cover_word e.cover ++ codes " " ++ card_text e.card) (request_text e.request) (omega (arith, card, length_card e.cover e.card is.card)) in
    omega (arith, request, length_request e.request is.request)

-- ---- what the reader gives

pub entry_found : (text : List ℕ) (e : PlainEntry) → SpellsEntry text e → entry_line (rest_at 1 text) ≡ Ok e
entry_found text e h = ap (λ t. entry_line (rest_at 1 t)) h.1 ∙ entry_reads e h.0 1

-- a text is the written text of one entry alone
pub entry_once : (text : List ℕ) (d e : PlainEntry) → SpellsEntry text d → SpellsEntry text e → d ≡ e
entry_once text d e h k = let one = entry_found text d h in let other = entry_found text e k in cc
