-- What eight digits are read as is what they are written from.
use Rattle.std.proofs.Common.{◌≡◌, ℕ, ◌+◌, ◌-◌, ◌*◌, ◌/◌, ◌%◌, ◌<◌, ◌≤◌, ◌↔◌, true, ◌&&◌, nat_le, List, [], ◌∷◌, ◌++◌, Option, None, Some, refl, sym, ◌∙◌, ap, subst, arith, pos, Bool, false, MatchOption, if◌then◌else◌}
use Rattle.std.specs.Bool.{Decides}
use Rattle.std.specs.Str.{bytes_eq}
use Rattle.std.specs.Option.{IsSome, IfSome, option_and_then}
use Rattle.std.proofs.lemmas.Bool.Decides.{Decides-and, Decides-like, not_from_Decides}
use Rattle.std.proofs.lemmas.Slice.Eq.{bytes_eq-Decides}
use Rattle.std.proofs.lemmas.Bool.{cond_both, cond-true, and_parts, and_from, leb-true, le-leb, both_ways}
use Rattle.std.proofs.lemmas.Option.{none-some, same_Some}
use Rattle.reg_entry.specs.Days.{is_digit_byte, digit_pair, two_digits, date_text, day_text, date_of_day, date_of_pairs, date_of_text, last_date, day_of_date, day_if_spelled, day_of_text, SpellsDay, IsDateOfDay}
use Rattle.jiff_core.specs.Calendar.{day_count}
use Rattle.jiff_core.proofs.CalendarLemmas.{days_in_month_bounds, day_count-epoch}
use Rattle.reg_entry.proofs.Calendar.{date_of_day_is}

digit_is : (b : ℕ) → is_digit_byte b ≡ true → (48 ≤ b) × (b ≤ 57)
digit_is b e = let p = and_parts (nat_le 48 b) (nat_le b 57) e in (leb-true 48 b p.0, leb-true b 57 p.1)

is_digit : (b : ℕ) → 48 ≤ b → b ≤ 57 → is_digit_byte b ≡ true
is_digit b h k = and_from (nat_le 48 b) (nat_le b 57) (le-leb 48 b h) (le-leb b 57 k)

-- a pair that is read is what is written of its number
pub record IsPair (a b n : ℕ) : Type 0 where
  pub tens : 48 + n / 10 ≡ a
  pub ones : 48 + n % 10 ≡ b
  pub small : n < 100

pair_of : (a b : ℕ) → 48 ≤ a → a ≤ 57 → 48 ≤ b → b ≤ 57 → IsPair a b ((a - 48) * 10 + (b - 48))
pair_of a b h i j k = record { tens = omega arith; ones = omega arith; small = omega arith }

pub pair_read : (a b : ℕ) (o : Option ℕ) → digit_pair a b ≡ o → IfSome o (IsPair a b)
pair_read a b o e =
    subst (λ o. IfSome o (IsPair a b)) e
    (cond_both (is_digit_byte a && is_digit_byte b) (Some ((a - 48) * 10 + (b - 48))) None (λ o. IfSome o (IsPair a b))
    (λ t. let p = and_parts (is_digit_byte a) (is_digit_byte b) t in
    let x = digit_is a p.0 in let y = digit_is b p.1 in pair_of a b x.0 x.1 y.0 y.1)
    (λ f. tt))

pub pair_written : (n : ℕ) → n < 100 → digit_pair (48 + n / 10) (48 + n % 10) ≡ Some n
pair_written n h =
    cond-true (is_digit_byte (48 + n / 10) && is_digit_byte (48 + n % 10)) (Some (((48 + n / 10) - 48) * 10 + ((48 + n % 10) - 48))) None
    (and_from (is_digit_byte (48 + n / 10)) (is_digit_byte (48 + n % 10))
    (is_digit (48 + n / 10) (omega arith) (omega arith)) (is_digit (48 + n % 10) (omega arith) (omega arith)))
    ∙ ap (λ m. Some m) (omega arith)

-- four pairs that are read are what is written of their date
pub pairs_read : (a b c d e f g h : ℕ) (century year month day : Option ℕ) (date : ℕ × ℕ × ℕ)
    → IfSome century (IsPair a b) → IfSome year (IsPair c d) → IfSome month (IsPair e f) → IfSome day (IsPair g h)
    → date_of_pairs century year month day ≡ Some date
    → a ∷ b ∷ c ∷ d ∷ e ∷ f ∷ g ∷ h ∷ [] ≡ date_text date.0 date.1 date.2
pairs_read a b c d e f g h (Some x) (Some y) (Some m) (Some n) date p q r s is =
    let given : (x * 100 + y, m, n) ≡ date = same_Some _ _ is in
    let hundreds : (x * 100 + y) / 100 ≡ x = let small = p.small in let small' = q.small in omega arith in
    let rest : (x * 100 + y) % 100 ≡ y = let small = q.small in omega arith in
    let written : two_digits ((x * 100 + y) / 100) ++ two_digits ((x * 100 + y) % 100) ++ two_digits m ++ two_digits n ≡ a ∷ b ∷ c ∷ d ∷ e ∷ f ∷ g ∷ h ∷ [] =
    rw (hundreds, rest, p.tens, p.ones, q.tens, q.ones, r.tens, r.ones, s.tens, s.ones) refl in
    sym written ∙ ap (λ t. date_text t.0 t.1 t.2) given
pairs_read a b c d e f g h century year month day date p q r s is = absurd (none-some date is)

pub text_read : (text : List ℕ) (date : ℕ × ℕ × ℕ) → date_of_text text ≡ Some date → text ≡ date_text date.0 date.1 date.2
text_read (a ∷ b ∷ c ∷ d ∷ e ∷ f ∷ g ∷ h ∷ []) date is =
    pairs_read a b c d e f g h (digit_pair a b) (digit_pair c d) (digit_pair e f) (digit_pair g h) date
    (pair_read a b _ refl) (pair_read c d _ refl) (pair_read e f _ refl) (pair_read g h _ refl) is
text_read text date is = absurd (none-some date is)

pub text_written : (year month day : ℕ) → year < 10000 → month < 100 → day < 100
    → date_of_text (date_text year month day) ≡ Some (year, month, day)
text_written year month day h i j =
    let x : year / 100 < 100 = omega arith in
    let y : year % 100 < 100 = omega arith in
    let whole : year / 100 * 100 + year % 100 ≡ year = omega arith in
    ap (λ o. date_of_pairs o (digit_pair (48 + year % 100 / 10) (48 + year % 100 % 10)) (digit_pair (48 + month / 10) (48 + month % 10)) (digit_pair (48 + day / 10) (48 + day % 10)))
    (pair_written (year / 100) x)
    ∙ ap (λ o. date_of_pairs (Some (year / 100)) o (digit_pair (48 + month / 10) (48 + month % 10)) (digit_pair (48 + day / 10) (48 + day % 10)))
    (pair_written (year % 100) y)
    ∙ ap (λ o. date_of_pairs (Some (year / 100)) (Some (year % 100)) o (digit_pair (48 + day / 10) (48 + day % 10))) (pair_written month i)
    ∙ ap (λ o. date_of_pairs (Some (year / 100)) (Some (year % 100)) (Some month) o) (pair_written day j)
    ∙ ap (λ n. Some (n, month, day)) whole

-- the text of a day is read as its date
pub day_text_read : (day : ℕ) → day ≤ last_date → date_of_text (day_text day) ≡ Some (date_of_day day)
day_text_read day h =
    let is = date_of_day_is day h in
    let short : (date_of_day day).2 ≤ 31 = omega (arith, is.month_day.day_in, days_in_month_bounds) in
    text_written (date_of_day day).0 (date_of_day day).1 (date_of_day day).2
    (omega (arith, is.year_in)) (omega (arith, is.month_day.month_in)) (omega arith)

-- a text with a date spells a day where a day has the date
pub spells_where_dated : (text : List ℕ) (date : ℕ × ℕ × ℕ) (o : Option ℕ) → date_of_text text ≡ Some date
    → (IsSome o ↔ ((d : ℕ) × IsDateOfDay d date.0 date.1 date.2)) → (IsSome o ↔ ((d : ℕ) × SpellsDay text d))
spells_where_dated text date o is some = (
  λ h. let w = some.0 h in
      (w.0, (w.1.0, w.1.1, text_read text date is ∙ ap (λ t. date_text t.0 t.1 t.2) (sym w.1.2))),
  λ w. some.1 (
    w.0,
    (
      w.1.0,
      w.1.1,
      same_Some _ _ (sym (day_text_read w.0 w.1.1) ∙ ap date_of_text (sym w.1.2) ∙ is),
    ),
  ),
)

pub spells_none : (text : List ℕ) (day : ℕ) → date_of_text text ≡ None → SpellsDay text day → ⊥
spells_none text day is h = none-some (date_of_day day) (sym is ∙ ap date_of_text h.2 ∙ day_text_read day h.1)

-- no two days have one text
pub day_text_injective : (a b : ℕ) → a ≤ last_date → b ≤ last_date → day_text a ≡ day_text b → a ≡ b
day_text_injective a b h k e =
    let same : date_of_day a ≡ date_of_day b = same_Some _ _ (sym (day_text_read a h) ∙ ap date_of_text e ∙ day_text_read b k) in
    let there = date_of_day_is a h in
    let here = date_of_day_is b k in
    let counts : day_count (pos (date_of_day a).0) (date_of_day a).1 (date_of_day a).2 ≡ day_count (pos (date_of_day b).0) (date_of_day b).1 (date_of_day b).2 =
    ap (λ t. day_count (pos t.0) t.1 t.2) same in
    omega (arith, counts, there.month_day.counted, here.month_day.counted)

-- ---- what is read

decides_spelled : (text : List ℕ) (day : ℕ) → Decides (nat_le 1 day && nat_le day last_date && bytes_eq text (day_text day)) (SpellsDay text day)
decides_spelled text day =
    Decides-like _ (λ h. (h.0.0, h.0.1, h.1)) (λ h. ((h.0, h.1), h.2))
    (Decides-and _ _ (Decides-and _ _ (decides_le 1 day) (decides_le day last_date)) (bytes_eq-Decides text (day_text day)))
  where
    decides_le : (a b : ℕ) → Decides (nat_le a b) (a ≤ b)
    decides_le a b = (λ e. leb-true a b e, λ l. le-leb a b l)

-- a day's date counts to it
counted : (day : ℕ) → day ≤ last_date → day_of_date (date_of_day day) ≡ day
counted day h = let is = date_of_day_is day h in omega (arith, is.month_day.counted, day_count-epoch)

day_spelled : (text : List ℕ) → MatchOption (day_of_text text) ((day : ℕ) → ¬ (SpellsDay text day)) (SpellsDay text)
day_spelled text = at (date_of_text text) refl
  where
    if_spelled : (day : ℕ) (b : Bool) → Decides b (SpellsDay text day) → ((other : ℕ) → SpellsDay text other → other ≡ day) → MatchOption (if b then Some day else None) ((day : ℕ) → ¬ (SpellsDay text day)) (SpellsDay text)
    if_spelled day true d once = d.0 refl
    if_spelled day false d once = λ other h. not_from_Decides false d refl (subst (SpellsDay text) (once other h) h)

    at : (date : Option (ℕ × ℕ × ℕ)) → date_of_text text ≡ date → MatchOption (option_and_then (λ date. day_if_spelled text (day_of_date date)) date) ((day : ℕ) → ¬ (SpellsDay text day)) (SpellsDay text)
    at None e = λ day. spells_none text day e
    at (Some date) e =
        if_spelled (day_of_date date) _ (decides_spelled text (day_of_date date))
        λ other h.
        let same : date_of_day other ≡ date = same_Some _ _ (sym (day_text_read other h.1) ∙ ap date_of_text (sym h.2) ∙ e) in
        sym (counted other h.1) ∙ ap day_of_date same

pub day_value : (text : List ℕ) (o : Option ℕ) → (IsSome o ↔ ((day : ℕ) × SpellsDay text day)) → IfSome o (SpellsDay text) → o ≡ day_of_text text
day_value text o some is = at o (day_of_text text) some is (day_spelled text)
  where
    at : (o value : Option ℕ) → (IsSome o ↔ ((day : ℕ) × SpellsDay text day)) → IfSome o (SpellsDay text) → MatchOption value ((day : ℕ) → ¬ (SpellsDay text day)) (SpellsDay text) → o ≡ value
    at None None some is h = refl
    at None (Some day) some is h = absurd (both_ways false refl (some.1 (day, h)))
    at (Some day) None some is h = absurd (h day is)
    at (Some day) (Some other) some is h = ap Some (day_text_injective day other is.1 h.1 (sym is.2 ∙ h.2))
