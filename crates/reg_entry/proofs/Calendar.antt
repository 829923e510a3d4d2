-- The date of a day, counted up year by year and month by month, is the one that the calendar gives.
use Rattle.std.proofs.Common.{◌≡◌, ℕ, zero, suc, ◌+◌, ◌-◌, ◌<◌, ◌≤◌, ◌↔◌, Bool, true, false, nat_lt, Option, None, Some, refl, sym, ◌∙◌, ap, subst, arith, ℤ, pos, ◌≤ℤ◌}
use Rattle.std.specs.Option.{IsSome, IfSome}
use Rattle.std.proofs.lemmas.Bool.{ltb-true, ltb-false, both_ways}
use Rattle.jiff_core.specs.declared.civil.date.Date.{Date}
use Rattle.jiff_core.specs.Calendar.{day_count, days_from_civil, days_in_year, days_in_month, IsDate}
use Rattle.jiff_core.specs.Date.{epoch_day, IsYmd}
use Rattle.jiff_core.proofs.SignedLemmas.{signed_arith}
use Rattle.jiff_core.proofs.DateLemmas.{epoch_day_injective, epoch_day_range}
use Rattle.jiff_core.proofs.CalendarLemmas.{day_count-epoch, day_count-end, day_count-day, day_count-next_month, day_count-next_year, day_count-last_of_year, days_from_civil-day_count}
use Rattle.reg_entry.specs.Days.{last_date, month_and_day, date_behind, date_of_day, IsDateOfDay}

-- either way of a choice
pub elim_both : {A : Type 0} (b : Bool) (x y : A) (P : A → Type 0) → (b ≡ true → P x) → (b ≡ false → P y)
    → P (elim b [ true ↦ x | false ↦ y ])
elim_both true x y P t f = t refl
elim_both false x y P t f = f refl

-- the month has the day, which lies so many days behind the year -10000
pub record IsMonthDay (year month day count : ℕ) : Type 0 where
  pub month_in : (1 ≤ month) × (month ≤ 12)
  pub day_in : (1 ≤ day) × (day ≤ days_in_month (pos year) month)
  pub counted : day_count (pos year) month day ≡ count

pub month_and_day_is : (year months_left month days : ℕ) → 1 ≤ month → month + months_left ≡ 12
    → day_count (pos year) month 1 + days < day_count (pos year) 1 1 + days_in_year (pos year)
    → let p = month_and_day year months_left month days in IsMonthDay year p.0 p.1 (day_count (pos year) month 1 + days)
month_and_day_is year zero month days h e below =
    let twelve : 12 ≡ month = omega arith in
    let P : ℕ → Type 0 = λ m. day_count (pos year) m 1 + days < day_count (pos year) 1 1 + days_in_year (pos year)
    → IsMonthDay year m (days + 1) (day_count (pos year) m 1 + days) in
    subst P twelve
    (λ lt.
    let last = day_count-last_of_year (pos year) in
    let move = day_count-day (pos year) 12 31 1 (omega arith) (omega arith) in
    let this = day_count-day (pos year) 12 (days + 1) 1 (omega arith) (omega arith) in
    let fits : days + 1 ≤ 31 = omega arith in
    record { month_in = (omega arith, omega arith); day_in = (omega arith, fits); counted = omega arith })
    below
month_and_day_is year (suc months_left) month days h e below =
    elim_both (nat_lt days (days_in_month (pos year) month)) (month, days + 1)
    (month_and_day year months_left (month + 1) (days - days_in_month (pos year) month))
    (λ p. IsMonthDay year p.0 p.1 (day_count (pos year) month 1 + days))
    (λ t.
    let lt : days < days_in_month (pos year) month = ltb-true days (days_in_month (pos year) month) t in
    let this = day_count-day (pos year) month (days + 1) 1 (omega arith) (omega arith) in
    record { month_in = (h, omega arith); day_in = (omega arith, omega arith); counted = omega arith })
    (λ f.
    let le : days_in_month (pos year) month ≤ days = ltb-false days (days_in_month (pos year) month) f in
    let next = day_count-next_month (pos year) month h in
    let same : day_count (pos year) (month + 1) 1 + (days - days_in_month (pos year) month) ≡ day_count (pos year) month 1 + days = omega arith in
    let p = month_and_day year months_left (month + 1) (days - days_in_month (pos year) month) in
    let P : ℕ → Type 0 = λ n. IsMonthDay year p.0 p.1 n in
    subst P same
    (month_and_day_is year months_left (month + 1) (days - days_in_month (pos year) month) (omega arith) (omega arith) (omega arith)))

-- the date is one of the calendar's from 1970 to 9999, which lies so many days behind the year -10000
pub record IsDateAt (date : ℕ × ℕ × ℕ) (count : ℕ) : Type 0 where
  pub year_in : (1970 ≤ date.0) × (date.0 ≤ 9999)
  pub month_day : IsMonthDay date.0 date.1 date.2 count

pub date_behind_is : (years_left year days : ℕ) → 1970 ≤ year → year + years_left ≡ 9999
    → day_count (pos year) 1 1 + days < 7_304_850 → IsDateAt (date_behind years_left year days) (day_count (pos year) 1 1 + days)
date_behind_is zero year days h e below =
    let next = day_count-next_year (pos year) (pos (year + 1)) (omega (arith, signed_arith)) refl in
    let ten_thousand : year + 1 ≡ 10000 = omega arith in
    let end : day_count (pos (year + 1)) 1 1 ≡ 7_304_850 = ap (λ n. day_count (pos n) 1 1) ten_thousand ∙ day_count-end in
    record { year_in = (h, omega arith); month_day = month_and_day_is year 11 1 days (omega arith) refl (omega arith) }
date_behind_is (suc years_left) year days h e below =
    elim_both (nat_lt days (days_in_year (pos year)))
    (let p = month_and_day year 11 1 days in (year, p.0, p.1))
    (date_behind years_left (year + 1) (days - days_in_year (pos year)))
    (λ date. IsDateAt date (day_count (pos year) 1 1 + days))
    (λ t.
    let lt : days < days_in_year (pos year) = ltb-true days (days_in_year (pos year)) t in
    record { year_in = (h, omega arith); month_day = month_and_day_is year 11 1 days (omega arith) refl (omega arith) })
    (λ f.
    let le : days_in_year (pos year) ≤ days = ltb-false days (days_in_year (pos year)) f in
    let next = day_count-next_year (pos year) (pos (year + 1)) (omega (arith, signed_arith)) refl in
    let same : day_count (pos (year + 1)) 1 1 + (days - days_in_year (pos year)) ≡ day_count (pos year) 1 1 + days = omega arith in
    let P : ℕ → Type 0 = IsDateAt (date_behind years_left (year + 1) (days - days_in_year (pos year))) in
    subst P same (date_behind_is years_left (year + 1) (days - days_in_year (pos year)) (omega arith) (omega arith) (omega arith)))

pub date_of_day_is : (day : ℕ) → day ≤ last_date → IsDateAt (date_of_day day) (4_371_953 + day)
unfolding date_of_day
date_of_day_is day h =
    let P : ℕ → Type 0 = λ n. IsDateAt (date_behind 8029 1970 day) (n + day) in
    let e = day_count-epoch in
    subst P e (date_behind_is 8029 1970 day (omega arith) refl (omega arith))

-- the calendar's own value for the date
pub as_date : (date : ℕ × ℕ × ℕ) (count : ℕ) → IsDateAt date count → Date
as_date date count h = record {
  year = pos date.0;
  month = date.1;
  day = date.2;
  year_in = (omega (arith, signed_arith, h.year_in), omega (arith, signed_arith, h.year_in));
  month_in = h.month_day.month_in;
  day_in = h.month_day.day_in;
}

-- a date of the library's with this day's number has these parts
pub date_of_day_is_given : (day : ℕ) (d : Date) → day ≤ last_date → epoch_day d ≡ pos day
    → (d.year ≡ pos (date_of_day day).0) × (d.month ≡ (date_of_day day).1) × (d.day ≡ (date_of_day day).2)
unfolding as_date
date_of_day_is_given day d h e =
    let is = date_of_day_is day h in
    let other : Date = as_date (date_of_day day) (4_371_953 + day) is in
    let counted = days_from_civil-day_count (pos (date_of_day day).0) (date_of_day day).1 (date_of_day day).2 in
    let same : days_from_civil (pos (date_of_day day).0) (date_of_day day).1 (date_of_day day).2 ≡ pos day =
    omega (arith, signed_arith, is.month_day.counted, counted) in
    epoch_day_injective d other (e ∙ sym same)

triple : (p : ℕ × ℕ × ℕ) (a b c : ℕ) → p.0 ≡ a → p.1 ≡ b → p.2 ≡ c → p ≡ (a, b, c)
triple p a b c e f g = rw (← e, ← f, ← g) refl

pub day_is_of_date : (date : Date) (d year month day : ℕ) → pos d ≡ epoch_day date → 1 ≤ d → IsYmd (pos year) (pos month) (pos day) date
    → IsDateOfDay d year month day
day_is_of_date date d year month day e h ymd =
    let range = epoch_day_range date in
    let le : d ≤ last_date = omega (arith, signed_arith, range, e) in
    let given = date_of_day_is_given d date le (sym e) in (
      h,
      le,
      triple (date_of_day d) year month day
          (omega (arith, signed_arith, given, ymd)) (omega (arith, signed_arith, given, ymd)) (omega (arith, signed_arith, given, ymd)),
    )

is_date_at : (d year month day : ℕ) → IsDateOfDay d year month day → IsDateAt (year, month, day) (4_371_953 + d)
is_date_at d year month day h =
    let P : ℕ × ℕ × ℕ → Type 0 = λ date. IsDateAt date (4_371_953 + d) in
    subst P h.2 (date_of_day_is d h.1)

-- the calendar has the date of each day
pub date_is_read : (d year month day : ℕ) → IsDateOfDay d year month day → IsDate (pos year) (pos month) (pos day)
date_is_read d year month day h =
    let at = is_date_at d year month day h in (
      (omega (arith, signed_arith, at.year_in), omega (arith, signed_arith, at.year_in)),
      (omega (arith, signed_arith, at.month_day.month_in), omega (arith, signed_arith, at.month_day.month_in)),
      (omega (arith, signed_arith, at.month_day.day_in), omega (arith, signed_arith, at.month_day.day_in)),
    )

pub day_of_read_date : (date : Date) (d year month day : ℕ) → IsDateOfDay d year month day → IsYmd (pos year) (pos month) (pos day) date
    → epoch_day date ≡ pos d
day_of_read_date date d year month day h ymd =
    let at = is_date_at d year month day h in
    let counted = days_from_civil-day_count (pos year) month day in
    let same : days_from_civil (pos year) month day ≡ pos d = omega (arith, signed_arith, at.month_day.counted, counted) in
    let m : date.month ≡ month = omega (arith, signed_arith, ymd.1) in
    let n : date.day ≡ day = omega (arith, signed_arith, ymd.2) in
    rw (ymd.0, m, n) same

-- what reading gives where the calendar has the date
pub read_date : (o : Option ℕ) (date : Date) (year month day : ℕ) → (IsSome o ↔ (pos 1 ≤ℤ epoch_day date))
    → IfSome o (λ d. pos d ≡ epoch_day date) → IsYmd (pos year) (pos month) (pos day) date
    → (IsSome o ↔ ((d : ℕ) × IsDateOfDay d year month day)) × IfSome o (λ d. IsDateOfDay d year month day)
read_date None date year month day some is ymd = (
  (
    λ h. absurd (both_ways false refl h),
    λ w.
        let e = day_of_read_date date w.0 year month day w.1 ymd in
        some.1 (omega (arith, signed_arith, e, w.1.0)),
  ),
  tt,
)
read_date (Some d) date year month day some is ymd =
    let first = some.0 refl in
    let it = day_is_of_date date d year month day is (omega (arith, signed_arith, first, is)) ymd in
    ((λ h. (d, it), λ w. refl), it)

-- the parts of a date, as the numbers that they were handed in as
pub ymd_as : (date : Date) (y m d : ℤ) (year month day : ℕ) → y ≡ pos year → m ≡ pos month → d ≡ pos day → IsYmd y m d date
    → IsYmd (pos year) (pos month) (pos day) date
ymd_as date y m d year month day e f g h = (h.0 ∙ e, h.1 ∙ f, h.2 ∙ g)

-- the calendar doesn't have the date, so no day has it
pub unread_date : (ok : Bool) (y m d : ℤ) (year month day : ℕ) → y ≡ pos year → m ≡ pos month → d ≡ pos day
    → (IsDate y m d → ok ≡ true) → ok ≡ false → ((x : ℕ) × IsDateOfDay x year month day) → ⊥
unread_date ok y m d year month day e f g has not w =
    both_ways ok not (has (rw (e, f, g) (date_is_read w.0 year month day w.1)))
