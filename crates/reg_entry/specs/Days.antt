-- Days: counted from 1970-01-01, up to 9999-12-31, and written YYYYMMDD (ISO 8601, basic format).
use Rattle.std.specs.Prelude.{◌≡◌, ℕ, zero, suc, ◌+◌, ◌-◌, ◌*◌, ◌/◌, ◌%◌, ◌≤◌, min, max, Bool, true, false, ◌&&◌, nat_lt, nat_le, if◌then◌else◌, List, [], ◌∷◌, ◌++◌, Option, None, Some, pos}
use Rattle.std.specs.Option.{option_and_then}
use Rattle.std.specs.Str.{bytes_eq}
use Rattle.jiff_core.specs.Calendar.{days_in_year, days_in_month, day_count}

-- 9999-12-31
abbrev pub last_date : ℕ
last_date = 2_932_896

-- a clock's day as the register takes it: from 1 to the last date
abbrev pub clamped_day : ℕ → ℕ
clamped_day day = min (max day 1) last_date

-- so many days later, or the last date
abbrev pub days_later : ℕ → ℕ → ℕ
days_later day days = min (day + days) last_date

-- ---- the calendar

-- the month of the day that lies so many days behind the first of a month, and its place in the month, from 1; so many
-- months of the year are left
abbrev pub month_and_day : ℕ → ℕ → ℕ → ℕ → ℕ × ℕ
month_and_day year zero month days = (month, days + 1)
month_and_day year (suc months_left) month days =
    elim (nat_lt days (days_in_month (pos year) month)) [
      | true ↦ (month, days + 1)
      | false ↦ month_and_day year months_left (month + 1) (days - days_in_month (pos year) month)
    ]

-- the year, month and day of the day that lies so many days behind the first of a year; so many years are left
abbrev pub date_behind : ℕ → ℕ → ℕ → ℕ × ℕ × ℕ
date_behind zero year days = let p = month_and_day year 11 1 days in (year, p.0, p.1)
date_behind (suc years_left) year days =
    elim (nat_lt days (days_in_year (pos year))) [
      | true ↦ let p = month_and_day year 11 1 days in (year, p.0, p.1)
      | false ↦ date_behind years_left (year + 1) (days - days_in_year (pos year))
    ]

-- the year, month and day of a day: years are counted from that of day 0, 1970, and up to 9999 another 8,029 follow it
unfoldable pub date_of_day : ℕ → ℕ × ℕ × ℕ
date_of_day day = date_behind 8029 1970 day

-- ---- the text

abbrev pub two_digits : ℕ → List ℕ
two_digits n = (48 + n / 10) ∷ (48 + n % 10) ∷ []

abbrev pub date_text : ℕ → ℕ → ℕ → List ℕ
date_text year month day = two_digits (year / 100) ++ two_digits (year % 100) ++ two_digits month ++ two_digits day

abbrev pub day_text : ℕ → List ℕ
day_text day = let date = date_of_day day in date_text date.0 date.1 date.2

abbrev pub is_digit_byte : ℕ → Bool
is_digit_byte b = nat_le 48 b && nat_le b 57

-- the number of two digits
abbrev pub digit_pair : ℕ → ℕ → Option ℕ
digit_pair tens ones = if is_digit_byte tens && is_digit_byte ones then Some ((tens - 48) * 10 + (ones - 48)) else None

-- the year, month and day of eight digits, whether the calendar has them or not
abbrev pub date_of_pairs : Option ℕ → Option ℕ → Option ℕ → Option ℕ → Option (ℕ × ℕ × ℕ)
date_of_pairs (Some century) (Some year) (Some month) (Some day) = Some (century * 100 + year, month, day)
date_of_pairs century year month day = None

abbrev pub date_of_text : List ℕ → Option (ℕ × ℕ × ℕ)
date_of_text (a ∷ b ∷ c ∷ d ∷ e ∷ f ∷ g ∷ h ∷ []) = date_of_pairs (digit_pair a b) (digit_pair c d) (digit_pair e f) (digit_pair g h)
date_of_text text = None

-- the day has this date, and is no earlier than 1970-01-02
abbrev pub IsDateOfDay : ℕ → ℕ → ℕ → ℕ → Type 0
IsDateOfDay d year month day = (1 ≤ d) × (d ≤ last_date) × (date_of_day d ≡ (year, month, day))

-- the text is that of the day, which is no earlier than 1970-01-02
abbrev pub SpellsDay : List ℕ → ℕ → Type 0
SpellsDay text day = (1 ≤ day) × (day ≤ last_date) × (text ≡ day_text day)

-- the day of a date, by the calendar's count of days
abbrev pub day_of_date : ℕ × ℕ × ℕ → ℕ
day_of_date date = day_count (pos date.0) date.1 date.2 - day_count (pos 1970) 1 1

-- the day, if the text is its text and it is no earlier than 1970-01-02
abbrev pub day_if_spelled : List ℕ → ℕ → Option ℕ
day_if_spelled text day =
    if nat_le 1 day && nat_le day last_date && bytes_eq text (day_text day) then Some day else None

-- the day that a text spells, as it computes
abbrev pub day_of_text : List ℕ → Option ℕ
day_of_text text = option_and_then (λ date. day_if_spelled text (day_of_date date)) (date_of_text text)
