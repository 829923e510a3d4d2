-- The register's texts are ASCII.
use Rattle.std.proofs.Common.{◌≡◌, ℕ, zero, suc, ◌+◌, ◌/◌, ◌%◌, ◌<◌, ◌≤◌, ◌^◌, Bool, true, ◌&&◌, nat_lt, nat_le, IsTrue, List, [], ◌∷◌, ◌++◌, length, get_or, take, drop, codes, decimal, refl, sym, subst, arith, IsUtf8}
use Rattle.std.specs.Char.{digit_char}
use Rattle.std.specs.List.{list_all, flat_map}
use Rattle.std.specs.Str.{IsAscii}
use Rattle.std.specs.Int.{w32, to_be_bytes}
use Rattle.std.specs.Net.Text.{ipv4_text, leading_zero_digits, hex, groups_text, longest_zero_run, compressed_text, hex_groups_text}
use Rattle.std.proofs.lemmas.Bool.{cond_both, and_parts, ltb-true}
use Rattle.std.proofs.lemmas.Bool.Decides.{nat_tests}
use Rattle.std.proofs.lemmas.Fmt.{IsAscii-decimal}
use Rattle.std.proofs.lemmas.Str.{IsAscii-append, IsAscii-drop, IsUtf8-from_ascii}
use Rattle.std.proofs.lemmas.Str.Ascii.{IsAscii-nil, IsAscii-cons}
use Rattle.jiff_core.proofs.CalendarLemmas.{days_in_month_bounds}
use Rattle.num_range.specs.declared.space.Space.{Space}
use Rattle.num_range.specs.declared.space.Space.TheVariants.{Asn, Ipv4, Ipv6}
use Rattle.num_range.specs.Space.{top_of}
use Rattle.num_range.specs.Range.{PlainRange, IsRange}
use Rattle.addr_text.specs.Address.{groups_of}
use Rattle.addr_text.specs.Number.{text_of}
use Rattle.addr_text.specs.Range.{range_text}
use Rattle.addr_text.proofs.Written.{Each, four_bytes, eight_groups}
use Rattle.reg_entry.specs.Cc.{is_cc}
use Rattle.reg_entry.specs.Handle.{is_capital, is_handle_byte, is_handle}
use Rattle.reg_entry.specs.Text.{is_text_byte, is_bare_of, is_text}
use Rattle.reg_entry.specs.Days.{last_date, date_of_day, two_digits, day_text}
use Rattle.reg_entry.proofs.Calendar.{date_of_day_is}
use Rattle.rdap_json.specs.Network.{midnight_of, midnight_text}

-- `IsAscii`, in a record so that antt reads the list off a goal
record Ascii (text : List ℕ) : Type 0 where
  at : IsAscii text

nil : Ascii []
nil = record { at = IsAscii-nil }

cons : {b : ℕ} {bytes : List ℕ} → b < 128 → Ascii bytes → Ascii (b ∷ bytes)
cons {b} {bytes} h more = record { at = IsAscii-cons b bytes h more.at }

both : {xs ys : List ℕ} → Ascii xs → Ascii ys → Ascii (xs ++ ys)
both {xs} {ys} h k = record { at = IsAscii-append xs ys h.at k.at }

utf8 : {text : List ℕ} → Ascii text → IsUtf8 text
utf8 {text} h = IsUtf8-from_ascii text h.at

-- ---- bytes that pass a test

all_ascii : (test : ℕ → Bool) → ((b : ℕ) → test b ≡ true → b < 128) → (bytes : List ℕ) → list_all test bytes ≡ true → Ascii bytes
all_ascii test small [] h = nil
all_ascii test small (b ∷ bytes) h =
    let p = and_parts (test b) (list_all test bytes) h in cons (small b p.0) (all_ascii test small bytes p.1)

literal : (bytes : List ℕ) → list_all (λ b. nat_lt b 128) bytes ≡ true → Ascii bytes
literal bytes h = all_ascii (λ b. nat_lt b 128) (λ b e. ltb-true b 128 e) bytes h

capital_small : (b : ℕ) → is_capital b ≡ true → b < 128
capital_small b h = grind (arith, nat_tests)

handle_byte_small : (b : ℕ) → is_handle_byte b ≡ true → b < 128
handle_byte_small b h = grind (arith, nat_tests)

text_byte_small : (b : ℕ) → is_text_byte b ≡ true → b < 128
text_byte_small b h = grind (arith, nat_tests)

handle_ascii : (handle : List ℕ) → is_handle handle ≡ true → Ascii handle
handle_ascii [] h = nil
handle_ascii (b ∷ bytes) h =
    let p = and_parts (is_capital b && list_all is_handle_byte bytes) (nat_le (length bytes) 23) h in
    let q = and_parts (is_capital b) (list_all is_handle_byte bytes) p.0 in
    cons (capital_small b q.0) (all_ascii is_handle_byte handle_byte_small bytes q.1)

pub handle_utf8 : (handle bytes : List ℕ) → IsTrue (is_handle handle) → bytes ≡ handle → IsUtf8 bytes
handle_utf8 handle bytes h is = subst IsUtf8 (sym is) (utf8 (handle_ascii handle h))

pub country_utf8 : (country bytes : List ℕ) → IsTrue (is_cc country) → bytes ≡ country → IsUtf8 bytes
country_utf8 country bytes h is =
    let p = and_parts _ (list_all is_capital country) h in
    subst IsUtf8 (sym is) (utf8 (all_ascii is_capital capital_small country p.1))

pub text_utf8 : (text bytes : List ℕ) → IsTrue (is_text text) → bytes ≡ text → IsUtf8 bytes
text_utf8 text bytes h is =
    let p = and_parts _ (is_bare_of 32 text) h in
    let q = and_parts _ (list_all is_text_byte text) p.0 in
    subst IsUtf8 (sym is) (utf8 (all_ascii is_text_byte text_byte_small text q.1))

-- ---- numbers

decimal_ascii : (n : ℕ) → n < 2 ^ 64 → Ascii (decimal n)
decimal_ascii n h = record { at = IsAscii-decimal n h }

dropped_ascii : {text : List ℕ} (n : ℕ) → Ascii text → Ascii (drop n text)
dropped_ascii {text} n h = record { at = IsAscii-drop text n h.at }

digit_small : (d : ℕ) → d < 16 → digit_char d < 128
digit_small d h = grind (arith, nat_tests)

hex_ascii : (n : ℕ) → n < 2 ^ 16 → Ascii (hex n)
unfolding hex
hex_ascii n h =
    dropped_ascii (leading_zero_digits n) (cons (digit_small (n / 0x1000) (omega arith)) (cons (digit_small (n / 0x100 % 16) (omega arith))
    (cons (digit_small (n / 0x10 % 16) (omega arith)) (cons (digit_small (n % 16) (omega arith)) nil))))

-- groups of 16 bits
abbrev AreGroups : List ℕ → Type 0
AreGroups [] = Unit {0}
AreGroups (g ∷ gs) = (g < 2 ^ 16) × AreGroups gs

from_each : (gs : List ℕ) → Each (2 ^ 16) gs → AreGroups gs
from_each [] h = tt
from_each (g ∷ gs) h = (h.at zero, from_each gs (record { at = λ k. h.at (suc k) }))

taken : (n : ℕ) (gs : List ℕ) → AreGroups gs → AreGroups (take n gs)
taken zero gs h = tt
taken (suc n) [] h = tt
taken (suc n) (g ∷ gs) h = (h.0, taken n gs h.1)

dropped : (n : ℕ) (gs : List ℕ) → AreGroups gs → AreGroups (drop n gs)
dropped zero gs h = h
dropped (suc n) [] h = tt
dropped (suc n) (g ∷ gs) h = dropped n gs h.1

more_ascii : (gs : List ℕ) → AreGroups gs → Ascii (flat_map (λ t. codes ":" ++ hex t) gs)
more_ascii [] h = nil
more_ascii (g ∷ gs) h = both (both (literal (codes ":") refl) (hex_ascii g h.0)) (more_ascii gs h.1)

groups_ascii : (gs : List ℕ) → AreGroups gs → Ascii (groups_text gs)
groups_ascii [] h = nil
groups_ascii (g ∷ gs) h = both (hex_ascii g h.0) (more_ascii gs h.1)

compressed_ascii : (gs : List ℕ) (run : ℕ × ℕ) → AreGroups gs → Ascii (compressed_text gs run)
compressed_ascii gs run h =
    cond_both (nat_lt 1 run.1) _ _ Ascii
    (λ _. both (both (groups_ascii (take run.0 gs) (taken run.0 gs h)) (literal (codes "::") refl)) (groups_ascii (drop (run.0 + run.1) gs) (dropped (run.0 + run.1) gs h)))
    (λ _. groups_ascii gs h)

hex_groups_ascii : (gs : List ℕ) → AreGroups gs → Ascii (hex_groups_text gs)
unfolding hex_groups_text
hex_groups_ascii gs h = compressed_ascii gs (longest_zero_run gs) h

octet_ascii : (value k : ℕ) → Ascii (decimal (get_or (to_be_bytes w32 value) k 0))
octet_ascii value k = let h = (four_bytes value).at k in decimal_ascii _ (omega arith)

dotted_ascii : (value : ℕ) → Ascii (ipv4_text (to_be_bytes w32 value))
dotted_ascii value =
    let dot = literal (codes ".") refl in
    both (both (both (both (both (both (octet_ascii value 0) dot) (octet_ascii value 1)) dot) (octet_ascii value 2)) dot) (octet_ascii value 3)

number_ascii : (space : Space) (value : ℕ) → value ≤ top_of space → Ascii (text_of space value)
number_ascii Asn value fits = both (literal (codes "AS") refl) (decimal_ascii value (omega arith))
number_ascii Ipv4 value fits = dotted_ascii value
number_ascii Ipv6 value fits = hex_groups_ascii (groups_of value) (from_each (groups_of value) (eight_groups value))

pub number_utf8 : (space : Space) (value : ℕ) → value ≤ top_of space → IsUtf8 (text_of space value)
number_utf8 space value fits = utf8 (number_ascii space value fits)

pub range_utf8 : (r : PlainRange) → IsRange r → IsUtf8 (range_text true r)
range_utf8 r h =
    let first = number_ascii r.space r.first (omega (arith, h)) in
    utf8 (both (both first (literal (codes " - ") refl)) (number_ascii r.space r.last h.1))

-- ---- days

digits_ascii : (n : ℕ) → n < 100 → Ascii (two_digits n)
digits_ascii n h = cons (omega arith) (cons (omega arith) nil)

midnight_of_ascii : (date : ℕ × ℕ × ℕ) → date.0 < 10000 → date.1 < 100 → date.2 < 100 → Ascii (midnight_of date)
midnight_of_ascii date year month day =
    let dash = literal (codes "-") refl in
    both (both (both (both (both (both (digits_ascii (date.0 / 100) (omega arith)) (digits_ascii (date.0 % 100) (omega arith))) dash) (digits_ascii date.1 month)) dash) (digits_ascii date.2 day)) (literal (codes "T00:00:00Z") refl)

pub midnight_utf8 : (day : ℕ) → day ≤ last_date → IsUtf8 (midnight_text day)
midnight_utf8 day h =
    let is = date_of_day_is day h in
    let short : (date_of_day day).2 ≤ 31 = omega (arith, is.month_day.day_in, days_in_month_bounds) in
    utf8 (midnight_of_ascii (date_of_day day) (omega (arith, is.year_in)) (omega (arith, is.month_day.month_in)) (omega arith))

-- the bytes of a day's text with those of a time among them
abbrev spread : List ℕ → List ℕ
spread t =
    get_or t 0 0 ∷ get_or t 1 0 ∷ get_or t 2 0 ∷ get_or t 3 0 ∷ 45 ∷ get_or t 4 0 ∷ get_or t 5 0 ∷ 45 ∷ get_or t 6 0 ∷ get_or t 7 0
    ∷ 84 ∷ 48 ∷ 48 ∷ 58 ∷ 48 ∷ 48 ∷ 58 ∷ 48 ∷ 48 ∷ 90 ∷ []

pub spread_utf8 : (t : List ℕ) (day : ℕ) → t ≡ day_text day → day ≤ last_date → IsUtf8 (spread t)
spread_utf8 t day is h = subst (λ (x : List ℕ). IsUtf8 (spread x)) (sym is) (midnight_utf8 day h)
