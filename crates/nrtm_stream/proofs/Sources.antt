-- A registry's name in capitals.
use Rattle.std.proofs.Common.{◌≡◌, ℕ, ◌-◌, true, false, ◌&&◌, nat_le, nat_lt, List, [], ◌∷◌, length, refl, inl, inr, arith}
use Rattle.std.specs.List.{list_all}
use Rattle.std.specs.Char.{to_ascii_uppercase}
use Rattle.std.proofs.lemmas.Bool.{and_parts, cases_Bool}
use Rattle.std.proofs.lemmas.Bool.Decides.{nat_tests}
use Rattle.std.proofs.lemmas.List.{length-map}
use Rattle.reg_entry.specs.Name.{is_name_byte, is_name}
use Rattle.rpsl_text.specs.Forms.{is_source_byte, is_source}
use Rattle.nrtm_stream.specs.Stream.{capitals}

digit_stays : (b : ℕ) → is_name_byte b ≡ true → nat_lt b 97 ≡ true → is_source_byte b ≡ true
digit_stays b e low = grind (arith, nat_tests)

letter_rises : (b : ℕ) → is_name_byte b ≡ true → nat_lt b 97 ≡ false → is_source_byte (b - 32) ≡ true
letter_rises b e high = grind (arith, nat_tests)

letter_ends : (b : ℕ) → is_name_byte b ≡ true → nat_lt b 97 ≡ false → nat_lt b 123 ≡ true
letter_ends b e high = grind (arith, nat_tests)

byte_in_capitals : (b : ℕ) → is_name_byte b ≡ true → is_source_byte (to_ascii_uppercase b) ≡ true
byte_in_capitals b e = elim (cases_Bool (nat_lt b 97)) [
  | inl low ↦ rw low (digit_stays b e low)
  | inr high ↦ rw (high, letter_ends b e high) (letter_rises b e high)
]

bytes_in_capitals : (name : List ℕ) → list_all is_name_byte name ≡ true → list_all is_source_byte (capitals name) ≡ true
bytes_in_capitals [] e = refl
bytes_in_capitals (b ∷ bs) e =
    let parts = and_parts (is_name_byte b) (list_all is_name_byte bs) e in
    rw (byte_in_capitals b parts.0, bytes_in_capitals bs parts.1) refl

pub named_in_capitals : (name : List ℕ) → is_name name ≡ true → is_source (capitals name) ≡ true
named_in_capitals name e =
    let parts = and_parts (nat_le 1 (length name) && nat_le (length name) 24) (list_all is_name_byte name) e in
    let same : length (capitals name) ≡ length name = length-map name to_ascii_uppercase in
    rw (same, parts.0, bytes_in_capitals name parts.1) refl
