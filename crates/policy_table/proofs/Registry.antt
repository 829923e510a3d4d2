-- A registry's name is a name.
use Rattle.std.proofs.Common.{◌≡◌, ℕ, true, ◌&&◌, nat_le, List, [], ◌∷◌, length, Option, Some, None, IsTrue, IsSome, refl, arith}
use Rattle.std.specs.Prelude.{IfSome}
use Rattle.std.specs.List.{list_all}
use Rattle.std.proofs.lemmas.Bool.{and_parts, false≢true}
use Rattle.std.proofs.lemmas.Bool.Decides.{nat_tests}
use Rattle.reg_entry.specs.Name.{is_small_letter, is_name_byte, is_name}
use Rattle.policy_table.specs.Policy.{is_registry}

letters_are_name_bytes : (bytes : List ℕ) → list_all is_small_letter bytes ≡ true → list_all is_name_byte bytes ≡ true
letters_are_name_bytes [] h = refl
letters_are_name_bytes (b ∷ bytes) h =
    let (one, more) = and_parts (is_small_letter b) (list_all is_small_letter bytes) h in
    rw (one, letters_are_name_bytes bytes more) refl

within : (n : ℕ) → (nat_le 3 n && nat_le n 12) ≡ true → (nat_le 1 n && nat_le n 24) ≡ true
within n h = grind (arith, nat_tests)

registry_is_name : (bytes : List ℕ) → is_registry bytes ≡ true → is_name bytes ≡ true
registry_is_name bytes h =
    let (count, letters) = and_parts (nat_le 3 (length bytes) && nat_le (length bytes) 12) (list_all is_small_letter bytes) h in
    rw (within (length bytes) count, letters_are_name_bytes bytes letters) refl

pub registry_read : (bytes : List ℕ) (read : Option (List ℕ)) → is_registry bytes ≡ true → (IsTrue (is_name bytes) → IsSome read) → IfSome read (λ n. n ≡ bytes) → read ≡ Some bytes
registry_read bytes None h some same = absurd (false≢true (some (registry_is_name bytes h)))
registry_read bytes (Some n) h some same = rw same refl
