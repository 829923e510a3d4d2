-- What a table's keys say: each key has a number, and is tested for being there, for its type and for its bounds, in
-- this order.
use Rattle.std.specs.Prelude.{◌≡◌, ◌≢◌, ℕ, ℤ, pos, negsuc, Bool, ◌&&◌, nat_le, if◌then◌else◌, is_some, List, [], ◌∷◌, map, Option, Some, None, Result, Ok, Err, MatchResult}
use Rattle.std.specs.List.{list_all}
use Rattle.reg_entry.specs.Host.{is_host}
use Rattle.toml.specs.Data.{Data, string, Items, no_items, item, Members, as_str, as_integer, as_array, as_table, get_member}
use Rattle.policy_table.specs.declared.fault.PolicyFault.{PolicyFault}
use Rattle.policy_table.specs.declared.fault.PolicyFault.TheVariants.{Missing, Wrong, Bounds, NoMemory}

infixl 10 ◌>>=◌
abbrev pub ◌>>=◌ : {A B : Type 0} → Result A PolicyFault → (A → Result B PolicyFault) → Result B PolicyFault
(Ok x) >>= f = f x
(Err e) >>= f = Err e

-- what was returned, seen by a view, is the answer, unless memory ran out
abbrev pub Gives : {X A : Type 0} → (X → A) → Result X PolicyFault → Result A PolicyFault → Type 0
Gives view result answer = MatchResult result (λ x. answer ≡ Ok (view x)) (λ e. e ≢ NoMemory → answer ≡ Err e)

-- the value, or the fault where there is none
abbrev pub or_fault : {A : Type 0} → PolicyFault → Option A → Result A PolicyFault
or_fault fault None = Err fault
or_fault fault (Some x) = Ok x

abbrev pub value_at : ℕ → List ℕ → Members → Result Data PolicyFault
value_at key name table = or_fault (Missing key) (get_member name table)

unfoldable pub table_at : ℕ → List ℕ → Members → Result Members PolicyFault
table_at key name table = do
  value ← value_at key name table
  or_fault (Wrong key) (as_table value)

unfoldable pub array_at : ℕ → List ℕ → Members → Result Items PolicyFault
array_at key name table = do
  value ← value_at key name table
  or_fault (Wrong key) (as_array value)

unfoldable pub text_at : ℕ → List ℕ → Members → Result (List ℕ) PolicyFault
text_at key name table = do
  value ← value_at key name table
  or_fault (Wrong key) (as_str value)

-- the integer as a number, where it is within the bounds
abbrev pub number_between : ℕ → ℕ → ℤ → Option ℕ
number_between low high (pos n) = if nat_le low n && nat_le n high then Some n else None
number_between low high (negsuc n) = None

unfoldable pub integer_at : ℕ → List ℕ → ℕ → ℕ → Members → Result ℕ PolicyFault
integer_at key name low high table = do
  value ← value_at key name table
  z ← or_fault (Wrong key) (as_integer value)
  or_fault (Bounds key) (number_between low high z)

unfoldable pub host_at : ℕ → List ℕ → Members → Result (List ℕ) PolicyFault
host_at key name table = do
  text ← text_at key name table
  if is_host text then Ok text else Err (Bounds key)

-- the values of an array
abbrev pub values_in : Items → List Data
values_in no_items = []
values_in (item value more) = value ∷ values_in more

abbrev pub is_string : Data → Bool
is_string value = is_some (as_str value)

-- the bytes of a string, and none of another value
abbrev pub string_of : Data → List ℕ
string_of (string text) = text
string_of _ = []

-- an array of strings
unfoldable pub texts_at : ℕ → List ℕ → Members → Result (List (List ℕ)) PolicyFault
texts_at key name table = do
  items ← array_at key name table
  if list_all is_string (values_in items) then Ok (map string_of (values_in items)) else Err (Wrong key)
