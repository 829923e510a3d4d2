-- The hostmasters of the file: a table from names to tokens.
use Rattle.std.specs.Prelude.{ℕ, Bool, true, not, ◌&&◌, nat_le, if◌then◌else◌, bytes_eq, List, [], ◌∷◌, length, map, Result, Ok, Err}
use Rattle.std.specs.List.{list_all, list_any}
use Rattle.std.specs.List.Sorted.{IsStrictlySortedBy}
use Rattle.std.specs.Cmp.Lexicographic.{slice_cmp}
use Rattle.std.specs.Ordering.{nat_cmp}
use Rattle.reg_entry.specs.Name.{is_name}
use Rattle.toml.specs.Data.{Data, Members, no_members, member}
use Rattle.policy_table.specs.declared.fault.PolicyFault.{PolicyFault}
use Rattle.policy_table.specs.declared.fault.PolicyFault.TheVariants.{Wrong, Bounds}
use Rattle.policy_table.specs.Section.{◌>>=◌, table_at, is_string, string_of}
use Rattle.policy_table.specs.Token.{is_token}

-- the names of a table and their values, in the order of the names
abbrev pub members_in : Members → List (List ℕ × Data)
members_in no_members = []
members_in (member name value more) = (name, value) ∷ members_in more

-- the names of a table and the bytes of their strings
abbrev pub texts_in : Members → List (List ℕ × List ℕ)
texts_in table = map (λ m. (m.0, string_of m.1)) (members_in table)

-- a table of strings
unfoldable pub named_texts_at : ℕ → List ℕ → Members → Result (List (List ℕ × List ℕ)) PolicyFault
named_texts_at key name top = do
  table ← table_at key name top
  if list_all (λ m. is_string m.1) (members_in table) then Ok (texts_in table) else Err (Wrong key)

-- a name and a token, each of its form
abbrev pub is_name_and_key : List ℕ × List ℕ → Bool
is_name_and_key h = is_name h.0 && is_token h.1

-- no two of them have one token
abbrev pub tokens_differ : List (List ℕ × List ℕ) → Bool
tokens_differ [] = true
tokens_differ (h ∷ hs) = not (list_any (λ other. bytes_eq other.1 h.1) hs) && tokens_differ hs

abbrev pub is_count : ℕ → Bool
is_count n = nat_le 1 n && nat_le n 64

-- 1 to 64 hostmasters with tokens of their own
abbrev pub are_hostmasters : List (List ℕ × List ℕ) → Bool
are_hostmasters hs = is_count (length hs) && list_all is_name_and_key hs && tokens_differ hs

-- the names rise in the order of their bytes
abbrev pub AreRising : List (List ℕ × List ℕ) → Type 0
AreRising hs = IsStrictlySortedBy (slice_cmp nat_cmp) (map (λ h. h.0) hs)

unfoldable pub hostmasters_at : ℕ → List ℕ → Members → Result (List (List ℕ × List ℕ)) PolicyFault
hostmasters_at key name top = do
  texts ← named_texts_at key name top
  if are_hostmasters texts then Ok texts else Err (Bounds key)
