-- The name servers of a reverse entry: a short list in an array of fixed length, with the first repeated behind it.
use Rattle.std.specs.Prelude.{◌≡◌, ℕ, ◌-◌, ◌≤◌, Bool, bytes_eq, List, [], ◌∷◌, ◌++◌, length, take, replicate}
use Rattle.std.specs.Cmp.Lexicographic.{pointwise}

abbrev pub first_host : List (List ℕ) → List ℕ
first_host [] = []
first_host (host ∷ hosts) = host

-- the hosts of the array that stands for the list
abbrev pub padded_hosts : List (List ℕ) → List (List ℕ)
padded_hosts hosts = hosts ++ replicate (4 - length hosts) (first_host hosts)

-- the array is its first hosts with the first of them repeated behind
pub record ArePaddedHosts (array : List (List ℕ)) (len : ℕ) : Type 0 where
  pub some : 1 ≤ len
  pub fits : len ≤ 4
  pub long : length array ≡ 4
  pub padding : padded_hosts (take len array) ≡ array

-- the same hosts in the same order
abbrev pub hosts_eq : List (List ℕ) → List (List ℕ) → Bool
hosts_eq = pointwise bytes_eq
