-- A splice of a list: so many items from a place on go, and others come in their stead.
use Rattle.std.specs.Prelude.{ℕ, ◌+◌, List, ◌++◌, take, drop}

abbrev pub spliced : {T : Type 0} → ℕ → ℕ → List T → List T → List T
spliced at n new ts = take at ts ++ (new ++ drop (at + n) ts)
