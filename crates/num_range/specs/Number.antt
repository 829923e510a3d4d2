-- A number as contracts see it.
use Rattle.std.specs.Prelude.{ℕ, ◌-◌, ◌≤◌}
use Rattle.num_range.specs.declared.space.Space.{Space}
use Rattle.num_range.specs.Space.{top_of}

pub record PlainNumber : Type 0 where
  pub space : Space
  pub value : ℕ

-- the value is one of the space's
abbrev pub IsNumber : PlainNumber → Type 0
IsNumber n = n.value ≤ top_of n.space

-- the number before this one, or 0
abbrev pub number_before : PlainNumber → PlainNumber
number_before n = record { space = n.space; value = n.value - 1 }
