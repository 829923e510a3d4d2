-- The count of a reader's refusals.
use Rattle.std.specs.Prelude.{ℕ, ◌+◌, ◌-◌, ◌^◌, min}

-- the count after one more: it stays at the greatest number of its type
abbrev pub raised : ℕ → ℕ
raised n = min (n + 1) (2 ^ 64 - 1)
