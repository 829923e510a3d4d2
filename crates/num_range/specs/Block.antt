-- Blocks of a prefix length: as many numbers as the bits past the length can say, from a multiple of that many on
-- (RFC 4632 3.1, RFC 4291 2.3).
use Rattle.std.specs.Prelude.{◌≡◌, ℕ, ◌+◌, ◌-◌, ◌%◌, ◌^◌, ◌≤◌}
use Rattle.num_range.specs.declared.space.Space.{Space}
use Rattle.num_range.specs.Space.{top_of, width_of}
use Rattle.num_range.specs.Number.{PlainNumber}
use Rattle.num_range.specs.Range.{PlainRange}

-- how many numbers a block of this length has
abbrev pub block_size : Space → ℕ → ℕ
block_size space len = 2 ^ (width_of space - len)

-- a block of this length starts here
abbrev pub IsBlockStart : Space → ℕ → ℕ → Type 0
IsBlockStart space start len =
    (len ≤ width_of space) × (start ≤ top_of space) × (start % block_size space len ≡ 0)

-- the block of this length that starts here
abbrev pub block_of : Space → ℕ → ℕ → PlainRange
block_of space start len = record { space = space; first = start; last = start + (block_size space len - 1) }

-- the block of this length that holds the number
abbrev pub block_holding : PlainNumber → ℕ → PlainRange
block_holding n len = block_of n.space (n.value - n.value % block_size n.space len) len
