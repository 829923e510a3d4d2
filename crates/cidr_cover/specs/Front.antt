-- The block at the front of a range, and what is behind it.
use Rattle.std.specs.Prelude.{ℕ, ◌+◌, ◌-◌, ◌≤◌, nat_lt, if◌then◌else◌, Option, None, Some}
use Rattle.num_range.specs.Range.{PlainRange}
use Rattle.num_range.specs.Block.{block_size, block_of, IsBlockStart}

-- a block of this length starts where the range does and lies inside it
pub record IsFrontBlock (r : PlainRange) (len : ℕ) : Type 0 where
  pub starts : IsBlockStart r.space r.first len
  pub ends : r.first + (block_size r.space len - 1) ≤ r.last

-- the range without the block of this length at its front
abbrev pub behind_front : PlainRange → ℕ → Option PlainRange
behind_front r len =
    let block = block_of r.space r.first len in
    if nat_lt block.last r.last then Some (record { space = r.space; first = block.last + 1; last = r.last }) else None
