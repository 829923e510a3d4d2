-- Which blocks are the reverse cuts of a range.
use Rattle.std.specs.Prelude.{◌≡◌, ℕ, ◌<◌, true}
use Rattle.num_range.specs.Range.{PlainRange, IsInside}
use Rattle.num_range.specs.Block.{IsBlockStart, block_of}
use Rattle.num_range.specs.Cover.{is_cut_length}

-- a block of this length, at which zones are cut, lies inside the range
pub record IsCutInside (r b : PlainRange) (length : ℕ) : Type 0 where
  pub cut_length : is_cut_length r.space length ≡ true
  pub starts : IsBlockStart r.space b.first length
  pub is_block : b ≡ block_of r.space b.first length
  pub inside : IsInside b r

-- and it lies in no shorter one that does
pub record IsReverseCut (r b : PlainRange) : Type 0 where
  pub length : ℕ
  pub is_cut : IsCutInside r b length
  pub widest : (wider : PlainRange) (shorter : ℕ) → shorter < length → IsCutInside r wider shorter → IsInside b wider → ⊥
