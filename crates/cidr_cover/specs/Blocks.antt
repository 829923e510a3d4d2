-- Lists of blocks: what they hold, and when they rise.
use Rattle.std.specs.Prelude.{◌≡◌, ℕ, ◌<◌, ◌↔◌, All, Any, AllPairs, List}
use Rattle.num_range.specs.Number.{PlainNumber}
use Rattle.num_range.specs.Range.{PlainRange, Holds}
use Rattle.num_range.specs.Block.{IsBlockStart, block_of}

-- the range is the block of some length (RFC 4632 3.1, RFC 4291 2.3)
pub record IsBlock (b : PlainRange) : Type 0 where
  pub length : ℕ
  pub starts : IsBlockStart b.space b.first length
  pub is_block : b ≡ block_of b.space b.first length

-- the list is of blocks, and they hold the numbers of the range and no others
pub record IsCoverOf (r : PlainRange) (bs : List PlainRange) : Type 0 where
  pub blocks : All IsBlock bs
  pub exact : (n : PlainNumber) → Any (λ b. Holds b n) bs ↔ Holds r n

-- each ends before each later one starts
abbrev pub IsRising : List PlainRange → Type 0
IsRising bs = AllPairs (λ b later. b.last < later.first) bs
