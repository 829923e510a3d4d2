-- The index of free blocks: how large an aligned block each available piece has room for, and where the piece begins.
use Rattle.std.specs.Prelude.{◌≡◌, ℕ, ◌+◌, ◌-◌, ◌^◌, ◌<◌, ◌≤◌, min, Bool, true, false, ◌&&◌, nat_le, if◌then◌else◌, List, ◌++◌, map, filter, count_by, zero, suc, Option, None, Some}
use Rattle.std.specs.List.{AllByRecursion, slice_get}
use Rattle.std.specs.declared.cmp.Ordering.{Ordering}
use Rattle.std.specs.Ordering.{is_eq, ordering_then, nat_cmp}
use Rattle.num_range.specs.Space.{space_rank, same_space}
use Rattle.num_range.specs.declared.space.Space.{Space}
use Rattle.num_range.specs.declared.space.Space.TheVariants.{Asn, Ipv4, Ipv6}
use Rattle.num_range.specs.Range.{PlainRange, size_of}
use Rattle.reg_entry.specs.declared.piece.Piece.{Piece}
use Rattle.reg_entry.specs.Card.{is_available}
use Rattle.reg_entry.specs.Blocks.{rounded_up}
use Rattle.reg_entry.specs.Partition.{Partition, pieces_in, with_pieces, piece_count, IsPartition}
use Rattle.piece_book.specs.declared.free.key.FreeKey.{FreeKey}
use Rattle.piece_book.specs.Touched.{IsTouched}

-- the range has a block of 2 ^ exponent addresses behind its first multiple of that many (RFC 4632 3.1)
abbrev pub has_block : PlainRange → ℕ → Bool
has_block r exponent = nat_le (rounded_up r.first (2 ^ exponent) + (2 ^ exponent - 1)) r.last

-- the greatest number up to a bound that passes a test, or 0
unfoldable pub greatest_to : ℕ → (ℕ → Bool) → ℕ
greatest_to zero passes = 0
greatest_to (suc n) passes = if passes (suc n) then suc n else greatest_to n passes

-- how large an aligned block a range has room for: of addresses the exponent of its size, of AS numbers, which need no
-- alignment, their count, up to the 1,024 that can be asked for at once
abbrev pub block_class : Space → PlainRange → ℕ
block_class Asn r = min (size_of r) 1024
block_class Ipv4 r = greatest_to 128 (has_block r)
block_class Ipv6 r = greatest_to 128 (has_block r)

-- how many numbers a block of the class has
abbrev pub class_size : Space → ℕ → ℕ
class_size Asn class = class
class_size Ipv4 class = 2 ^ class
class_size Ipv6 class = 2 ^ class

-- the sizes that are looked for: of AS numbers 1 to 1,024, of addresses the powers of two up to all of global unicast
-- (RFC 4291 2.4)
abbrev pub IsBlockSize : Space → ℕ → Type 0
IsBlockSize Asn size = (1 ≤ size) × (size ≤ 1024)
IsBlockSize Ipv4 size = (class : ℕ) × (class ≤ 125) × (size ≡ 2 ^ class)
IsBlockSize Ipv6 size = (class : ℕ) × (class ≤ 125) × (size ≡ 2 ^ class)

abbrev pub key_of : Piece → FreeKey
key_of p = record { space = p.range.space; class = block_class p.range.space p.range; first = p.range.first }

-- keys are in the order of their spaces, then of their classes, then of their first numbers
abbrev pub key_cmp : FreeKey → FreeKey → Ordering
key_cmp a b = ordering_then (nat_cmp (space_rank a.space) (space_rank b.space)) (ordering_then (nat_cmp a.class b.class) (nat_cmp a.first b.first))

abbrev pub is_key : FreeKey → FreeKey → Bool
is_key key other = is_eq (key_cmp other key)

-- the keys of the available pieces
abbrev pub free_keys : List Piece → List FreeKey
free_keys ps = map key_of (filter (λ p. is_available p.card.status) ps)

-- the keys of the available pieces of the three spaces
abbrev pub keys_of_pool : Partition → List FreeKey
keys_of_pool pool = free_keys pool.asn ++ (free_keys pool.ipv4 ++ free_keys pool.ipv6)

-- an index as contracts see it: its keys, rising, and how many there may be
pub record PlainIndex : Type 0 where
  pub keys : List FreeKey
  pub room : ℕ

-- the keys are those of the pool's available pieces: each test passes as many of the ones as of the others
pub record IsIndexOf (keys : List FreeKey) (pool : Partition) : Type 0 where
  pub same : (passes : FreeKey → Bool) → count_by passes keys ≡ count_by passes (keys_of_pool pool)

-- the index is that of some pool
pub record IsIndexed (keys : List FreeKey) : Type 0 where
  pub pool : Partition
  pub indexed : IsIndexOf keys pool
  pub valid : IsPartition pool

-- the index is that of some pool, the next pool has other pieces in one space, and what went and what came are what was
-- touched there
pub record IsPoolChange (index : PlainIndex) (before after : List Piece) : Type 0 where
  pub pool : Partition
  pub next : Partition
  pub space : Space
  pub pieces : List Piece
  pub changed : next ≡ with_pieces pool space pieces
  pub touched : IsTouched (pieces_in pool space) (pieces_in next space) before after
  pub indexed : IsIndexOf index.keys pool
  pub was : IsPartition pool
  pub is : IsPartition next
  pub fitted : piece_count pool ≤ index.room
  pub fits : piece_count next ≤ index.room

-- ---- the keys in the pages

-- no piece is the whole IPv6 space, whose numbers a `u128` doesn't count
abbrev pub AreCounted : List Piece → Type 0
AreCounted ps = AllByRecursion (λ p. size_of p.range < 2 ^ 128) ps

-- how many of the keys pass
abbrev pub passing : (FreeKey → Bool) → List (FreeKey × Unit {0}) → ℕ
passing passes pairs = count_by (λ p. passes p.0) pairs

-- the key is one of the space, with room for a block of the class
abbrev pub serves : Space → ℕ → FreeKey → Bool
serves space class key = same_space key.space space && nat_le class key.class

-- a key that passes has this first number
pub record HasFirst (passes : FreeKey → Bool) (pairs : List (FreeKey × Unit {0})) (first : ℕ) : Type 0 where
  pub place : ℕ
  pub pair : FreeKey × Unit {0}
  pub stands : slice_get pairs place ≡ Some pair
  pub passed : passes pair.0 ≡ true
  pub begins : pair.0.first ≡ first

-- the least first number among the keys that pass, or none where none passes
abbrev pub IsLeastFirst : (FreeKey → Bool) → List (FreeKey × Unit {0}) → Option ℕ → Type 0
IsLeastFirst passes pairs None = AllByRecursion (λ p. passes p.0 ≡ false) pairs
IsLeastFirst passes pairs (Some least) =
    HasFirst passes pairs least × AllByRecursion (λ p. passes p.0 ≡ true → least ≤ p.0.first) pairs
