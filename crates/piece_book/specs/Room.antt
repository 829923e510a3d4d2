-- What each book of pieces keeps: pieces as they have to be, within a room that is reserved in each space.
use Rattle.std.specs.Prelude.{◌≡◌, ℕ, ◌^◌, ◌≤◌}
use Rattle.num_range.specs.declared.space.Space.{Space}
use Rattle.num_range.specs.declared.space.Space.TheVariants.{Asn, Ipv4, Ipv6}
use Rattle.reg_entry.specs.Partition.{Partition, piece_count, IsPartition}
use Rattle.piece_book.specs.Free.{PlainIndex, IsIndexOf}
use Rattle.piece_book.specs.SpaceBook.{PlainSpace}

-- the pieces of the three spaces
abbrev pub partition_of : PlainSpace → PlainSpace → PlainSpace → Partition
partition_of asn ipv4 ipv6 = record { asn = asn.pieces; ipv4 = ipv4.pieces; ipv6 = ipv6.pieces }

-- the one book is the space's, with this room
pub record IsBookOf (space : Space) (room : ℕ) (book : PlainSpace) : Type 0 where
  pub of_space : book.space ≡ space
  pub reserved : book.room ≡ room

pub record IsReserved (asn ipv4 ipv6 : PlainSpace) (room : ℕ) : Type 0 where
  pub pieces : IsPartition (partition_of asn ipv4 ipv6)
  pub within : piece_count (partition_of asn ipv4 ipv6) ≤ room
  pub at_most : room ≤ 2 ^ 30
  pub asn_is : IsBookOf Asn room asn
  pub ipv4_is : IsBookOf Ipv4 room ipv4
  pub ipv6_is : IsBookOf Ipv6 room ipv6

-- and the index of free blocks is that of these pieces
pub record IsIndexedBook (asn ipv4 ipv6 : PlainSpace) (free : PlainIndex) (room : ℕ) : Type 0 where
  pub reserved : IsReserved asn ipv4 ipv6 room
  pub indexed : IsIndexOf free.keys (partition_of asn ipv4 ipv6)
  pub free_room : free.room ≡ room
