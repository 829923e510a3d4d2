-- The pool: the pieces of the three spaces.
use Rattle.std.specs.Prelude.{ℕ, ◌+◌, List, [], length}
use Rattle.num_range.specs.declared.space.Space.{Space}
use Rattle.num_range.specs.declared.space.Space.TheVariants.{Asn, Ipv4, Ipv6}
use Rattle.reg_entry.specs.declared.piece.Piece.{Piece}
use Rattle.reg_entry.specs.Pieces.{ArePieces}

pub record Partition : Type 0 where
  pub asn : List Piece
  pub ipv4 : List Piece
  pub ipv6 : List Piece

-- the pieces of a space
abbrev pub pieces_in : Partition → Space → List Piece
pieces_in p Asn = p.asn
pieces_in p Ipv4 = p.ipv4
pieces_in p Ipv6 = p.ipv6

-- the partition with other pieces in a space
abbrev pub with_pieces : Partition → Space → List Piece → Partition
with_pieces p Asn ps = record { asn = ps; ipv4 = p.ipv4; ipv6 = p.ipv6 }
with_pieces p Ipv4 ps = record { asn = p.asn; ipv4 = ps; ipv6 = p.ipv6 }
with_pieces p Ipv6 ps = record { asn = p.asn; ipv4 = p.ipv4; ipv6 = ps }

-- a pool without numbers
abbrev pub empty_partition : Partition
empty_partition = record { asn = []; ipv4 = []; ipv6 = [] }

-- how many pieces there are in all
abbrev pub piece_count : Partition → ℕ
piece_count p = length p.asn + length p.ipv4 + length p.ipv6

-- each space has pieces of its own
pub record IsPartition (p : Partition) : Type 0 where
  pub each : (space : Space) → ArePieces space (pieces_in p space)
