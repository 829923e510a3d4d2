-- Which pieces in quarantine may be released on a day.
use Rattle.std.specs.Prelude.{ℕ, Bool, ◌&&◌, nat_le, List, ◌++◌}
use Rattle.std.specs.List.{filter}
use Rattle.reg_entry.specs.declared.card.Status.TheVariants.{Quarantine}
use Rattle.reg_entry.specs.declared.piece.Piece.{Piece}
use Rattle.reg_entry.specs.Card.{same_status}
use Rattle.reg_entry.specs.Partition.{Partition}

-- the pieces of the three spaces: AS numbers, IPv4, IPv6
abbrev pub all_pieces : Partition → List Piece
all_pieces pool = pool.asn ++ (pool.ipv4 ++ pool.ipv6)

-- the piece is in quarantine, up to the day or one before it
abbrev pub is_due : ℕ → Piece → Bool
is_due day p = same_status p.card.status Quarantine && nat_le p.card.until day

-- the pieces that are due on the day, in the order of the spaces, and each space's in their own
abbrev pub due_pieces : Partition → ℕ → List Piece
due_pieces pool day = filter (is_due day) (all_pieces pool)
