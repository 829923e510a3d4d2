-- The records of the statistics file by their values (RIR statistics exchange format, "record line").
use Rattle.std.specs.Prelude.{List, [], ◌∷◌, ◌++◌, map}
use Rattle.std.specs.List.{flat_map}
use Rattle.num_range.specs.declared.space.Space.{Space}
use Rattle.num_range.specs.declared.space.Space.TheVariants.{Asn, Ipv4, Ipv6}
use Rattle.num_range.specs.Range.{PlainRange, size_of}
use Rattle.num_range.specs.Cover.{least_cover}
use Rattle.reg_entry.specs.declared.card.Card.{Card}
use Rattle.reg_entry.specs.declared.piece.Piece.{Piece}
use Rattle.reg_entry.specs.Register.{Register, register_pieces}
use Rattle.delegated_ext.specs.declared.record_line.RecordLine.{RecordLine}

-- the ranges that a record can say: of AS numbers and IPv4 addresses any, by their count; of IPv6 addresses blocks, by their
-- prefix length, and so those of the least cover
abbrev pub written_ranges : Space → PlainRange → List PlainRange
written_ranges Asn r = r ∷ []
written_ranges Ipv4 r = r ∷ []
written_ranges Ipv6 r = least_cover r

-- a range whose numbers have the card
abbrev pub record_line : Card → PlainRange → RecordLine
record_line card r = record { space = r.space; start = r.first; size = size_of r; card = card }

abbrev pub piece_records : Piece → List RecordLine
piece_records p = map (record_line p.card) (written_ranges p.range.space p.range)

-- the records of a space, rising
abbrev pub records_in : Register → Space → List RecordLine
records_in r space = flat_map piece_records (register_pieces r space)

-- the records of a register: AS numbers, IPv4, IPv6
abbrev pub record_lines : Register → List RecordLine
record_lines r = records_in r Asn ++ (records_in r Ipv4 ++ records_in r Ipv6)
