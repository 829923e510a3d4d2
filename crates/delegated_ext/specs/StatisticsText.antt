-- The text of the statistics file: the version line, three summary lines and the records, each ended by LF (RIR statistics
-- exchange format, version 2, with the status and the opaque id of the NRO's extended reports).
use Rattle.std.specs.Prelude.{ℕ, zero, suc, ◌+◌, nat_le, if◌then◌else◌, List, [], ◌++◌, Option, None, codes, decimal, length, slice_get}
use Rattle.std.specs.List.{flat_map}
use Rattle.std.specs.Option.{option_map_or, option_and_then}
use Rattle.num_range.specs.declared.space.Space.{Space}
use Rattle.num_range.specs.declared.space.Space.TheVariants.{Asn, Ipv4, Ipv6}
use Rattle.num_range.specs.Block.{block_size}
use Rattle.addr_text.specs.Number.{text_of}
use Rattle.reg_entry.specs.declared.card.Card.{Card}
use Rattle.reg_entry.specs.declared.card.Status.{Status}
use Rattle.reg_entry.specs.declared.card.Status.TheVariants.{Available, Reserved, Quarantine, Allocated, Assigned}
use Rattle.reg_entry.specs.declared.holder.Holder.{Holder}
use Rattle.reg_entry.specs.Card.{is_delegated}
use Rattle.reg_entry.specs.Days.{day_text}
use Rattle.reg_entry.specs.Register.{Register}
use Rattle.delegated_ext.specs.declared.record_line.RecordLine.{RecordLine}
use Rattle.delegated_ext.specs.Records.{records_in, record_lines}

-- ---- the fields of a record

abbrev pub type_word : Space → List ℕ
type_word Asn = codes "asn"
type_word Ipv4 = codes "ipv4"
type_word Ipv6 = codes "ipv6"

-- the first number: an AS number as plain decimal (RFC 5396 2, asplain), or an address
abbrev pub start_text : Space → ℕ → List ℕ
start_text Asn start = decimal start
start_text Ipv4 start = text_of Ipv4 start
start_text Ipv6 start = text_of Ipv6 start

-- the first prefix length, from one on, whose block has no more numbers than these; so many lengths follow it
abbrev pub first_length : ℕ → ℕ → ℕ → ℕ
first_length zero len size = len
first_length (suc lengths_left) len size =
    if nat_le (block_size Ipv6 len) size then len else first_length lengths_left (len + 1) size

-- the prefix length of an IPv6 block of so many numbers (RFC 4291 2.3)
unfoldable pub prefix_length : ℕ → ℕ
prefix_length size = first_length 128 0 size

-- how many numbers there are: their count, or of an IPv6 block its prefix length
abbrev pub value_text : Space → ℕ → List ℕ
value_text Asn size = decimal size
value_text Ipv4 size = decimal size
value_text Ipv6 size = decimal (prefix_length size)

-- the reports know no quarantine: such numbers are reserved
abbrev pub status_word : Status → List ℕ
status_word Available = codes "available"
status_word Reserved = codes "reserved"
status_word Quarantine = codes "reserved"
status_word Allocated = codes "allocated"
status_word Assigned = codes "assigned"

-- the day of delegated numbers
abbrev pub date_text : Card → List ℕ
date_text card = if is_delegated card.status then day_text card.day else []

-- the holder of delegated numbers
abbrev pub holder_of : List (Holder × ℕ) → Card → Option (Holder × ℕ)
holder_of hs card = if is_delegated card.status then option_and_then (slice_get hs) card.holder else None

abbrev pub country_text : Option (Holder × ℕ) → List ℕ
country_text holder = option_map_or (λ m. m.0.cc) holder []

-- the opaque id, which is the same in all records of a holder: the handle
abbrev pub opaque_text : Option (Holder × ℕ) → List ℕ
opaque_text holder = option_map_or (λ m. m.0.handle) holder []

-- ---- the lines

-- registry|cc|type|start|value|date|status|opaque-id
abbrev pub record_text : List ℕ → List (Holder × ℕ) → RecordLine → List ℕ
record_text registry hs line =
    registry ++ codes "|" ++ country_text (holder_of hs line.card) ++ codes "|" ++ type_word line.space ++ codes "|"
    ++ start_text line.space line.start ++ codes "|" ++ value_text line.space line.size ++ codes "|" ++ date_text line.card
    ++ codes "|" ++ status_word line.card.status ++ codes "|" ++ opaque_text (holder_of hs line.card) ++ codes "\n"

-- version|registry|serial|records|startdate|enddate|UTC offset: the serial is the number of the last entry, and the dates are the
-- days of the first and of the last
abbrev pub version_line : List ℕ → Register → List ℕ
version_line registry r =
    codes "2|" ++ registry ++ codes "|" ++ decimal r.entries ++ codes "|" ++ decimal (length (record_lines r)) ++ codes "|"
    ++ day_text r.first_day ++ codes "|" ++ day_text r.last_day ++ codes "|+0000\n"

-- registry|*|type|*|count|summary: how many records the space has
abbrev pub summary_line : List ℕ → Space → ℕ → List ℕ
summary_line registry space count =
    registry ++ codes "|*|" ++ type_word space ++ codes "|*|" ++ decimal count ++ codes "|summary\n"

abbrev pub summary_of : List ℕ → Register → Space → List ℕ
summary_of registry r space = summary_line registry space (length (records_in r space))

-- the whole file of a register, under the registry's name
abbrev pub statistics_text : Register → List ℕ → List ℕ
statistics_text r registry =
    version_line registry r ++ summary_of registry r Asn ++ summary_of registry r Ipv4 ++ summary_of registry r Ipv6
    ++ flat_map (record_text registry r.holders) (record_lines r)
