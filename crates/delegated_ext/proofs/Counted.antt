-- How many records there are.
use Rattle.std.proofs.Common.{◌≡◌, ℕ, ◌+◌, ◌*◌, ◌^◌, ◌<◌, ◌≤◌, List, [], ◌∷◌, length, ap, ◌∙◌, arith, length-append}
use Rattle.std.specs.List.{flat_map}
use Rattle.std.proofs.lemmas.List.{length-map}
use Rattle.num_range.specs.declared.space.Space.{Space}
use Rattle.num_range.specs.declared.space.Space.TheVariants.{Asn, Ipv4, Ipv6}
use Rattle.num_range.specs.Space.{width_of}
use Rattle.num_range.specs.Range.{PlainRange}
use Rattle.num_range.specs.Cover.{least_cover}
use Rattle.reg_entry.specs.declared.piece.Piece.{Piece}
use Rattle.reg_entry.specs.Partition.{Partition, pieces_in, piece_count}
use Rattle.delegated_ext.specs.Records.{record_line, written_ranges, piece_records}

-- a piece has as many records as ranges are written of it
pub count_of_piece : (p : Piece) → length (piece_records p) ≡ length (written_ranges p.range.space p.range)
count_of_piece p = length-map (written_ranges p.range.space p.range) (record_line p.card)

abbrev FewBlocks : Type 0
FewBlocks = (r : PlainRange) → length (least_cover r) ≤ 2 * width_of r.space

widths : (space : Space) → width_of space ≤ 128
widths Asn = omega arith
widths Ipv4 = omega arith
widths Ipv6 = omega arith

few_ranges : FewBlocks → (space : Space) (r : PlainRange) → length (written_ranges space r) ≤ 256
few_ranges few Asn r = omega arith
few_ranges few Ipv4 r = omega arith
few_ranges few Ipv6 r = let blocks = few r in let width = widths r.space in omega arith

few_records : FewBlocks → (ps : List Piece) → length (flat_map piece_records ps) ≤ 256 * length ps
few_records few [] = omega arith
few_records few (p ∷ ps) =
    let rest = few_records few ps in
    let parts = length-append (piece_records p) (flat_map piece_records ps) in
    let count = count_of_piece p in
    let one = few_ranges few p.range.space p.range in
    omega arith

part_of_all : (pool : Partition) (space : Space) → length (pieces_in pool space) ≤ piece_count pool
part_of_all pool Asn = omega arith
part_of_all pool Ipv4 = omega arith
part_of_all pool Ipv6 = omega arith

-- ---- one piece more

-- what was counted, and what is left, are all
pub record IsCounting (count : ℕ) (left ps : List Piece) : Type 0 where
  pub all : count + length (flat_map piece_records left) ≡ length (flat_map piece_records ps)
  pub few : length (flat_map piece_records ps) ≤ 2 ^ 38

pub none_counted : (pool : Partition) (space : Space) (room : ℕ) (left : List Piece) → FewBlocks → piece_count pool ≤ room → room ≤ 2 ^ 30
    → left ≡ pieces_in pool space → IsCounting 0 left (pieces_in pool space)
none_counted pool space room left few within bound e =
    let part = part_of_all pool space in
    let records = few_records few (pieces_in pool space) in
    let same = ap (λ (ps : List Piece). length (flat_map piece_records ps)) e in
    record { all = omega arith; few = omega arith }

records_left : (left rest : List Piece) (p : Piece) → left ≡ p ∷ rest
    → length (flat_map piece_records left) ≡ length (piece_records p) + length (flat_map piece_records rest)
records_left left rest p e =
    ap (λ (ps : List Piece). length (flat_map piece_records ps)) e ∙ length-append (piece_records p) (flat_map piece_records rest)

pub one_counted : (count more : ℕ) (left rest ps : List Piece) (p : Piece) → left ≡ p ∷ rest → more ≡ length (piece_records p)
    → IsCounting count left ps → IsCounting (count + more) rest ps
one_counted count more left rest ps p e is h =
    let one = records_left left rest p e in
    let was = h.all in
    record { all = omega arith; few = h.few }

pub room_for_one : (count more : ℕ) (left rest ps : List Piece) (p : Piece) → left ≡ p ∷ rest → more ≡ length (piece_records p)
    → IsCounting count left ps → count + more < 2 ^ 64
room_for_one count more left rest ps p e is h =
    let one = records_left left rest p e in
    let was = h.all in
    let bound = h.few in
    omega arith

pub all_counted : (count : ℕ) (left ps : List Piece) → left ≡ [] → IsCounting count left ps
    → (count ≡ length (flat_map piece_records ps)) × (count ≤ 2 ^ 38)
all_counted count left ps e h =
    let none = ap (λ (qs : List Piece). length (flat_map piece_records qs)) e in
    let was = h.all in
    let bound = h.few in
    (omega arith, omega arith)
