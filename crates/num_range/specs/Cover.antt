-- A range as a list of blocks: its least cover (RFC 4632 3.1), and the blocks at which its reverse zones are cut
-- (RFC 1035 3.5 by octets, RFC 3596 2.5 by nibbles).
use Rattle.std.specs.Prelude.{ℕ, zero, suc, ◌+◌, ◌%◌, Bool, true, false, ◌&&◌, ◌||◌, nat_le, ◌==◌, if◌then◌else◌, List, [], ◌∷◌, ◌++◌}
use Rattle.num_range.specs.declared.space.Space.{Space}
use Rattle.num_range.specs.declared.space.Space.TheVariants.{Asn, Ipv4, Ipv6}
use Rattle.num_range.specs.Space.{width_of}
use Rattle.num_range.specs.Range.{PlainRange}
use Rattle.num_range.specs.Block.{block_size, block_of}

-- each number of the block is one of the range's
abbrev pub is_part_of : PlainRange → PlainRange → Bool
is_part_of block r = nat_le r.first block.first && nat_le block.last r.last

-- the block has a number of the range
abbrev pub has_some_of : PlainRange → PlainRange → Bool
has_some_of block r = nat_le r.first block.last && nat_le block.first r.last

-- By halving: the block of this length that starts here, where it lies inside the range and its length is an asked one;
-- nothing, where it has no number of the range or no greater length is left to look at; else those of its two halves.
unfoldable pub blocks_inside : (ℕ → Bool) → PlainRange → ℕ → ℕ → ℕ → List PlainRange
blocks_inside is_asked r zero len start =
    let block = block_of r.space start len in
    if is_asked len && is_part_of block r then block ∷ [] else []
blocks_inside is_asked r (suc lengths_left) len start =
    let block = block_of r.space start len in
    elim (is_asked len && is_part_of block r) [
      | true ↦ block ∷ []
      | false ↦ elim (has_some_of block r) [
        | false ↦ []
        | true ↦ blocks_inside is_asked r lengths_left (len + 1) start
            ++ blocks_inside is_asked r lengths_left (len + 1) (start + block_size r.space (len + 1))
      ]
    ]

-- the least list of blocks that hold exactly the range's numbers, rising
unfoldable pub least_cover : PlainRange → List PlainRange
least_cover r = blocks_inside (λ _. true) r (width_of r.space) 0 0

-- a reverse zone is cut at whole octets of an IPv4 address, and at whole nibbles of an IPv6 address
abbrev pub is_cut_length : Space → ℕ → Bool
is_cut_length Asn len = false
is_cut_length Ipv4 len = len == 16 || len == 24
is_cut_length Ipv6 len = nat_le 16 len && nat_le len 64 && len % 4 == 0

-- the length of the smallest cuts
abbrev pub longest_cut : Space → ℕ
longest_cut Asn = 0
longest_cut Ipv4 = 24
longest_cut Ipv6 = 64

-- the blocks of these lengths that lie inside the range and in no shorter such block inside it, rising
unfoldable pub reverse_cuts : PlainRange → List PlainRange
reverse_cuts r = blocks_inside (is_cut_length r.space) r (longest_cut r.space) 0 0
