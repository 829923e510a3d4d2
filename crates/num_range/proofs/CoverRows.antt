-- Covers and cuts tried on worked examples: each computes.
use Rattle.std.proofs.Common.{◌≡◌, ℕ, ◌+◌, ◌*◌, ◌^◌, [], ◌∷◌, refl}
use Rattle.num_range.specs.declared.space.Space.TheVariants.{Asn, Ipv4, Ipv6}
use Rattle.num_range.specs.Range.{PlainRange}
use Rattle.num_range.specs.Block.{block_of}
use Rattle.num_range.specs.Cover.{blocks_inside, least_cover, reverse_cuts}

abbrev range4 : ℕ → ℕ → PlainRange
range4 first last = record { space = Ipv4; first = first; last = last }

abbrev range6 : ℕ → ℕ → PlainRange
range6 first last = record { space = Ipv6; first = first; last = last }

-- the block of 2001:db8::/32 with this number in its third group
abbrev block6 : ℕ → ℕ → PlainRange
block6 group len = block_of Ipv6 (0x20010db8 * 2 ^ 96 + group * 2 ^ 80) len

-- 2001:db8::/32 with 2001:db8:1:: to 2001:db8:3:ffff:ffff:ffff:ffff:ffff reserved: what is below that, that, and what is
-- above it
below : least_cover (block6 0 48) ≡ block6 0 48 ∷ []
unfolding least_cover blocks_inside
below = refl

reserved : least_cover (range6 (block6 1 48).first (block6 3 48).last) ≡ block6 1 48 ∷ block6 2 47 ∷ []
unfolding least_cover blocks_inside
reserved = refl

above :
    least_cover (range6 (block6 4 48).first (block6 0 32).last)
    ≡ block6 4 46 ∷ block6 8 45 ∷ block6 0x10 44 ∷ block6 0x20 43 ∷ block6 0x40 42 ∷ block6 0x80 41 ∷ block6 0x100 40
    ∷ block6 0x200 39 ∷ block6 0x400 38 ∷ block6 0x800 37 ∷ block6 0x1000 36 ∷ block6 0x2000 35 ∷ block6 0x4000 34
    ∷ block6 0x8000 33 ∷ []
unfolding least_cover blocks_inside
above = refl

-- the ends of the spaces
whole_space : least_cover (range4 0 0xffffffff) ≡ block_of Ipv4 0 0 ∷ []
unfolding least_cover blocks_inside
whole_space = refl

last_number : least_cover (range4 0xffffffff 0xffffffff) ≡ block_of Ipv4 0xffffffff 32 ∷ []
unfolding least_cover blocks_inside
last_number = refl

last_as_numbers :
    least_cover (record { space = Asn; first = 4294967293; last = 4294967295 })
    ≡ block_of Asn 4294967293 32 ∷ block_of Asn 4294967294 31 ∷ []
unfolding least_cover blocks_inside
last_as_numbers = refl

-- 2001:db8::/32 is one cut
cut_of_allocation : reverse_cuts (block6 0 32) ≡ block6 0 32 ∷ []
unfolding reverse_cuts blocks_inside
cut_of_allocation = refl

-- 198.51.100.0/22 has four
cuts_of_22 :
    reverse_cuts (block_of Ipv4 0xc6336400 22)
    ≡ block_of Ipv4 0xc6336400 24 ∷ block_of Ipv4 0xc6336500 24 ∷ block_of Ipv4 0xc6336600 24 ∷ block_of Ipv4 0xc6336700 24 ∷ []
unfolding reverse_cuts blocks_inside
cuts_of_22 = refl

-- 192.0.2.64/26 is less than an octet's block
no_cut_of_26 : reverse_cuts (block_of Ipv4 0xc0000240 26) ≡ []
unfolding reverse_cuts blocks_inside
no_cut_of_26 = refl

-- 198.18.0.0/15 is two blocks of two octets
cuts_of_15 : reverse_cuts (block_of Ipv4 0xc6120000 15) ≡ block_of Ipv4 0xc6120000 16 ∷ block_of Ipv4 0xc6130000 16 ∷ []
unfolding reverse_cuts blocks_inside
cuts_of_15 = refl

-- a range that is no block: 198.51.254.1 to 198.53.0.255
cuts_of_range :
    reverse_cuts (range4 0xc633fe01 0xc63500ff)
    ≡ block_of Ipv4 0xc633ff00 24 ∷ block_of Ipv4 0xc6340000 16 ∷ block_of Ipv4 0xc6350000 24 ∷ []
unfolding reverse_cuts blocks_inside
cuts_of_range = refl

-- 2001:db8::/65 is less than the smallest block of nibbles
no_cut_past_64 : reverse_cuts (block6 0 65) ≡ []
unfolding reverse_cuts blocks_inside
no_cut_past_64 = refl
