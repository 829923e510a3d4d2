-- The nibbles of no apex are those of no number of the pool.
use Rattle.std.proofs.Common.{◌≡◌, ℕ, ◌+◌, ◌^◌, ◌<◌, ◌≤◌, true, false, ◌||◌, ◌&&◌, nat_le, List, [], ◌∷◌, refl, ◌∙◌, ap, arith}
use Rattle.std.specs.List.{list_any}
use Rattle.std.proofs.lemmas.Bool.{both_ways}
use Rattle.std.proofs.lemmas.Bool.Decides.{nat_tests}
use Rattle.num_range.specs.Range.{PlainRange}
use Rattle.num_range.specs.declared.space.Space.TheVariants.{Ipv6}
use Rattle.reg_entry.specs.declared.piece.Piece.{Piece}
use Rattle.reg_entry.specs.Partition.{IsPartition}
use Rattle.reg_entry.specs.Pieces.{AllPiecesOf, piece_meets}
use Rattle.reg_entry.specs.Register.{Register}
use Rattle.reverse_zone.specs.declared.apex.Apex.{Apex}
use Rattle.reverse_zone.specs.declared.apex.Apex.TheVariants.{Four, Six}
use Rattle.reverse_zone.specs.Apex.{is_apex, apex_range}
use Rattle.reverse_zone.specs.Zone.{in_pool}

-- a range on either side of global unicast
abbrev IsOutside : PlainRange → Type 0
IsOutside r = nat_le (2 ^ 126) r.first || nat_le (r.last + 1) (2 ^ 125) ≡ true

apart : (first last from to : ℕ) → nat_le (2 ^ 126) first || nat_le (last + 1) (2 ^ 125) ≡ true → 2 ^ 125 ≤ from → to < 2 ^ 126
    → nat_le from last && nat_le first to ≡ false
apart first last from to outside low high = grind (arith, nat_tests)

none_meets : (r : PlainRange) (ps : List Piece) → IsOutside r → AllPiecesOf Ipv6 ps → list_any (piece_meets r) ps ≡ false
none_meets r [] outside each = refl
none_meets r (p ∷ ps) outside each =
    let pooled = each.0.pooled each.0.of_space in
    ap (λ b. b || list_any (piece_meets r) ps) (apart r.first r.last p.range.first p.range.last outside pooled.0 pooled.1)
    ∙ none_meets r ps outside each.1

outside_apexes : (nibbles : ℕ) → (nat_le 0x200 nibbles && nat_le nibbles 0x3ff) ≡ false → IsOutside (apex_range (Six nibbles))
outside_apexes nibbles other = grind (arith, nat_tests)

pub no_zone : (r : Register) (apex : Apex) → IsPartition r.pool → is_apex apex ≡ false → in_pool r apex ≡ false
no_zone r (Four octet) pieces other = absurd (both_ways true other refl)
no_zone r (Six nibbles) pieces other = none_meets (apex_range (Six nibbles)) r.pool.ipv6 (outside_apexes nibbles other) (pieces.each Ipv6).each
