-- What all zones of a register together say of its reverse entries.
use Rattle.std.specs.Prelude.{◌≡◌, ℕ, ◌^◌, nat_le, List, [], ◌∷◌, ◌++◌, map, filter, codes, Contains}
use Rattle.std.specs.List.{flat_map}
use Rattle.num_range.specs.declared.space.Space.{Space}
use Rattle.num_range.specs.declared.space.Space.TheVariants.{Asn, Ipv4, Ipv6}
use Rattle.num_range.specs.Range.{PlainRange, IsInside, size_of, same_range}
use Rattle.num_range.specs.Cover.{reverse_cuts}
use Rattle.reg_entry.specs.Register.{Register}
use Rattle.reverse_zone.specs.declared.apex.Apex.{Apex}
use Rattle.reverse_zone.specs.Apex.{IsApex, apex_range, apex_name, labels_text}
use Rattle.reverse_zone.specs.Zone.{apexes_in, zone_cuts, label_at, cut_name}

-- at which bits of an address its labels begin, the last first
abbrev pub address_places : Space → List ℕ
address_places Asn = []
address_places Ipv4 = 0 ∷ 8 ∷ 16 ∷ 24 ∷ []
address_places Ipv6 =
    0 ∷ 4 ∷ 8 ∷ 12 ∷ 16 ∷ 20 ∷ 24 ∷ 28 ∷ 32 ∷ 36 ∷ 40 ∷ 44 ∷ 48 ∷ 52 ∷ 56 ∷ 60 ∷ 64 ∷ 68 ∷ 72 ∷ 76 ∷ 80 ∷ 84 ∷ 88 ∷ 92 ∷ 96
    ∷ 100 ∷ 104 ∷ 108 ∷ 112 ∷ 116 ∷ 120 ∷ 124 ∷ []

-- the domain that has the names of all addresses (RFC 1035 3.5, RFC 3596 2.5)
abbrev pub domain_of : Space → List ℕ
domain_of Asn = []
domain_of Ipv4 = codes ".in-addr.arpa"
domain_of Ipv6 = codes ".ip6.arpa"

-- the whole name of a block: the labels that all its addresses share
abbrev pub reverse_name : PlainRange → List ℕ
reverse_name block =
    labels_text block.space (map (label_at block) (filter (λ place. nat_le (size_of block) (2 ^ place)) (address_places block.space)))
    ++ domain_of block.space

-- the cuts that the zones have, zone by zone
abbrev pub zoned_cuts : Register → List (PlainRange × List (List ℕ))
zoned_cuts r = flat_map (zone_cuts r) (apexes_in r)

-- the servers that the block is delegated to, once for each place where it stands
abbrev pub servers_of : List (PlainRange × List (List ℕ)) → PlainRange → List (List (List ℕ))
servers_of cuts block = map (λ c. c.1) (filter (λ c. same_range c.0 block) cuts)

-- a cut of a reverse entry, with the entry's servers
pub record IsEntryCut (r : Register) (c : PlainRange × List (List ℕ)) : Type 0 where
  pub entry : PlainRange × List (List ℕ)
  pub known : Contains r.reverses entry
  pub cut : Contains (reverse_cuts entry.0) c.0
  pub servers : c.1 ≡ entry.1

pub record AreDelegated (r : Register) : Type 0 where
  -- each cut of a reverse entry stands in one place of one zone, with the servers of the entry
  pub once : (s : PlainRange × List (List ℕ)) (cut : PlainRange) → Contains r.reverses s → Contains (reverse_cuts s.0) cut
      → servers_of (zoned_cuts r) cut ≡ s.1 ∷ []
  -- a zone has no other cuts, and none that lies elsewhere
  pub only : (apex : Apex) (c : PlainRange × List (List ℕ)) → Contains (zone_cuts r apex) c
      → IsEntryCut r c × IsInside c.0 (apex_range apex)
  -- a cut's name and that of its zone are the whole name of the block
  pub whole : (apex : Apex) (c : PlainRange × List (List ℕ)) → IsApex apex → Contains (zone_cuts r apex) c
      → cut_name c.0 ++ codes "." ++ apex_name apex ≡ reverse_name c.0
  -- two cuts of a zone have two names
  pub names : (apex : Apex) (c d : PlainRange × List (List ℕ)) → Contains (zone_cuts r apex) c → Contains (zone_cuts r apex) d
      → cut_name c.0 ≡ cut_name d.0 → c.0 ≡ d.0
