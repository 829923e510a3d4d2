-- Which paths ask for what. A path is given by its segments, percent-decoded: the first, the second and the third.
use Rattle.std.specs.Prelude.{◌≡◌, ℕ, ◌≤◌, List, Option, None, Some, option_map, codes, decimal}
use Rattle.std.specs.Borrow.{Bor}
use Rattle.num_range.specs.Space.{width_of}
use Rattle.num_range.specs.Number.{PlainNumber}
use Rattle.num_range.specs.Range.{PlainRange}
use Rattle.num_range.specs.Block.{block_holding}
use Rattle.addr_text.specs.Address.{SpellsAddress}
use Rattle.addr_text.specs.Number.{SpellsAsn}
use Rattle.addr_text.specs.Reading.{range_of_one}
use Rattle.rdap_query.specs.declared.ask.RdapAsk.{RdapAsk}
use Rattle.rdap_query.specs.declared.ask.RdapAsk.TheVariants.{Ip, Autnum, Help}

-- the segment's bytes, where it is there
abbrev pub texts : Option (Bor (List ℕ)) → Option (List ℕ)
texts segment = option_map (λ s. s.now) segment

-- an address alone
abbrev pub SpellsOne : List ℕ → PlainRange → Type 0
SpellsOne address r = (n : PlainNumber) × SpellsAddress address n × (r ≡ range_of_one n)

-- an address and a prefix length up to the address's width; bits of the address past the length don't matter
abbrev pub SpellsMasked : List ℕ → List ℕ → PlainRange → Type 0
SpellsMasked address length r =
    (n : PlainNumber) × (len : ℕ) × SpellsAddress address n × (length ≡ decimal len) × (len ≤ width_of n.space)
    × (r ≡ block_holding n len)

-- the segments behind `ip` (RFC 9082 3.1.1)
abbrev pub SpellsNetwork : Option (List ℕ) → Option (List ℕ) → PlainRange → Type 0
SpellsNetwork (Some address) None r = SpellsOne address r
SpellsNetwork (Some address) (Some length) r = SpellsMasked address length r
SpellsNetwork None third r = ⊥

-- the segments behind `autnum` (RFC 9082 3.1.2)
abbrev pub SpellsAutnum : Option (List ℕ) → Option (List ℕ) → PlainNumber → Type 0
SpellsAutnum (Some number) None n = SpellsAsn number n
SpellsAutnum (Some number) (Some length) n = ⊥
SpellsAutnum None third n = ⊥

-- `ip` and a network, `autnum` and an AS number, or `help` alone (RFC 9082 3.1.6)
abbrev pub SpellsPath : List ℕ → Option (List ℕ) → Option (List ℕ) → RdapAsk → Type 0
SpellsPath first second third (Ip r) = (first ≡ codes "ip") × SpellsNetwork second third r
SpellsPath first second third (Autnum n) = (first ≡ codes "autnum") × SpellsAutnum second third n
SpellsPath first second third Help = (first ≡ codes "help") × (second ≡ None) × (third ≡ None)
