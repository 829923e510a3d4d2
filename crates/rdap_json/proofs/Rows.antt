-- The definitions tried on worked examples: each computes.
use Rattle.std.proofs.Common.{◌≡◌, ℕ, true, false, None, Some, Option, codes, refl}
use Rattle.std.specs.Fmt.{digits}
use Rattle.serde_json.proofs.OnLiterals.{serde_json_on_literals}
use Rattle.serde_json.specs.Written.{compact_text}
use Rattle.num_range.specs.declared.space.Space.{Space}
use Rattle.num_range.specs.declared.space.Space.TheVariants.{Asn, Ipv4}
use Rattle.num_range.specs.Range.{PlainRange}
use Rattle.reg_entry.specs.declared.holder.Holder.{Holder}
use Rattle.reg_entry.specs.declared.kind.Kind.TheVariants.{Lir}
use Rattle.reg_entry.specs.Days.{date_of_day}
use Rattle.rdap_json.specs.declared.facts.NetFacts.{NetFacts}
use Rattle.rdap_json.specs.declared.facts.NetKind.{NetKind}
use Rattle.rdap_json.specs.declared.facts.NetKind.TheVariants.{Allocated, Assigned, Sub}
use Rattle.rdap_json.specs.Network.{network_tree}
use Rattle.rdap_json.specs.RdapAnswer.{help_tree}

abbrev alpha : Holder
alpha = record { handle = codes "ORG-A"; kind = Lir; cc = codes "DE"; name = codes "Alpha Net"; email = codes "noc@alpha.example" }

abbrev numbers : Space → ℕ → ℕ → PlainRange
numbers space first last = record { space = space; first = first; last = last }

-- registered on 2024-03-01
abbrev of_alpha : PlainRange → NetKind → Option PlainRange → NetFacts
of_alpha range kind parent = record { range = range; kind = kind; holder = alpha; day = 19783; parent = parent }

allocated : compact_text (network_tree (of_alpha (numbers Ipv4 0xc0000200 0xc000023f) Allocated None) false)
    ≡ codes "{\"country\":\"DE\",\"endAddress\":\"192.0.2.63\",\"entities\":[{\"handle\":\"ORG-A\",\"objectClassName\":\"entity\",\"roles\":[\"registrant\"],\"vcardArray\":[\"vcard\",[[\"version\",{},\"text\",\"4.0\"],[\"fn\",{},\"text\",\"Alpha Net\"],[\"kind\",{},\"text\",\"org\"],[\"email\",{},\"text\",\"noc@alpha.example\"]]]}],\"events\":[{\"eventAction\":\"registration\",\"eventDate\":\"2024-03-01T00:00:00Z\"}],\"handle\":\"192.0.2.0 - 192.0.2.63\",\"ipVersion\":\"v4\",\"name\":\"ORG-A\",\"objectClassName\":\"ip network\",\"rdapConformance\":[\"rdap_level_0\"],\"startAddress\":\"192.0.2.0\",\"status\":[\"active\"],\"type\":\"ALLOCATED\"}"
unfolding serde_json_on_literals digits date_of_day
allocated = refl

-- a sub-assignment inside another object
sub : compact_text (network_tree (of_alpha (numbers Ipv4 0xc0000240 0xc000027f) Sub (Some (numbers Ipv4 0xc0000200 0xc000027f))) true)
    ≡ codes "{\"country\":\"DE\",\"endAddress\":\"192.0.2.127\",\"events\":[{\"eventAction\":\"registration\",\"eventDate\":\"2024-03-01T00:00:00Z\"}],\"handle\":\"192.0.2.64 - 192.0.2.127\",\"ipVersion\":\"v4\",\"name\":\"ORG-A\",\"objectClassName\":\"ip network\",\"parentHandle\":\"192.0.2.0 - 192.0.2.127\",\"startAddress\":\"192.0.2.64\",\"status\":[\"active\"],\"type\":\"SUB-ASSIGNED\"}"
unfolding serde_json_on_literals digits date_of_day
sub = refl

autnum : compact_text (network_tree (of_alpha (numbers Asn 64496 64499) Assigned None) true)
    ≡ codes "{\"country\":\"DE\",\"endAutnum\":64499,\"events\":[{\"eventAction\":\"registration\",\"eventDate\":\"2024-03-01T00:00:00Z\"}],\"handle\":\"AS64496 - AS64499\",\"name\":\"ORG-A\",\"objectClassName\":\"autnum\",\"startAutnum\":64496,\"status\":[\"active\"],\"type\":\"ASSIGNED\"}"
unfolding serde_json_on_literals digits date_of_day
autnum = refl

help : compact_text help_tree ≡ codes "{\"notices\":[{\"description\":[\"RDAP lookups of this registry\"],\"title\":\"Help\"}],\"rdapConformance\":[\"rdap_level_0\"]}"
unfolding serde_json_on_literals
help = refl
