-- The JSON of a registration of numbers: a network of addresses (RFC 9083 5.4) or of AS numbers (RFC 9083 5.5).
use Rattle.std.specs.Prelude.{ℕ, ◌/◌, ◌%◌, Bool, true, if◌then◌else◌, List, [], ◌∷◌, ◌++◌, Option, codes}
use Rattle.std.specs.Option.{option_map_or}
use Rattle.serde_json.specs.Data.{Data, number, unsigned, string}
use Rattle.num_range.specs.declared.space.Space.{Space}
use Rattle.num_range.specs.declared.space.Space.TheVariants.{Asn, Ipv4, Ipv6}
use Rattle.num_range.specs.Range.{PlainRange}
use Rattle.addr_text.specs.Number.{text_of}
use Rattle.addr_text.specs.Range.{range_text}
use Rattle.reg_entry.specs.declared.holder.Holder.{Holder}
use Rattle.reg_entry.specs.Days.{date_of_day, two_digits}
use Rattle.rdap_json.specs.declared.facts.NetFacts.{NetFacts}
use Rattle.rdap_json.specs.declared.facts.NetKind.{NetKind}
use Rattle.rdap_json.specs.declared.facts.NetKind.TheVariants.{Allocated, Assigned, Sub}
use Rattle.rdap_json.specs.Tree.{Member, object_of, array_of}

-- ---- a holder

-- a property without parameters (RFC 7095 3.3)
abbrev pub property_tree : List ℕ → List ℕ → Data
property_tree name value = array_of (string name ∷ object_of [] ∷ string (codes "text") ∷ string value ∷ [])

abbrev pub properties : Holder → List Data
properties holder =
    property_tree (codes "version") (codes "4.0")
    ∷ property_tree (codes "fn") holder.name
    ∷ property_tree (codes "kind") (codes "org")
    ∷ property_tree (codes "email") holder.email
    ∷ []

-- a jCard (RFC 7095 3.2)
abbrev pub vcard_tree : Holder → Data
vcard_tree holder = array_of (string (codes "vcard") ∷ array_of (properties holder) ∷ [])

-- the holder as the one for whom the numbers are registered (RFC 9083 5.1)
abbrev pub entity_members : Holder → List Member
entity_members holder =
    (codes "handle", string holder.handle)
    ∷ (codes "objectClassName", string (codes "entity"))
    ∷ (codes "roles", array_of (string (codes "registrant") ∷ []))
    ∷ (codes "vcardArray", vcard_tree holder)
    ∷ []

abbrev pub entity_tree : Holder → Data
entity_tree holder = object_of (entity_members holder)

-- ---- what every registration has

-- the first moment of a day (RFC 3339 5.6)
abbrev pub midnight_of : ℕ × ℕ × ℕ → List ℕ
midnight_of date =
    two_digits (date.0 / 100) ++ two_digits (date.0 % 100) ++ codes "-" ++ two_digits date.1 ++ codes "-" ++ two_digits date.2
    ++ codes "T00:00:00Z"

abbrev pub midnight_text : ℕ → List ℕ
midnight_text day = midnight_of (date_of_day day)

-- that the numbers were registered on the day (RFC 9083 4.5)
abbrev pub registration_tree : ℕ → Data
registration_tree day =
    object_of ((codes "eventAction", string (codes "registration")) ∷ (codes "eventDate", string (midnight_text day)) ∷ [])

abbrev pub type_word : NetKind → List ℕ
type_word Allocated = codes "ALLOCATED"
type_word Assigned = codes "ASSIGNED"
type_word Sub = codes "SUB-ASSIGNED"

abbrev pub registration_members : NetFacts → List Member
registration_members facts =
    (codes "country", string facts.holder.cc)
    ∷ (codes "events", array_of (registration_tree facts.day ∷ []))
    ∷ (codes "handle", string (range_text true facts.range))
    ∷ (codes "name", string facts.holder.handle)
    ∷ (codes "status", array_of (string (codes "active") ∷ []))
    ∷ (codes "type", string (type_word facts.kind))
    ∷ []

-- ---- the numbers

-- the handle of the piece that a sub-assignment lies in
abbrev pub parent_members : Option PlainRange → List Member
parent_members parent = option_map_or (λ p. (codes "parentHandle", string (range_text true p)) ∷ []) parent []

-- addresses (RFC 9083 5.4)
abbrev pub address_members : List ℕ → PlainRange → Option PlainRange → List Member
address_members version r parent =
    (codes "endAddress", string (text_of r.space r.last))
    ∷ (codes "ipVersion", string version)
    ∷ (codes "objectClassName", string (codes "ip network"))
    ∷ (codes "startAddress", string (text_of r.space r.first))
    ∷ parent_members parent

-- AS numbers (RFC 9083 5.5), of which no parent is told
abbrev pub autnum_members : PlainRange → List Member
autnum_members r =
    (codes "endAutnum", number (unsigned r.last))
    ∷ (codes "objectClassName", string (codes "autnum"))
    ∷ (codes "startAutnum", number (unsigned r.first))
    ∷ []

abbrev pub number_members : Space → PlainRange → Option PlainRange → List Member
number_members Asn r parent = autnum_members r
number_members Ipv4 r parent = address_members (codes "v4") r parent
number_members Ipv6 r parent = address_members (codes "v6") r parent

-- ---- the whole

-- what the specifications are that an answer follows (RFC 9083 4.1)
abbrev pub conformance : Member
conformance = (codes "rdapConformance", array_of (string (codes "rdap_level_0") ∷ []))

-- what a network has that stands by itself, and not inside another object
abbrev pub outer_members : Bool → Holder → List Member
outer_members inner holder =
    if inner then [] else ((codes "entities", array_of (entity_tree holder ∷ [])) ∷ conformance ∷ [])

abbrev pub network_members : NetFacts → Bool → List Member
network_members facts inner =
    registration_members facts ++ number_members facts.range.space facts.range facts.parent ++ outer_members inner facts.holder

-- the network of the facts; inside another object it has neither its holder as an entity nor the conformance
abbrev pub network_tree : NetFacts → Bool → Data
network_tree facts inner = object_of (network_members facts inner)
