-- The objects of the register as they are published: attributes, a line each (RFC 2622 2). The classes are RFC 2622's, but for
-- the sub-assignment, which is the register's own.
use Rattle.std.specs.Prelude.{ℕ, ◌≤◌, ◌==◌, if◌then◌else◌, List, [], ◌∷◌, ◌++◌, map, codes, Option, None, Some}
use Rattle.std.specs.List.{flat_map}
use Rattle.num_range.specs.declared.space.Space.{Space}
use Rattle.num_range.specs.declared.space.Space.TheVariants.{Asn, Ipv4, Ipv6}
use Rattle.num_range.specs.Range.{PlainRange}
use Rattle.reg_entry.specs.declared.card.Status.{Status}
use Rattle.reg_entry.specs.declared.holder.Holder.{Holder}
use Rattle.reg_entry.specs.declared.object.Object.{Object}
use Rattle.reg_entry.specs.declared.object.Object.TheVariants.{Org, Block, Sub, Cut}
use Rattle.reg_entry.specs.Days.{last_date, day_text}
use Rattle.desk_text.specs.Vocabulary.{kind_word, status_word}
use Rattle.desk_text.specs.ReplyText.{spaced_range}
use Rattle.reverse_zone.specs.Delegated.{reverse_name}

-- the object's days can be written with a year of four digits
abbrev pub HasDates : Object → Type 0
HasDates (Org holder day) = day ≤ last_date
HasDates (Block range status handle day until) = (day ≤ last_date) × (until ≤ last_date)
HasDates (Sub range handle day) = day ≤ last_date
HasDates (Cut block servers) = Unit {0}

-- ---- its attributes, each a name and a value

-- the class of a piece, by its space
abbrev pub block_class : Space → List ℕ
block_class Asn = codes "as-block"
block_class Ipv4 = codes "inetnum"
block_class Ipv6 = codes "inet6num"

-- the attribute of a day, where 0 is none
abbrev pub day_attribute : List ℕ → ℕ → List (List ℕ × List ℕ)
day_attribute name day = if day == 0 then [] else (name, day_text day) ∷ []

-- the attribute of a piece's holder
abbrev pub org_attribute : Option (List ℕ) → List (List ℕ × List ℕ)
org_attribute None = []
org_attribute (Some handle) = (codes "org", handle) ∷ []

abbrev pub server_attribute : List ℕ → List ℕ × List ℕ
server_attribute server = (codes "nserver", server)

-- the class with the object's key, and then what is known of it
abbrev pub org_attributes : Holder → ℕ → List (List ℕ × List ℕ)
org_attributes holder day =
    (codes "organisation", holder.handle) ∷ (codes "org-name", holder.name) ∷ (codes "org-type", kind_word holder.kind)
    ∷ (codes "country", holder.cc) ∷ (codes "e-mail", holder.email) ∷ (codes "date", day_text day) ∷ []

abbrev pub block_attributes : PlainRange → Status → Option (List ℕ) → ℕ → ℕ → List (List ℕ × List ℕ)
block_attributes range status handle day until =
    (block_class range.space, spaced_range range) ∷ (codes "status", status_word status)
    ∷ (org_attribute handle ++ day_attribute (codes "date") day ++ day_attribute (codes "until") until)

abbrev pub sub_attributes : PlainRange → List ℕ → ℕ → List (List ℕ × List ℕ)
sub_attributes range handle day =
    (codes "sub-assignment", spaced_range range) ∷ (codes "org", handle) ∷ (codes "date", day_text day) ∷ []

abbrev pub cut_attributes : PlainRange → List (List ℕ) → List (List ℕ × List ℕ)
cut_attributes block servers = (codes "domain", reverse_name block) ∷ map server_attribute servers

abbrev pub own_attributes : Object → List (List ℕ × List ℕ)
own_attributes (Org holder day) = org_attributes holder day
own_attributes (Block range status handle day until) = block_attributes range status handle day until
own_attributes (Sub range handle day) = sub_attributes range handle day
own_attributes (Cut block servers) = cut_attributes block servers

-- the registry that publishes the object stands last (RFC 2622 3.1)
abbrev pub attributes_of : Object → List ℕ → List (List ℕ × List ℕ)
attributes_of o source = own_attributes o ++ (codes "source", source) ∷ []

-- ---- its text

abbrev pub attribute_line : List ℕ × List ℕ → List ℕ
attribute_line a = a.0 ++ codes ": " ++ a.1 ++ codes "\n"

abbrev pub attributes_text : List (List ℕ × List ℕ) → List ℕ
attributes_text attributes = flat_map attribute_line attributes

abbrev pub object_text : Object → List ℕ → List ℕ
object_text o source = attributes_text (attributes_of o source)
