-- What an object's first attribute says: its class, and the key that tells it from the others of its class.
use Rattle.std.specs.Prelude.{ℕ, ◌-◌, ◌*◌, ◌+◌, ◌^◌, Bool, ◌&&◌, ◌||◌, ◌==◌, nat_le, if◌then◌else◌, List, [], ◌∷◌, length, take, drop, codes, Option, None, Some, bytes_eq, find, slice_index}
use Rattle.std.specs.Option.{option_map, option_and_then, is_some}
use Rattle.std.specs.Char.{digit_value}
use Rattle.std.specs.List.{slice_split}
use Rattle.num_range.specs.declared.space.Space.{Space}
use Rattle.num_range.specs.declared.space.Space.TheVariants.{Asn, Ipv4, Ipv6}
use Rattle.num_range.specs.Space.{same_space, width_of}
use Rattle.num_range.specs.Range.{PlainRange}
use Rattle.num_range.specs.Block.{block_of}
use Rattle.num_range.specs.Cover.{is_cut_length}
use Rattle.addr_text.specs.Reading.{◌>>=◌, parted_at, decimal_up_to, number_of, range_between, whole_block_of}
use Rattle.reg_entry.specs.declared.object.Key.{Key}
use Rattle.reg_entry.specs.declared.object.Key.TheVariants.{Org, Block, Sub, Cut}
use Rattle.reg_entry.specs.Handle.{is_handle}
use Rattle.reverse_zone.specs.Zone.{label_bits}
use Rattle.reverse_zone.specs.Delegated.{domain_of}

-- ---- ranges as keys

-- without the one blank at its end, or at its front
abbrev pub without_last_blank : List ℕ → List ℕ
without_last_blank text = if slice_index text (length text - 1) == 32 then take (length text - 1) text else text

abbrev pub without_first_blank : List ℕ → List ℕ
without_first_blank text = if slice_index text 0 == 32 then drop 1 text else text

-- two numbers of one space, the first at most the second, with or without a blank on each side of the `-`
unfoldable pub spaced_range_of : List ℕ → Option PlainRange
spaced_range_of text = do
  parts ← parted_at 45 text
  first ← number_of (without_last_blank parts.0)
  last ← number_of (without_first_blank parts.1)
  if same_space first.space last.space && nat_le first.value last.value then Some (range_between first last) else None

-- from one number to another, or a block; a number alone is none
abbrev pub range_key : List ℕ → Option PlainRange
range_key text = if is_some (parted_at 45 text) then spaced_range_of text else whole_block_of text

-- of this space
abbrev pub range_key_in : Space → List ℕ → Option PlainRange
range_key_in space text = option_and_then (λ r. if same_space r.space space then Some r else None) (range_key text)

-- ---- names of reverse cuts as keys (RFC 1035 3.5, RFC 3596 2.5)

-- what stands before this end of a text
abbrev pub before_end : List ℕ → List ℕ → Option (List ℕ)
before_end end text =
    if bytes_eq (drop (length text - length end) text) end then Some (take (length text - length end) text) else None

-- a digit in lower case hex
abbrev pub nibble_of : List ℕ → Option ℕ
nibble_of (b ∷ []) = if (nat_le 48 b && nat_le b 57) || (nat_le 97 b && nat_le b 102) then Some (digit_value b) else None
nibble_of text = None

-- the value of a label: an octet in decimal, or a nibble
abbrev pub label_of : Space → List ℕ → Option ℕ
label_of Asn text = None
label_of Ipv4 text = decimal_up_to 255 text
label_of Ipv6 text = nibble_of text

-- the values of all labels, or nothing where one has none
abbrev pub labels_of : Space → List (List ℕ) → Option (List ℕ)
labels_of space [] = Some []
labels_of space (text ∷ texts) = option_and_then (λ label. option_map (λ labels. label ∷ labels) (labels_of space texts)) (label_of space text)

-- the number that labels say, the least digit first
abbrev pub labels_value : ℕ → List ℕ → ℕ
labels_value bits [] = 0
labels_value bits (label ∷ labels) = label + 2 ^ bits * labels_value bits labels

-- the block whose addresses share these labels, where zones are cut at its length
abbrev pub block_of_labels : Space → List ℕ → Option PlainRange
block_of_labels space labels =
    let len = label_bits space * length labels in
    if is_cut_length space len then Some (block_of space (labels_value (label_bits space) labels * 2 ^ (width_of space - len)) len)
    else None

abbrev pub cut_in : Space → List ℕ → Option PlainRange
cut_in space text = option_and_then (λ front. option_and_then (block_of_labels space) (labels_of space (slice_split (λ b. b == 46) front)))
    (before_end (domain_of space) text)

-- the block whose whole name this is
abbrev pub cut_of : List ℕ → Option PlainRange
cut_of text = if is_some (before_end (domain_of Ipv4) text) then cut_in Ipv4 text else cut_in Ipv6 text

-- ---- classes

-- a class: its name, and the key that a value of it spells
pub record Class : Type 0 where
  pub name : List ℕ
  pub key : List ℕ → Option Key

abbrev pub handle_key : List ℕ → Option Key
handle_key text = if is_handle text then Some (Org text) else None

abbrev pub organisation : Class
organisation = record { name = codes "organisation"; key = handle_key }

abbrev pub as_block : Class
as_block = record { name = codes "as-block"; key = λ text. option_map Block (range_key_in Asn text) }

abbrev pub inetnum : Class
inetnum = record { name = codes "inetnum"; key = λ text. option_map Block (range_key_in Ipv4 text) }

abbrev pub inet6num : Class
inet6num = record { name = codes "inet6num"; key = λ text. option_map Block (range_key_in Ipv6 text) }

abbrev pub sub_assignment : Class
sub_assignment = record { name = codes "sub-assignment"; key = λ text. option_map Sub (range_key text) }

abbrev pub domain : Class
domain = record { name = codes "domain"; key = λ text. option_map Cut (cut_of text) }

abbrev pub classes : List Class
classes = organisation ∷ as_block ∷ inetnum ∷ inet6num ∷ sub_assignment ∷ domain ∷ []

abbrev pub class_named : List ℕ → Option Class
class_named name = find (λ class. bytes_eq name class.name) classes

abbrev pub is_class : List ℕ → Bool
is_class name = is_some (class_named name)

-- the key of an object whose first attribute this is
abbrev pub key_of_attribute : List ℕ × List ℕ → Option Key
key_of_attribute a = option_and_then (λ class. class.key a.1) (class_named a.0)
