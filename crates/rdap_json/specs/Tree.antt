-- JSON trees by their members and items (RFC 8259).
use Rattle.std.specs.Prelude.{ℕ, Bool, true, ◌&&◌, List, [], ◌∷◌}
use Rattle.serde_json.specs.Data.{Data, null, boolean, number, string, array, object, Items, no_items, item, Members, no_members, member, put}
use Rattle.serde_json.specs.View.{items_of}
use Rattle.reg_entry.specs.Objects.{bytes_before}

-- a name and its value
abbrev pub Member : Type 0
Member = List ℕ × Data

-- the members with these put among them, each at its place in the order of names
abbrev pub with_members : List Member → Members → Members
with_members [] ms = ms
with_members (m ∷ more) ms = with_members more (put m.0 m.1 ms)

-- the object that has these members, in the order of their names
abbrev pub object_of : List Member → Data
object_of members = object (with_members members no_members)

abbrev pub array_of : List Data → Data
array_of items = array (items_of items)

-- ---- the order of names

-- the name comes before the first of the members', in the order of their bytes
abbrev pub is_before : List ℕ → Members → Bool
is_before name no_members = true
is_before name (member next d ms) = bytes_before name next

-- the names rise in each object, wherever it stands
abbrev mutual
  pub names_rise : Data → Bool
  names_rise null = true
  names_rise (boolean b) = true
  names_rise (number n) = true
  names_rise (string s) = true
  names_rise (array ds) = item_names_rise ds
  names_rise (object ms) = member_names_rise ms

  pub item_names_rise : Items → Bool
  item_names_rise no_items = true
  item_names_rise (item d ds) = names_rise d && item_names_rise ds

  pub member_names_rise : Members → Bool
  member_names_rise no_members = true
  member_names_rise (member name d ms) = is_before name ms && names_rise d && member_names_rise ms
