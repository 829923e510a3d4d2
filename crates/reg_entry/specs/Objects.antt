-- What the register publishes: an object for each piece, sub, holder and reverse cut (the classes are RFC 2622's, but for
-- the sub-assignment), and the operations that lead from one state of the objects to the next.
use Rattle.std.specs.Prelude.{◌≡◌, ℕ, Bool, true, false, not, ◌&&◌, ◌||◌, ◌==◌, nat_lt, if◌then◌else◌, List, [], ◌∷◌, ◌++◌, Option, None, filter, map, find, fold, bytes_eq}
use Rattle.std.specs.Option.{is_none, option_eq, option_map_or}
use Rattle.std.specs.List.{flat_map}
use Rattle.num_range.specs.Range.{PlainRange}
use Rattle.num_range.specs.Cover.{reverse_cuts}
use Rattle.reg_entry.specs.declared.holder.Holder.{Holder}
use Rattle.reg_entry.specs.declared.kind.Kind.{Kind}
use Rattle.reg_entry.specs.declared.kind.Kind.TheVariants.{Lir, EndUser}
use Rattle.reg_entry.specs.declared.object.Object.{Object}
use Rattle.reg_entry.specs.declared.object.Object.TheVariants.{Org, Block, Sub, Cut}
use Rattle.reg_entry.specs.declared.object.Key.{Key}
use Rattle.reg_entry.specs.declared.object.Key.TheVariants.{Org as OrgKey, Block as BlockKey, Sub as SubKey, Cut as CutKey}
use Rattle.reg_entry.specs.declared.object.Act.{Act}
use Rattle.reg_entry.specs.declared.object.Act.TheVariants.{Add, Del}
use Rattle.reg_entry.specs.declared.piece.Piece.{Piece}
use Rattle.reg_entry.specs.declared.sub_card.SubCard.{SubCard}
use Rattle.reg_entry.specs.Card.{same_status}
use Rattle.reg_entry.specs.Servers.{hosts_eq}
use Rattle.reg_entry.specs.Ranges.{same_range, range_before}
use Rattle.reg_entry.specs.Holders.{handle_at, handle_of}
use Rattle.reg_entry.specs.Register.{Register}

-- ---- keys

abbrev pub key_of : Object → Key
key_of (Org holder day) = OrgKey holder.handle
key_of (Block range status handle day until) = BlockKey range
key_of (Sub range handle day) = SubKey range
key_of (Cut block servers) = CutKey block

-- the place of a key's class in the order of the classes
abbrev pub class_rank : Key → ℕ
class_rank (OrgKey handle) = 0
class_rank (BlockKey range) = 1
class_rank (SubKey range) = 2
class_rank (CutKey range) = 3

abbrev pub same_key : Key → Key → Bool
same_key (OrgKey a) (OrgKey b) = bytes_eq a b
same_key (BlockKey a) (BlockKey b) = same_range a b
same_key (SubKey a) (SubKey b) = same_range a b
same_key (CutKey a) (CutKey b) = same_range a b
same_key a b = false

-- in the order of their bytes
abbrev pub bytes_before : List ℕ → List ℕ → Bool
bytes_before [] [] = false
bytes_before [] (y ∷ ys) = true
bytes_before (x ∷ xs) [] = false
bytes_before (x ∷ xs) (y ∷ ys) = nat_lt x y || ((x == y) && bytes_before xs ys)

-- by class, then by handle or range
abbrev pub key_before : Key → Key → Bool
key_before (OrgKey a) (OrgKey b) = bytes_before a b
key_before (BlockKey a) (BlockKey b) = range_before a b
key_before (SubKey a) (SubKey b) = range_before a b
key_before (CutKey a) (CutKey b) = range_before a b
key_before a b = nat_lt (class_rank a) (class_rank b)

-- ---- objects compared

abbrev pub same_kind : Kind → Kind → Bool
same_kind Lir Lir = true
same_kind Lir EndUser = false
same_kind EndUser Lir = false
same_kind EndUser EndUser = true

abbrev pub same_holder : Holder → Holder → Bool
same_holder a b =
    bytes_eq a.handle b.handle && same_kind a.kind b.kind && bytes_eq a.cc b.cc && bytes_eq a.name b.name && bytes_eq a.email b.email

abbrev pub same_object : Object → Object → Bool
same_object (Org a day) (Org b other) = same_holder a b && (day == other)
same_object (Block a s h d u) (Block b t g e v) =
    same_range a b && same_status s t && option_eq bytes_eq h g && (d == e) && (u == v)
same_object (Sub a h d) (Sub b g e) = same_range a b && bytes_eq h g && (d == e)
same_object (Cut a servers) (Cut b others) = same_range a b && hosts_eq servers others
same_object a b = false

-- ---- a map of objects: a list in which no two have one key

abbrev pub has_key : Key → Object → Bool
has_key k o = same_key (key_of o) k

-- the object of a key
abbrev pub object_at : List Object → Key → Option Object
object_at os k = find (has_key k) os

abbrev pub HaveDistinctKeys : List Object → Type 0
HaveDistinctKeys [] = Unit {0}
HaveDistinctKeys (o ∷ os) = (object_at os (key_of o) ≡ None) × HaveDistinctKeys os

-- the map with this object, in the place of its key
abbrev pub with_object : List Object → Object → List Object
with_object [] o = o ∷ []
with_object (p ∷ ps) o =
    if has_key (key_of o) p then o ∷ ps
    else (if key_before (key_of o) (key_of p) then o ∷ p ∷ ps else p ∷ with_object ps o)

-- the map without the object of this key
abbrev pub without_key : List Object → Key → List Object
without_key os k = filter (λ o. not (has_key k o)) os

-- ---- the objects of a register, rising by key

abbrev pub org_of : Holder × ℕ → Object
org_of m = Org m.0 m.1

-- the holders, in the order of their handles
abbrev pub orgs_of : List (Holder × ℕ) → List Object
orgs_of hs = fold with_object [] (map org_of hs)

abbrev pub block_of_piece : List (Holder × ℕ) → Piece → Object
block_of_piece hs p = Block p.range p.card.status (handle_of hs p.card.holder) p.card.day p.card.until

abbrev pub sub_of : List (Holder × ℕ) → PlainRange × SubCard → Object
sub_of hs s = Sub s.0 (handle_at hs s.1.holder) s.1.day

-- a reverse entry has an object for each block at which its zones are cut
abbrev pub cuts_of : PlainRange × List (List ℕ) → List Object
cuts_of s = map (λ block. Cut block s.1) (reverse_cuts s.0)

abbrev pub blocks_of : List (Holder × ℕ) → List Piece → List Object
blocks_of hs ps = map (block_of_piece hs) ps

abbrev pub objects_of : Register → List Object
objects_of r =
    orgs_of r.holders ++ blocks_of r.holders r.pool.asn ++ blocks_of r.holders r.pool.ipv4 ++ blocks_of r.holders r.pool.ipv6
    ++ map (sub_of r.holders) r.subs ++ flat_map cuts_of r.reverses

-- ---- changes

-- the map has this very object
abbrev pub has_object : List Object → Object → Bool
has_object os o = option_map_or (same_object o) (object_at os (key_of o)) false

-- the objects whose keys went, with what they were
abbrev pub objects_gone : List Object → List Object → List Object
objects_gone before after = filter (λ o. is_none (object_at after (key_of o))) before

-- the objects that are new, or are new at their keys
abbrev pub objects_come : List Object → List Object → List Object
objects_come before after = filter (λ o. not (has_object before o)) after

-- from one map of objects to the next: those that went, rising, and then those that came or changed, rising
abbrev pub changes_between : List Object → List Object → List (Act × Object)
changes_between before after =
    map (λ o. (Del, o)) (objects_gone before after) ++ map (λ o. (Add, o)) (objects_come before after)

-- a map after one change
abbrev pub changed : List Object → Act × Object → List Object
changed os (Add, o) = with_object os o
changed os (Del, o) = without_key os (key_of o)

-- a map after a list of changes
abbrev pub played : List Object → List (Act × Object) → List Object
played os [] = os
played os (c ∷ cs) = played (changed os c) cs
