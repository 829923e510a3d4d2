-- The objects of a whole register are read back from their texts.
use Rattle.std.proofs.Common.{◌≡◌, ℕ, ◌≤◌, true, false, not, ◌&&◌, ◌==◌, nat_le, List, [], ◌∷◌, ◌++◌, length, map, All, IsTrue, bytes_eq, codes, Option, None, Some, refl, ap, ◌∙◌, subst, arith, length-append, get_or, ne_eqb}
use Rattle.std.proofs.lemmas.Bool.{and_parts, or_right, cond_both, cond-true}
use Rattle.std.proofs.lemmas.Bool.Decides.{nat_tests}
use Rattle.std.proofs.lemmas.List.{length-map}
use Rattle.std.proofs.lemmas.List.Elements.{All-nil, All-cons}
use Rattle.std.specs.List.{AllByRecursion, list_all, list_any}
use Rattle.std.specs.Option.{option_map}
use Rattle.num_range.specs.declared.space.Space.{Space}
use Rattle.num_range.specs.declared.space.Space.TheVariants.{Asn, Ipv4, Ipv6}
use Rattle.num_range.specs.Range.{PlainRange, IsRange}
use Rattle.reg_entry.specs.declared.object.Key.TheVariants.{Org as OrgKey, Block as BlockKey, Sub as SubKey, Cut as CutKey}
use Rattle.reg_entry.specs.declared.object.Object.{Object}
use Rattle.reg_entry.specs.declared.object.Object.TheVariants.{Org, Block, Sub, Cut}
use Rattle.reg_entry.specs.Days.{day_text}
use Rattle.reg_entry.specs.Handle.{is_capital, is_handle_byte, is_handle}
use Rattle.reg_entry.specs.Objects.{key_of}
use Rattle.reg_entry.specs.Whole.{IsCutOf}
use Rattle.desk_text.specs.ReplyText.{spaced_range}
use Rattle.reverse_zone.specs.Delegated.{reverse_name}
use Rattle.rpsl_text.specs.Alone.{line_of, IsReadAlone}
use Rattle.rpsl_text.specs.Forms.{HasForms, is_source}
use Rattle.rpsl_text.specs.Lines.{is_name_byte, words, with_words}
use Rattle.rpsl_text.specs.Object.{block_class, day_attribute, org_attribute, server_attribute, own_attributes, attributes_of}
use Rattle.rpsl_text.specs.Plain.{plain_attribute, plain_attributes}
use Rattle.mirror_core.specs.Keys.{key_of_attribute}
use Rattle.mirror_core.specs.Draft.{is_source_attribute, is_foreign, object_key}
use Rattle.mirror_laws.proofs.Words.{IsWordByte, IsWord, IsSource, source_is, bytes_same}
use Rattle.mirror_laws.proofs.Attributes.{Attribute, IsReadAs, AreRead}
use Rattle.mirror_laws.proofs.Operations.{IsReadable}
use Rattle.mirror_laws.proofs.NumberTexts.{NumberLaws}
use Rattle.mirror_laws.proofs.RangeKeys.{one_word, range_same, range_read, range_read_in}
use Rattle.mirror_laws.proofs.CutKeys.{cut_spells}

-- ---- handles

handle_byte : (b : ℕ) → is_handle_byte b ≡ true → IsWordByte b
handle_byte b h = grind (arith, nat_tests)

capital_byte : (b : ℕ) → is_capital b ≡ true → IsWordByte b
capital_byte b h = grind (arith, nat_tests)

handle_bytes : (bytes : List ℕ) → list_all is_handle_byte bytes ≡ true → All IsWordByte bytes
handle_bytes [] h = All-nil IsWordByte
handle_bytes (b ∷ bytes) h =
    let parts = and_parts (is_handle_byte b) (list_all is_handle_byte bytes) h in
    All-cons IsWordByte b bytes (handle_byte b parts.0) (handle_bytes bytes parts.1)

handle_word : (handle : List ℕ) → is_handle handle ≡ true → IsWord handle
handle_word [] h = absurd (cc)
handle_word (b ∷ bytes) h =
    let front = (and_parts (is_capital b && list_all is_handle_byte bytes) (nat_le (length bytes) 23) h).0 in
    let parts = and_parts (is_capital b) (list_all is_handle_byte bytes) front in
    record { some = omega arith; bytes = All-cons IsWordByte b bytes (capital_byte b parts.0) (handle_bytes bytes parts.1) }

-- ---- the first attribute

block_key : NumberLaws → (r : PlainRange) (space : Space) → IsRange r → r.space ≡ space
    → key_of_attribute (block_class space, with_words [] (words (spaced_range r))) ≡ Some (BlockKey r)
block_key laws r Asn h is =
    ap (λ (v : List ℕ). key_of_attribute (codes "as-block", v)) (range_same r h) ∙ ap (option_map BlockKey) (range_read_in laws r h Asn is)
block_key laws r Ipv4 h is =
    ap (λ (v : List ℕ). key_of_attribute (codes "inetnum", v)) (range_same r h) ∙ ap (option_map BlockKey) (range_read_in laws r h Ipv4 is)
block_key laws r Ipv6 h is =
    ap (λ (v : List ℕ). key_of_attribute (codes "inet6num", v)) (range_same r h) ∙ ap (option_map BlockKey) (range_read_in laws r h Ipv6 is)

key_read : NumberLaws → (o : Object) (source : List ℕ) → HasForms o → IsCutOf o → object_key (plain_attributes o source) ≡ Some (key_of o)
key_read laws (Org holder day) source h cut =
    ap (λ (v : List ℕ). key_of_attribute (codes "organisation", v)) (one_word holder.handle (handle_word holder.handle h.handle))
    ∙ cond-true (is_handle holder.handle) (Some (OrgKey holder.handle)) None h.handle
key_read laws (Block range status handle day until) source h cut = block_key laws range range.space h.0 refl
key_read laws (Sub range handle day) source h cut =
    ap (λ (v : List ℕ). key_of_attribute (codes "sub-assignment", v)) (range_same range h.0) ∙ ap (option_map SubKey) (range_read laws range h.0)
key_read laws (Cut block servers) source h cut =
    let spells = cut_spells block cut in
    ap (λ (v : List ℕ). key_of_attribute (codes "domain", v)) (one_word (reverse_name block) spells.word) ∙ ap (option_map CutKey) spells.read

-- ---- no attribute but the last names a source

abbrev AreNoSources : List Attribute → Type 0
AreNoSources attributes = AllByRecursion (λ a. is_source_attribute a ≡ false) attributes

both : (front more : List Attribute) → AreNoSources front → AreNoSources more → AreNoSources (front ++ more)
both [] more h k = k
both (a ∷ front) more h k = (h.0, both front more h.1 k)

class_is_none : (space : Space) (value : List ℕ) → is_source_attribute (block_class space, value) ≡ false
class_is_none Asn value = refl
class_is_none Ipv4 value = refl
class_is_none Ipv6 value = refl

org_is_none : (handle : Option (List ℕ)) → AreNoSources (org_attribute handle)
org_is_none None = tt
org_is_none (Some handle) = (refl, tt)

day_is_none : (name : List ℕ) (day : ℕ) → bytes_eq name (codes "source") ≡ false → AreNoSources (day_attribute name day)
day_is_none name day other = cond_both (day == 0) [] ((name, day_text day) ∷ []) AreNoSources (λ _. tt) (λ _. (other, tt))

servers_are_none : (servers : List (List ℕ)) → AreNoSources (map server_attribute servers)
servers_are_none [] = tt
servers_are_none (server ∷ servers) = (refl, servers_are_none servers)

own_are_none : (o : Object) → AreNoSources (own_attributes o)
own_are_none (Org holder day) = (refl, (refl, (refl, (refl, (refl, (refl, tt))))))
own_are_none (Block range status handle day until) = (
  class_is_none range.space (spaced_range range),
  (
    refl,
    both (org_attribute handle ++ day_attribute (codes "date") day) (day_attribute (codes "until") until)
        (both (org_attribute handle) (day_attribute (codes "date") day) (org_is_none handle) (day_is_none (codes "date") day refl)) (day_is_none (codes "until") until refl),
  ),
)
own_are_none (Sub range handle day) = (refl, (refl, (refl, tt)))
own_are_none (Cut block servers) = (refl, servers_are_none servers)

-- ---- all lines

name_byte : (b : ℕ) → is_name_byte b ≡ true → (b == 37) ≡ false
name_byte b h = ne_eqb b 37 (λ e. absurd (let no : is_name_byte 37 ≡ true = subst (λ b. is_name_byte b ≡ true) e h in cc))

read_as : (source : List ℕ) (a : Attribute) → IsReadAlone a → is_foreign source (plain_attribute a) ≡ false → IsReadAs source (line_of a) (plain_attribute a)
read_as source a h own = record {
  plain = h.bytes;
  short = omega (arith, h.short);
  unmarked = name_byte (get_or (line_of a) 0 0) h.begins;
  anew = h.anew;
  read = h.read;
  own = own;
}

lines_read : (source : List ℕ) (own : List Attribute) → IsSource source → AreNoSources own → AllByRecursion IsReadAlone (own ++ (codes "source", source) ∷ [])
    → AreRead source (own ++ (codes "source", source) ∷ [])
lines_read source [] is none alone =
    let same : not (bytes_eq (with_words [] (words source)) source) ≡ false = ap (λ (v : List ℕ). not (bytes_eq v source)) (one_word source is.word) ∙ ap not (bytes_same source) in
    (read_as source (codes "source", source) alone.0 same, tt)
lines_read source (a ∷ own) is none alone =
    (read_as source a alone.0 (ap (λ b. b && not (bytes_eq (plain_attribute a).1 source)) none.0), lines_read source own is none.1 alone.1)

-- ---- how many there are

abbrev pub HasFewServers : Object → Type 0
HasFewServers (Org holder day) = Unit {0}
HasFewServers (Block range status handle day until) = Unit {0}
HasFewServers (Sub range handle day) = Unit {0}
HasFewServers (Cut block servers) = length servers ≤ 4

org_count : (handle : Option (List ℕ)) → length (org_attribute handle) ≤ 1
org_count None = omega arith
org_count (Some handle) = omega arith

day_count : (name : List ℕ) (day : ℕ) → length (day_attribute name day) ≤ 1
day_count name day = cond_both (day == 0) [] ((name, day_text day) ∷ []) (λ (as_are : List Attribute). length as_are ≤ 1) (λ _. omega arith) (λ _. omega arith)

own_count : (o : Object) → HasFewServers o → length (own_attributes o) ≤ 6
own_count (Org holder day) h = omega arith
own_count (Block range status handle day until) h =
    let org = org_count handle in
    let date = day_count (codes "date") day in
    let end = day_count (codes "until") until in
    let front = length-append (org_attribute handle) (day_attribute (codes "date") day) in
    let all = length-append (org_attribute handle ++ day_attribute (codes "date") day) (day_attribute (codes "until") until) in
    omega (arith, org, date, end, front, all)
own_count (Sub range handle day) h = omega arith
own_count (Cut block servers) h = omega (arith, length-map servers server_attribute, h)

sourced : (own : List Attribute) (source : List ℕ) → list_any is_source_attribute (map plain_attribute (own ++ (codes "source", source) ∷ [])) ≡ true
sourced [] source = refl
sourced (a ∷ own) source =
    or_right (is_source_attribute (plain_attribute a)) (list_any is_source_attribute (map plain_attribute (own ++ (codes "source", source) ∷ []))) (sourced own source)

-- ---- an object

pub record IsFit (o : Object) : Type 0 where
  pub forms : HasForms o
  pub cut : IsCutOf o
  pub servers : HasFewServers o

-- what is known of the lines of objects
abbrev pub LinesLaw : Type 0
LinesLaw = (o : Object) (source : List ℕ) → HasForms o → IsTrue (is_source source) → AllByRecursion IsReadAlone (attributes_of o source)

pub fit_is_readable : NumberLaws → LinesLaw → (source : List ℕ) (o : Object) → is_source source ≡ true → IsFit o → IsReadable source o
fit_is_readable laws lines source o is h = record {
  lines = lines_read source (own_attributes o) (source_is source is) (own_are_none o) (lines o source h.forms is);
  few = omega (arith, length-append (own_attributes o) ((codes "source", source) ∷ []), own_count o h.servers);
  key = key_read laws o source h.forms h.cut;
  sourced = sourced (own_attributes o) source;
}
