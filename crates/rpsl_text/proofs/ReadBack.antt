-- The text of an object is read as its attributes: each line begins its own.
use Rattle.std.proofs.Common.{◌≡◌, ◌≢◌, ℕ, ◌-◌, ◌≤◌, true, false, not, ◌==◌, nat_lt, List, [], ◌∷◌, ◌++◌, length, map, get_or, take, All, Option, None, Some, Result, Ok, Err, codes, refl, sym, ap, ap₂, ◌∙◌, arith, append_assoc, append-nil, length-append, ne_eqb, IsTrue}
use Rattle.std.proofs.lemmas.Bool.{and_parts, cond_both, cond-true, cond-false}
use Rattle.std.proofs.lemmas.Bool.Decides.{nat_tests}
use Rattle.std.proofs.lemmas.List.{take_all}
use Rattle.std.proofs.lemmas.List.Elements.{All-nil, All-cons, All-head, All-tail, All-append, All-weaker, All-get_or}
use Rattle.std.proofs.lemmas.List.Sums.{prefix_len_is}
use Rattle.std.specs.Char.{to_ascii_lowercase}
use Rattle.std.specs.List.{list_all, prefix_len, AllByRecursion}
use Rattle.std.specs.Option.{option_map, option_and_then}
use Rattle.std.specs.Str.Lines.{lines, strip_carriage_return}
use Rattle.addr_text.specs.Reading.{parted_at}
use Rattle.addr_text.proofs.Separators.{parted_here}
use Rattle.reg_entry.specs.declared.object.Object.{Object}
use Rattle.reg_entry.specs.declared.object.Object.TheVariants.{Org, Block, Sub, Cut}
use Rattle.num_range.specs.declared.space.Space.{Space}
use Rattle.num_range.specs.declared.space.Space.TheVariants.{Asn, Ipv4, Ipv6}
use Rattle.reg_entry.specs.Days.{day_text}
use Rattle.reg_entry.specs.Host.{is_host}
use Rattle.rpsl_text.specs.Alone.{line_of, IsReadAlone}
use Rattle.rpsl_text.specs.Forms.{HasHandle, HasForms, is_source}
use Rattle.rpsl_text.specs.Lines.{before_comment, words, with_words, is_name_byte, is_name, continuation_of, named, name_and_rest, attribute_of}
use Rattle.rpsl_text.specs.Object.{block_class, day_attribute, org_attribute, server_attribute, own_attributes, attributes_of, attribute_line, attributes_text, object_text}
use Rattle.rpsl_text.specs.Plain.{plain_attribute, plain_attributes}
use Rattle.rpsl_text.specs.Reading.{begun, after_text, after_line, after_lines, next_number, read_text}
use Rattle.rpsl_text.proofs.Parted.{line_parted}
use Rattle.rpsl_text.proofs.Lengths.{handle_length, cc_length, text_length, source_length, host_length, kind_length, status_length, range_length, reverse_length}
use Rattle.rpsl_text.proofs.Values.{IsValueByte, IsValue, handle_value, cc_value, text_value, source_value, kind_value, status_value, day_value, range_value, reverse_value, host_value}

-- ---- an attribute

pub record IsWritten (a : List ℕ × List ℕ) : Type 0 where
  pub name : is_name a.0 ≡ true
  pub lower : map to_ascii_lowercase a.0 ≡ a.0
  pub value : IsValue a.1
  pub short : (length a.0 ≤ 14) × (length a.1 ≤ 141)

abbrev IsNameByte : ℕ → Type 0
IsNameByte b = (44 ≤ b) × (b ≢ 58)

name_byte : (b : ℕ) → is_name_byte b ≡ true → IsNameByte b
name_byte b h = (grind (arith, nat_tests), λ e. grind (arith, nat_tests))

name_bytes : (name : List ℕ) → list_all is_name_byte name ≡ true → All IsNameByte name
name_bytes [] h = All-nil IsNameByte
name_bytes (b ∷ name) h =
    let parts = and_parts (is_name_byte b) (list_all is_name_byte name) h in
    All-cons IsNameByte b name (name_byte b parts.0) (name_bytes name parts.1)

-- a line that a name begins goes on with nothing
begins_anew : (b : ℕ) (more : List ℕ) → IsNameByte b → continuation_of (b ∷ more) ≡ None
begins_anew b more h = rw (ne_eqb b 43 (λ e. omega arith), ne_eqb b 32 (λ e. omega arith), ne_eqb b 9 (λ e. omega arith)) refl

no_comment : (text : List ℕ) → All IsValueByte text → before_comment text ≡ text
no_comment text h =
    let whole : prefix_len (λ b. not (b == 35)) text ≡ length text =
    prefix_len_is (λ b. not (b == 35)) text (length text) 0 (omega arith)
    (λ k less. ap not (ne_eqb (get_or text k 0) 35 (All-get_or IsValueByte text k 0 less h).1)) (λ less. absurd (omega (arith, less))) in
    ap (λ n. take n text) whole ∙ take_all (length text) text (omega arith)

-- its name and what stands behind the colon
named_as : (name value : List ℕ) → IsWritten (name, value) → name_and_rest (line_of (name, value)) ≡ Some (name, 32 ∷ value)
named_as name value h =
    let parts = and_parts (nat_lt 0 (length name)) (list_all is_name_byte name) h.name in
    let parted : parted_at 58 (line_of (name, value)) ≡ Some (name, 32 ∷ value) =
    parted_here 58 name (32 ∷ value) (All-weaker IsNameByte (λ b. b ≢ 58) (λ b k. k.1) name (name_bytes name parts.1)) in
    ap (option_and_then named) parted ∙ cond-true (is_name name) (Some (name, 32 ∷ value)) None h.name

plain_as : (name value : List ℕ) → IsWritten (name, value) → attribute_of (name, 32 ∷ value) ≡ plain_attribute (name, value)
plain_as name value h =
    ap₂ (λ (n text : List ℕ). (n, with_words [] (words text))) h.lower
    (no_comment (32 ∷ value) (All-cons IsValueByte 32 value (omega arith, omega arith) h.value.bytes))

taken_as : (attributes : List (List ℕ × List ℕ)) (name value : List ℕ) → IsWritten (name, value) → continuation_of (line_of (name, value)) ≡ None
    → after_line attributes (line_of (name, value)) ≡ Some (attributes ++ plain_attribute (name, value) ∷ [])
taken_as attributes name value h anew =
    ap (after_text attributes (line_of (name, value))) anew ∙ ap (begun attributes) (named_as name value h)
    ∙ ap (λ (a : List ℕ × List ℕ). Some (attributes ++ a ∷ [])) (plain_as name value h)

taken : (attributes : List (List ℕ × List ℕ)) (name value : List ℕ) → IsWritten (name, value)
    → after_line attributes (line_of (name, value)) ≡ Some (attributes ++ plain_attribute (name, value) ∷ [])
taken attributes [] value h = absurd (absurd_name h.name)
  where
    absurd_name : false ≡ true → ⊥
    absurd_name e = cc
taken attributes (b ∷ name) value h =
    let parts = and_parts (nat_lt 0 (length (b ∷ name))) (list_all is_name_byte (b ∷ name)) h.name in
    let front = and_parts (is_name_byte b) (list_all is_name_byte name) parts.1 in
    taken_as attributes (b ∷ name) value h (begins_anew b (name ++ 58 ∷ 32 ∷ value) (name_byte b front.0))

-- ---- its line among the others

line_bytes : (a : List ℕ × List ℕ) → IsWritten a → All (λ b. 32 ≤ b) (line_of a)
line_bytes a h =
    let parts = and_parts (nat_lt 0 (length a.0)) (list_all is_name_byte a.0) h.name in
    All-append (λ b. 32 ≤ b) a.0 (58 ∷ 32 ∷ a.1) (All-weaker IsNameByte (λ b. 32 ≤ b) (λ b k. omega (arith, k)) a.0 (name_bytes a.0 parts.1))
    (All-cons (λ b. 32 ≤ b) 58 (32 ∷ a.1) (omega arith) (All-cons (λ b. 32 ≤ b) 32 a.1 (omega arith) (All-weaker IsValueByte (λ b. 32 ≤ b) (λ b k. k.0) a.1 h.value.bytes)))

no_return : (line : List ℕ) → All (λ b. 32 ≤ b) line → strip_carriage_return line ≡ line
no_return [] h = refl
no_return (b ∷ line) h =
    let last = All-get_or (λ b. 32 ≤ b) (b ∷ line) (length (b ∷ line) - 1) 0 (omega arith) h in
    cond-false (get_or (b ∷ line) (length (b ∷ line) - 1) 0 == 13) (take (length (b ∷ line) - 1) (b ∷ line)) (b ∷ line) (ne_eqb _ 13 (λ e. omega arith))

lines_before : (a : List ℕ × List ℕ) (more : List ℕ) → IsWritten a → lines (attribute_line a ++ more) ≡ line_of a ∷ lines more
lines_before a more h =
    let bytes = line_bytes a h in
    let text : attribute_line a ++ more ≡ line_of a ++ 10 ∷ more = simp append_assoc in
    line_parted (attribute_line a ++ more) (line_of a) more text (All-weaker (λ b. 32 ≤ b) (λ b. b ≢ 10) (λ b k e. omega arith) (line_of a) bytes)
    ∙ ap (λ (l : List ℕ). l ∷ lines more) (no_return (line_of a) bytes)

-- ---- all attributes

abbrev pub AreWritten : List (List ℕ × List ℕ) → Type 0
AreWritten [] = Unit {0}
AreWritten (a ∷ more) = IsWritten a × AreWritten more

abbrev after_taken : ℕ → List (List ℕ) → Option (List (List ℕ × List ℕ)) → Result (List (List ℕ × List ℕ)) ℕ
after_taken n more longer = elim longer [
  | None ↦ Err n
  | Some attributes ↦ after_lines attributes (next_number n) more
]

read_from : (attributes more : List (List ℕ × List ℕ)) (n : ℕ) → AreWritten more
    → after_lines attributes n (lines (attributes_text more)) ≡ Ok (attributes ++ map plain_attribute more)
read_from attributes [] n h = ap Ok (sym (append-nil attributes))
read_from attributes (a ∷ more) n h =
    ap (after_lines attributes n) (lines_before a (attributes_text more) h.0)
    ∙ ap (after_taken n (lines (attributes_text more))) (taken attributes a.0 a.1 h.0)
    ∙ read_from (attributes ++ plain_attribute a ∷ []) more (next_number n) h.1
    ∙ ap Ok (append_assoc attributes (plain_attribute a ∷ []) (map plain_attribute more))

-- ---- an object

both : (front more : List (List ℕ × List ℕ)) → AreWritten front → AreWritten more → AreWritten (front ++ more)
both [] more h k = k
both (a ∷ rest) more h k = (h.0, both rest more h.1 k)

abbrev one : (name value : List ℕ) → is_name name ≡ true → map to_ascii_lowercase name ≡ name → IsValue value → length name ≤ 14 → length value ≤ 141 → IsWritten (name, value)
one name value is_name is_lower is_value names values = record { name = is_name; lower = is_lower; value = is_value; short = (names, values) }

class_written : (space : Space) (value : List ℕ) → IsValue value → length value ≤ 141 → IsWritten (block_class space, value)
class_written Asn value h n = one (codes "as-block") value refl refl h (omega arith) n
class_written Ipv4 value h n = one (codes "inetnum") value refl refl h (omega arith) n
class_written Ipv6 value h n = one (codes "inet6num") value refl refl h (omega arith) n

org_written : (handle : Option (List ℕ)) → HasHandle handle → AreWritten (org_attribute handle)
org_written None h = tt
org_written (Some handle) h = (one (codes "org") handle refl refl (handle_value handle h) (omega arith) (handle_length handle h), tt)

day_written : (name : List ℕ) (day : ℕ) → is_name name ≡ true → map to_ascii_lowercase name ≡ name → length name ≤ 14 → AreWritten (day_attribute name day)
day_written name day named lower short =
    cond_both (day == 0) [] ((name, day_text day) ∷ []) AreWritten (λ _. tt) (λ _. (one name (day_text day) named lower (day_value day) short (omega arith), tt))

abbrev HasHostForm : List ℕ → Type 0
HasHostForm server = IsTrue (is_host server)

servers_written : (servers : List (List ℕ)) → All HasHostForm servers → AreWritten (map server_attribute servers)
servers_written [] h = tt
servers_written (server ∷ more) h = (
  one (codes "nserver") server refl refl (host_value server (All-head HasHostForm server more h)) (omega arith) (host_length server (All-head HasHostForm server more h)),
  servers_written more (All-tail HasHostForm server more h),
)

own_written : (o : Object) → HasForms o → AreWritten (own_attributes o)
own_written (Org holder day) h = (
  one (codes "organisation") holder.handle refl refl (handle_value holder.handle h.handle) (omega arith) (handle_length holder.handle h.handle),
  (
    one (codes "org-name") holder.name refl refl (text_value holder.name h.name) (omega arith) (text_length holder.name h.name),
    (
      one (codes "org-type") _ refl refl (kind_value holder.kind) (omega arith) (kind_length holder.kind),
      (
        one (codes "country") holder.cc refl refl (cc_value holder.cc h.cc) (omega arith) (cc_length holder.cc h.cc),
        (
          one (codes "e-mail") holder.email refl refl (text_value holder.email h.email) (omega arith) (text_length holder.email h.email),
          (one (codes "date") _ refl refl (day_value day) (omega arith) (omega arith), tt),
        ),
      ),
    ),
  ),
)
own_written (Block range status handle day until) h = (
  class_written range.space _ (range_value range h.0) (range_length range h.0),
  (
    one (codes "status") _ refl refl (status_value status) (omega arith) (status_length status),
    both (org_attribute handle ++ day_attribute (codes "date") day) (day_attribute (codes "until") until)
        (both (org_attribute handle) (day_attribute (codes "date") day) (org_written handle h.1) (day_written (codes "date") day refl refl (omega arith)))
        (day_written (codes "until") until refl refl (omega arith)),
  ),
)
own_written (Sub range handle day) h = (
  one (codes "sub-assignment") _ refl refl (range_value range h.0) (omega arith) (range_length range h.0),
  (
    one (codes "org") handle refl refl (handle_value handle h.1) (omega arith) (handle_length handle h.1),
    (one (codes "date") _ refl refl (day_value day) (omega arith) (omega arith), tt),
  ),
)
own_written (Cut block servers) h = (one (codes "domain") _ refl refl (reverse_value block) (omega arith) (reverse_length block), servers_written servers h)

all_written : (o : Object) (source : List ℕ) → HasForms o → IsTrue (is_source source) → AreWritten (attributes_of o source)
all_written o source h named =
    both (own_attributes o) ((codes "source", source) ∷ []) (own_written o h)
    (one (codes "source") source refl refl (source_value source named) (omega arith) (source_length source named), tt)

pub read_back : (o : Object) (source : List ℕ) → HasForms o → IsTrue (is_source source) → read_text (object_text o source) ≡ Ok (plain_attributes o source)
read_back o source h named = read_from [] (attributes_of o source) 1 (all_written o source h named)

-- ---- each line alone

read_alone : (name value : List ℕ) → IsWritten (name, value) → IsReadAlone (name, value)
read_alone [] value h = absurd (cc)
read_alone (b ∷ name) value h =
    let parts = and_parts (nat_lt 0 (length (b ∷ name))) (list_all is_name_byte (b ∷ name)) h.name in
    let front = and_parts (is_name_byte b) (list_all is_name_byte name) parts.1 in
    record {
      bytes = line_bytes (b ∷ name, value) h;
      short = omega (arith, length-append (b ∷ name) (58 ∷ 32 ∷ value), h.short);
      begins = front.0;
      anew = begins_anew b (name ++ 58 ∷ 32 ∷ value) (name_byte b front.0);
      read = ap (option_map attribute_of) (named_as (b ∷ name) value h) ∙ ap Some (plain_as (b ∷ name) value h);
    }

each_alone : (attributes : List (List ℕ × List ℕ)) → AreWritten attributes → AllByRecursion IsReadAlone attributes
each_alone [] h = tt
each_alone (a ∷ more) h = (read_alone a.0 a.1 h.0, each_alone more h.1)

pub lines_alone : (o : Object) (source : List ℕ) → HasForms o → IsTrue (is_source source) → AllByRecursion IsReadAlone (attributes_of o source)
lines_alone o source h named = each_alone (attributes_of o source) (all_written o source h named)
