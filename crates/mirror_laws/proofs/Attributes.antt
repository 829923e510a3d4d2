-- The lines of an object in a stream, attribute by attribute.
use Rattle.std.proofs.Common.{◌≡◌, ℕ, ◌+◌, ◌<◌, ◌≤◌, Bool, true, false, not, ◌&&◌, ◌==◌, nat_le, cond, List, [], ◌∷◌, ◌++◌, length, map, All, get_or, Option, None, Some, Result, Ok, Err, refl, sym, ap, ◌∙◌, subst, arith, append_assoc, append-nil, ne_eqb}
use Rattle.std.specs.List.{AllByRecursion, list_any}
use Rattle.std.specs.Option.{option_map, option_and_then, is_some, is_none}
use Rattle.std.proofs.lemmas.Bool.{cond-true, cond-false, lt-leb}
use Rattle.reg_entry.specs.declared.object.Key.{Key}
use Rattle.reg_entry.specs.declared.object.Act.{Act}
use Rattle.rpsl_text.specs.Alone.{line_of}
use Rattle.rpsl_text.specs.Lines.{continuation_of, name_and_rest, attribute_of}
use Rattle.rpsl_text.specs.Object.{attributes_text}
use Rattle.rpsl_text.specs.Plain.{plain_attribute}
use Rattle.mirror_core.specs.declared.fault.FeedFault.{FeedFault}
use Rattle.mirror_core.specs.declared.fault.FeedFault.TheVariants.{Spelling, ForeignSource, ClassOut}
use Rattle.mirror_core.specs.Mirror.{PlainMirror, PlainStream, PlainDraft, later}
use Rattle.mirror_core.specs.Keys.{Class, class_named, is_class, key_of_attribute}
use Rattle.mirror_core.specs.Framing.{no_lines}
use Rattle.mirror_core.specs.Draft.{is_source_attribute, is_foreign, ends_foreign, class_fault, attribute_fault, is_out, begins_attribute, attribute_line, settled, new_line, percent_inside, object_key, applied, whole_object, object_line, goes_on}
use Rattle.mirror_core.specs.Line.{after_line}
use Rattle.mirror_laws.proofs.Moments.{Leads, nothing_leads, both_lead, same_bytes}
use Rattle.mirror_laws.proofs.Lines.{Objects, IsPlain, at, IsKept, is_kept, line_leads}
use Rattle.mirror_laws.proofs.Framing.{between}

abbrev pub Attribute : Type 0
Attribute = List ℕ × List ℕ

abbrev pub draft_of : Act → List Attribute → ℕ → ℕ → ℕ → PlainDraft
draft_of act attributes lines first last = record { act = act; attributes = attributes; lines = lines; first = first; last = last }

-- a line that is read as an attribute by itself, which names no other source
pub record IsReadAs (source : List ℕ) (line : List ℕ) (a : Attribute) : Type 0 where
  pub plain : All IsPlain line
  pub short : length line ≤ 1024
  pub unmarked : (get_or line 0 0 == 37) ≡ false
  pub anew : continuation_of line ≡ None
  pub read : option_map attribute_of (name_and_rest line) ≡ Some a
  pub own : is_foreign source a ≡ false

-- ---- what can't be wrong with the attribute before a line

ends_last : (source : List ℕ) (front : List Attribute) (a : Attribute) → ends_foreign source (front ++ a ∷ []) ≡ is_foreign source a
ends_last source [] a = refl
ends_last source (b ∷ []) a = refl
ends_last source (b ∷ c ∷ front) a = ends_last source (c ∷ front) a

class_right : (d : PlainDraft) (attributes : List Attribute) (k : Key) → object_key attributes ≡ Some k → class_fault d attributes ≡ None
class_right d [] k h = refl
class_right d (a ∷ []) k h = ap (λ (o : Option Key). if_none (is_none o)) h
  where
    if_none : Bool → Option FeedFault
    if_none b = cond b (Some (Spelling d.first)) None
class_right d (a ∷ b ∷ more) k h = refl

pub nothing_wrong : (source : List ℕ) (d : PlainDraft) (k : Key) → ends_foreign source d.attributes ≡ false → object_key d.attributes ≡ Some k
    → attribute_fault source d ≡ None
nothing_wrong source d k own key =
    cond-false (ends_foreign source d.attributes) (Some (ForeignSource d.last)) (class_fault d d.attributes) own ∙ class_right d d.attributes k key

known_class : (name value : List ℕ) (k : Key) → key_of_attribute (name, value) ≡ Some k → is_class name ≡ true
known_class name value k h = known (class_named name) h
  where
    known : (o : Option Class) → option_and_then (λ class. class.key value) o ≡ Some k → is_some o ≡ true
    known None h = absurd (cc)
    known (Some class) h = refl

-- ---- one line

module _ (source : List ℕ) (os : Objects) (n place next last : ℕ) (line : List ℕ) (act : Act) (attributes : List Attribute) (lines first before : ℕ) where
  abbrev d : PlainDraft
  d = draft_of act attributes lines first before

  abbrev s : PlainStream
  s = record { next = next; last = last; draft = Some d }

  abbrev m : PlainMirror
  m = at source os n (between next last (Some d)) [] place

  abbrev longer : Attribute → Result PlainMirror FeedFault
  longer a =
      Ok (at source os n (between next last (Some (draft_of act (attributes ++ a ∷ []) (lines + 1) (cond (lines == 0) place first) place))) [] place)

  begins : (a : Attribute) → is_out d a.0 ≡ false → (o : Option (List ℕ × List ℕ)) → option_map attribute_of o ≡ Some a
      → elim o [ None ↦ Err (Spelling m.place) | Some parts ↦ begins_attribute m s d (attribute_of parts) ] ≡ longer a
  begins a out None read = absurd (cc)
  begins a out (Some parts) read =
      let same : attribute_of parts ≡ a = cc in
      ap (begins_attribute m s d) same ∙ cond-false (is_out d a.0) (Err (ClassOut m.place)) (longer a) out

  attribute_begins : (l : List ℕ) (a : Attribute) → option_map attribute_of (name_and_rest l) ≡ Some a → lines < 64 → is_out d a.0 ≡ false
      → attribute_line m s d l ≡ longer a
  attribute_begins l a read few out =
      cond-false (nat_le 64 lines) (Err (Spelling m.place)) _ (lt-leb 64 lines few) ∙ begins a out (name_and_rest l) read

  passes : (l : List ℕ) (a : Attribute) → (get_or l 0 0 == 37) ≡ false → continuation_of l ≡ None → option_map attribute_of (name_and_rest l) ≡ Some a
      → attribute_fault source d ≡ None → lines < 64 → is_out d a.0 ≡ false → object_line m s d l ≡ longer a
  passes [] a unmarked anew read right few out = absurd (cc)
  passes (b ∷ bs) a unmarked anew read right few out =
      ap (λ (o : Option (List ℕ)). elim o [ None ↦ new_line m s d b (b ∷ bs) | Some text ↦ goes_on m s d text ]) anew
      ∙ ap (λ (o : Option FeedFault). elim o [ None ↦ cond (b == 37) (percent_inside m (b ∷ bs)) (attribute_line m s d (b ∷ bs)) | Some fault ↦ Err fault ]) right
      ∙ cond-false (b == 37) (percent_inside m (b ∷ bs)) (attribute_line m s d (b ∷ bs)) unmarked
      ∙ attribute_begins (b ∷ bs) a read few out

  pub attribute_passes : (a : Attribute) → IsReadAs source line a → attribute_fault source d ≡ None → lines < 64 → is_out d a.0 ≡ false
      → after_line m line ≡ longer a
  attribute_passes a h right few out = passes line a h.unmarked h.anew h.read right few out

  -- the empty line behind the object
  pub object_ends : (k : Key) → (lines == 0) ≡ false → attribute_fault source d ≡ None → object_key attributes ≡ Some k → list_any is_source_attribute attributes ≡ true
      → after_line m [] ≡ Ok (applied m s d k)
  object_ends k some right key sourced =
      cond-false (lines == 0) (Ok m) (settled m d (whole_object m s d (object_key attributes))) some
      ∙ ap (λ (o : Option FeedFault). elim o [ None ↦ whole_object m s d (object_key attributes) | Some fault ↦ Err fault ]) right
      ∙ ap (whole_object m s d) key
      ∙ cond-true (list_any is_source_attribute attributes) (Ok (applied m s d k)) (Err (Spelling m.place)) sourced

-- ---- all lines of an object

abbrev pub AreRead : List ℕ → List Attribute → Type 0
AreRead source attributes = AllByRecursion (λ a. IsReadAs source (line_of a) (plain_attribute a)) attributes

pub none_foreign : (source : List ℕ) (attributes : List Attribute) → AreRead source attributes → ends_foreign source (map plain_attribute attributes) ≡ false
none_foreign source [] h = refl
none_foreign source (a ∷ []) h = h.0.own
none_foreign source (a ∷ b ∷ more) h = none_foreign source (b ∷ more) h.1

module _ (Q : Objects → ℕ → Type 0) (source : List ℕ) (os : Objects) (n next last : ℕ) (act : Act) (h : Q os n) where
  abbrev drafted : PlainDraft → ℕ → PlainMirror
  drafted d place = at source os n (between next last (Some d)) [] place

  -- the bytes lead to a draft with these attributes
  pub record LeadsToDraft (m : PlainMirror) (bytes : List ℕ) (attributes : List Attribute) : Type 0 where
    pub lines : ℕ
    pub first : ℕ
    pub before : ℕ
    pub place : ℕ
    pub some : (lines == 0) ≡ false
    pub leads : Leads (IsKept Q) m bytes (drafted (draft_of act attributes lines first before) place)

  one_leads : (attributes : List Attribute) (lines first before place : ℕ) (a : Attribute) → IsReadAs source (line_of a) (plain_attribute a)
      → attribute_fault source (draft_of act attributes lines first before) ≡ None → lines < 64
      → is_out (draft_of act attributes lines first before) a.0 ≡ false
      → Leads (IsKept Q) (drafted (draft_of act attributes lines first before) place) (line_of a ++ 10 ∷ [])
      (drafted (draft_of act (attributes ++ plain_attribute a ∷ []) (lines + 1) (cond (lines == 0) place first) place) (later place (length (line_of a) + 1)))
  one_leads attributes lines first before place a read right few out =
      line_leads Q source os os n n _ _ place (line_of a) read.short read.plain h h
      (attribute_passes source os n place next last (line_of a) act attributes lines first before (plain_attribute a) read right few out)

  behind : {m k : PlainMirror} (a : Attribute) (more : List Attribute) {attributes : List Attribute} → Leads (IsKept Q) m (line_of a ++ 10 ∷ []) k
      → LeadsToDraft k (attributes_text more) attributes → LeadsToDraft m (attributes_text (a ∷ more)) attributes
  behind {m} {k} a more one rest = record {
    lines = rest.lines;
    first = rest.first;
    before = rest.before;
    place = rest.place;
    some = rest.some;
    leads = same_bytes (IsKept Q) m _ (attributes_text (a ∷ more)) ((line_of a ++ 10 ∷ []) ++ attributes_text more)
        (simp append_assoc)
        (both_lead (IsKept Q) m k _ (line_of a ++ 10 ∷ []) (attributes_text more) one rest.leads);
  }

  more_lead : (front : List Attribute) (p : Attribute) (k : Key) (more : List Attribute) (lines first before place : ℕ) → AreRead source more
      → object_key (p ∷ front) ≡ Some k → ends_foreign source (p ∷ front) ≡ false → (lines == 0) ≡ false → lines + length more ≤ 64
      → LeadsToDraft (drafted (draft_of act (p ∷ front) lines first before) place) (attributes_text more) (p ∷ (front ++ map plain_attribute more))
  more_lead front p k [] lines first before place reads key own some few = record {
    lines = lines;
    first = first;
    before = before;
    place = place;
    some = some;
    leads = subst (λ (ps : List Attribute). Leads (IsKept Q) (drafted (draft_of act (p ∷ front) lines first before) place) [] (drafted (draft_of act (p ∷ ps) lines first before) place))
        (sym (append-nil front)) (nothing_leads (IsKept Q) _ (is_kept Q source os n _ [] place h));
  }
  more_lead front p k (a ∷ more) lines first before place reads key own some few =
      let d : PlainDraft = draft_of act (p ∷ front) lines first before in
      let out : is_out d a.0 ≡ false = ap (λ b. b && not (is_class a.0)) some in
      let first_leads = one_leads (p ∷ front) lines first before place a reads.0 (nothing_wrong source d k own key) (omega arith) out in
      let now : PlainMirror = drafted (draft_of act (p ∷ (front ++ plain_attribute a ∷ [])) (lines + 1) (cond (lines == 0) place first) place) (later place (length (line_of a) + 1)) in
      let rest : LeadsToDraft now (attributes_text more) (p ∷ ((front ++ plain_attribute a ∷ []) ++ map plain_attribute more)) =
      more_lead (front ++ plain_attribute a ∷ []) p k more (lines + 1) (cond (lines == 0) place first) place (later place (length (line_of a) + 1)) reads.1 key
      (ends_last source (p ∷ front) (plain_attribute a) ∙ reads.0.own) (ne_eqb (lines + 1) 0 (λ e. omega arith)) (omega arith) in
      behind a more first_leads (subst (λ (ps : List Attribute). LeadsToDraft now (attributes_text more) (p ∷ ps)) (append_assoc front (plain_attribute a ∷ []) (map plain_attribute more)) rest)

  -- the object's lines
  pub object_leads : (attributes : List Attribute) (k : Key) (place : ℕ) → AreRead source attributes → length attributes ≤ 64
      → object_key (map plain_attribute attributes) ≡ Some k
      → LeadsToDraft (drafted (no_lines act) place) (attributes_text attributes) (map plain_attribute attributes)
  object_leads [] k place reads few key = absurd (cc)
  object_leads (a ∷ more) k place reads few key =
      let known : is_class a.0 ≡ true = known_class a.0 (plain_attribute a).1 k key in
      behind a more (one_leads [] 0 0 0 place a reads.0 refl (omega arith) (ap not known))
      (more_lead [] (plain_attribute a) k more 1 place place (later place (length (line_of a) + 1)) reads.1 key reads.0.own refl (omega (arith, few)))
