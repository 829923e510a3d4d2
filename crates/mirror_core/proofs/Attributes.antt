-- A line that begins an attribute.
use Rattle.std.proofs.Common.{◌≡◌, ℕ, ◌+◌, Bool, true, false, not, ◌&&◌, ◌==◌, nat_le, List, [], ◌∷◌, ◌++◌, Option, None, Some, IfSome, Result, Ok, Err, refl, sym, ap, ◌∙◌, subst}
use Rattle.std.proofs.lemmas.Bool.{cond-true, cond-false}
use Rattle.reg_entry.specs.declared.object.Key.{Key}
use Rattle.rpsl_text.specs.Attributes.{last_of}
use Rattle.rpsl_text.specs.Lines.{continuation_of, name_and_rest, attribute_of}
use Rattle.rpsl_text.specs.Reading.{begun, after_text, after_line}
use Rattle.mirror_core.specs.declared.fault.FeedFault.{FeedFault}
use Rattle.mirror_core.specs.declared.fault.FeedFault.TheVariants.{Spelling, ClassOut}
use Rattle.mirror_core.specs.Keys.{is_class}
use Rattle.mirror_core.specs.Mirror.{PlainMirror, PlainStream, PlainDraft}
use Rattle.mirror_core.specs.Draft.{most_lines, drafted, is_out, first_place, begins_attribute, attribute_line, object_key}
use Rattle.mirror_core.specs.Replica.{is_last_out}

last_of_more : (attributes : List (List ℕ × List ℕ)) (a : List ℕ × List ℕ) → last_of (attributes ++ a ∷ []) ≡ Some a
last_of_more [] a = refl
last_of_more (b ∷ []) a = refl
last_of_more (b ∷ c ∷ more) a = last_of_more (c ∷ more) a

-- the attribute that a line begins, behind those before it
record Begun (attributes : List (List ℕ × List ℕ)) (line : List ℕ) (longer : List (List ℕ × List ℕ)) : Type 0 where
  parts : List ℕ × List ℕ
  named : name_and_rest line ≡ Some parts
  made : longer ≡ attributes ++ attribute_of parts ∷ []

begun_with : (attributes : List (List ℕ × List ℕ)) (line : List ℕ) (longer : List (List ℕ × List ℕ)) (named : Option (List ℕ × List ℕ))
    → name_and_rest line ≡ named → begun attributes named ≡ Some longer → Begun attributes line longer
begun_with attributes line longer None is h = absurd (cc)
begun_with attributes line longer (Some parts) is h = record { parts = parts; named = is; made = cc }

begins : (attributes : List (List ℕ × List ℕ)) (line : List ℕ) (longer : List (List ℕ × List ℕ)) → continuation_of line ≡ None
    → after_line attributes line ≡ Some longer → Begun attributes line longer
begins attributes line longer anew h =
    begun_with attributes line longer (name_and_rest line) refl (sym (ap (after_text attributes line) anew) ∙ h)

-- ---- the key stays the first attribute's

key_of_more : (attributes : List (List ℕ × List ℕ)) (a : List ℕ × List ℕ) (k : Key) → object_key attributes ≡ Some k
    → object_key (attributes ++ a ∷ []) ≡ Some k
key_of_more [] a k h = absurd (cc)
key_of_more (b ∷ more) a k h = h

pub key_stays : {B : Type 0} (kept : Option B) (value : B → Key) (attributes : List (List ℕ × List ℕ)) (line : List ℕ) (longer : List (List ℕ × List ℕ))
    → continuation_of line ≡ None → after_line attributes line ≡ Some longer → IfSome kept (λ b. object_key attributes ≡ Some (value b))
    → IfSome kept (λ b. object_key longer ≡ Some (value b))
key_stays None value attributes line longer anew h is = tt
key_stays (Some b) value attributes line longer anew h is =
    let more = begins attributes line longer anew h in
    subst (λ (all : List (List ℕ × List ℕ)). object_key all ≡ Some (value b)) (sym more.made) (key_of_more attributes (attribute_of more.parts) (value b) is)

-- ---- the line

-- what is said of the parts of a line
abbrev by_parts : PlainMirror → PlainStream → PlainDraft → Option (List ℕ × List ℕ) → Result PlainMirror FeedFault
by_parts m s d named = elim named [
  | None ↦ Err (Spelling m.place)
  | Some parts ↦ begins_attribute m s d (attribute_of parts)
]

module _ (m : PlainMirror) (s : PlainStream) (d : PlainDraft) (line : List ℕ) (room : nat_le most_lines d.lines ≡ false) where
  short : attribute_line m s d line ≡ by_parts m s d (name_and_rest line)
  short = cond-false (nat_le most_lines d.lines) (Err (Spelling m.place)) (by_parts m s d (name_and_rest line)) room

  module _ (longer : List (List ℕ × List ℕ)) (anew : continuation_of line ≡ None) (h : after_line d.attributes line ≡ Some longer) where
    attribute : List ℕ × List ℕ
    attribute = attribute_of (begins d.attributes line longer anew h).parts

    named : attribute_line m s d line ≡ begins_attribute m s d attribute
    unfolding attribute
    named = short ∙ ap (by_parts m s d) (begins d.attributes line longer anew h).named

    made : longer ≡ d.attributes ++ attribute ∷ []
    unfolding attribute
    made = (begins d.attributes line longer anew h).made

    out : ((d.lines == 0) && is_last_out longer) ≡ is_out d attribute.0
    out = ap (λ (b : Bool). (d.lines == 0) && b) (ap is_last_out made ∙ ap (λ (o : Option (List ℕ × List ℕ)). elim o [ None ↦ false | Some a ↦ not (is_class a.0) ]) (last_of_more d.attributes attribute))

    pub class_out : ((d.lines == 0) && is_last_out longer) ≡ true → attribute_line m s d line ≡ Err (ClassOut m.place)
    class_out is = named ∙ cond-true (is_out d attribute.0) _ _ (sym out ∙ is)

    pub class_in : ((d.lines == 0) && is_last_out longer) ≡ false → attribute_line m s d line
        ≡ Ok (drafted m s (record { act = d.act; attributes = longer; lines = d.lines + 1; first = first_place d m.place; last = m.place }))
    class_in is =
        named ∙ cond-false (is_out d attribute.0) _ _ (sym out ∙ is)
        ∙ ap (λ (all : List (List ℕ × List ℕ)). Ok (drafted m s (record { act = d.act; attributes = all; lines = d.lines + 1; first = first_place d m.place; last = m.place }))) (sym made)
