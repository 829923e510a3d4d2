-- One operation of a stream.
use Rattle.std.proofs.Common.{◌≡◌, ℕ, ◌+◌, ◌^◌, ◌<◌, ◌≤◌, true, List, [], ◌∷◌, ◌++◌, length, All, codes, decimal, None, Some, Ok, refl, ap, ◌∙◌, arith, append_assoc}
use Rattle.std.proofs.lemmas.Fmt.{length-decimal-le}
use Rattle.std.proofs.lemmas.List.Elements.{All-nil}
use Rattle.std.specs.List.{list_any}
use Rattle.reg_entry.specs.declared.object.Key.{Key}
use Rattle.reg_entry.specs.declared.object.Act.{Act}
use Rattle.reg_entry.specs.declared.object.Act.TheVariants.{Add, Del}
use Rattle.reg_entry.specs.declared.object.Object.{Object}
use Rattle.reg_entry.specs.Op.{PlainOp}
use Rattle.reg_entry.specs.Objects.{key_of}
use Rattle.nrtm_stream.specs.Stream.{act_word, operation_text}
use Rattle.rpsl_text.specs.Object.{attributes_of, object_text}
use Rattle.rpsl_text.specs.Plain.{plain_attributes}
use Rattle.mirror_core.specs.Mirror.{PlainDraft, later}
use Rattle.mirror_core.specs.Framing.{no_lines}
use Rattle.mirror_core.specs.Draft.{is_source_attribute, attribute_fault, object_key, applied}
use Rattle.mirror_laws.proofs.Moments.{Leads, both_lead, line_and_more, same_bytes}
use Rattle.mirror_laws.proofs.Lines.{Objects, IsPlain, at, IsKept, line_leads}
use Rattle.mirror_laws.proofs.Words.{decimal_word}
use Rattle.mirror_laws.proofs.PlainTexts.{IsPlainText, cons, and, word, known}
use Rattle.mirror_laws.proofs.Framing.{between, act_passes, empty_act_passes}
use Rattle.mirror_laws.proofs.Attributes.{Attribute, draft_of, AreRead, object_leads, object_ends, nothing_wrong, none_foreign}

-- an object whose text is read as it is
pub record IsReadable (source : List ℕ) (o : Object) : Type 0 where
  pub lines : AreRead source (attributes_of o source)
  pub few : length (attributes_of o source) ≤ 64
  pub key : object_key (plain_attributes o source) ≡ Some (key_of o)
  pub sourced : list_any is_source_attribute (plain_attributes o source) ≡ true

-- ---- its first line

abbrev act_line : Act → ℕ → List ℕ
act_line act k = act_word act ++ 32 ∷ decimal k

act_plain : (act : Act) (k : ℕ) → k < 2 ^ 64 → All IsPlain (act_line act k)
act_plain act k fits = (and (word_plain act) (cons {b = 32} (omega arith) (word (decimal_word k fits)))).each
  where
    word_plain : (act : Act) → IsPlainText (act_word act)
    word_plain Add = known (codes "ADD") refl
    word_plain Del = known (codes "DEL") refl

pub decimal_short : (k : ℕ) → k < 2 ^ 64 → length (decimal k) ≤ 20
decimal_short k fits = length-decimal-le 20 k (omega arith) (omega arith) (omega arith)

act_short : (act : Act) (k : ℕ) → k < 2 ^ 64 → length (act_line act k) ≤ 1024
act_short Add k fits = omega (arith, decimal_short k fits)
act_short Del k fits = omega (arith, decimal_short k fits)

-- ---- the whole

module _ (Q : Objects → ℕ → Type 0) (source : List ℕ) (os ks : Objects) (n k next last : ℕ) (here : Q os n) (then_ : Q ks k) where
  -- what the operation makes of the mirror, wherever its object's lines stand
  abbrev pub Makes : Act → List Attribute → Key → Type 0
  Makes act attributes key =
      (lines first before place : ℕ) → let d : PlainDraft = draft_of act attributes lines first before in
      applied (at source os n (between next last (Some d)) [] place) (record { next = next; last = last; draft = Some d }) d key
      ≡ at source ks k (between (next + 1) last None) [] place

  -- the object and the empty line behind it
  text_leads : (act : Act) (o : Object) (place : ℕ) → IsReadable source o → Makes act (plain_attributes o source) (key_of o)
      → (there : ℕ) × Leads (IsKept Q) (at source os n (between next last (Some (no_lines act))) [] place) (object_text o source ++ 10 ∷ [])
      (at source ks k (between (next + 1) last None) [] there)
  text_leads act o place h makes =
      let lines = object_leads Q source os n next last act here (attributes_of o source) (key_of o) place h.lines h.few h.key in
      let d : PlainDraft = draft_of act (plain_attributes o source) lines.lines lines.first lines.before in
      let right : attribute_fault source d ≡ None = nothing_wrong source d (key_of o) (none_foreign source (attributes_of o source) h.lines) h.key in
      let ends = object_ends source os n lines.place next last [] act (plain_attributes o source) lines.lines lines.first lines.before (key_of o) lines.some right h.key h.sourced in (
        _,
        both_lead (IsKept Q) _ _ _ (object_text o source) (10 ∷ []) lines.leads
            (line_leads Q source os ks n k (between next last (Some d)) (between (next + 1) last None) lines.place [] (omega arith) (All-nil IsPlain) here then_
            (ends ∙ ap Ok (makes lines.lines lines.first lines.before lines.place))),
      )

  -- the whole operation
  pub operation_leads : (op : PlainOp) (place : ℕ) → op.serial ≡ next → next < 2 ^ 64 → next ≤ last → IsReadable source op.object
      → Makes op.act (plain_attributes op.object source) (key_of op.object)
      → (there : ℕ) × Leads (IsKept Q) (at source os n (between next last None) [] place) (operation_text source op) (at source ks k (between (next + 1) last None) [] there)
  operation_leads op place numbered fits order h makes =
      let act_is = line_leads Q source os os n n (between next last None) (between next last (Some (no_lines op.act))) place (act_line op.act next) (act_short op.act next fits)
      (act_plain op.act next fits) here here (act_passes source os n place (act_line op.act next) op.act next last refl fits order) in
      let empty_is = line_leads Q source os os n n (between next last (Some (no_lines op.act))) (between next last (Some (no_lines op.act)))
      (later place (length (act_line op.act next) + 1)) [] (omega arith) (All-nil IsPlain) here here (empty_act_passes source os n _ [] op.act next last) in
      let rest = text_leads op.act op.object (later (later place (length (act_line op.act next) + 1)) 1) h makes in (
        rest.0,
        same_bytes (IsKept Q) _ _ (operation_text source op) (act_line op.act next ++ 10 ∷ ([] ++ 10 ∷ (object_text op.object source ++ 10 ∷ [])))
            (ap (λ (k : ℕ). operation_text source (record { serial = k; act = op.act; object = op.object })) numbered ∙ simp append_assoc)
            (line_and_more (IsKept Q) _ _ _ (act_line op.act next) ([] ++ 10 ∷ (object_text op.object source ++ 10 ∷ [])) act_is
            (line_and_more (IsKept Q) _ _ _ [] (object_text op.object source ++ 10 ∷ []) empty_is rest.1)),
      )
