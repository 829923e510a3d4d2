-- The operations of a stream, one by one, and the streams of a feed.
use Rattle.std.proofs.Common.{◌≡◌, ℕ, suc, ◌+◌, ◌^◌, ◌<◌, ◌≤◌, max, nat_lt, List, [], ◌∷◌, ◌++◌, length, map, take, flat_map, None, inl, inr, refl, sym, ap, ap₂, ◌∙◌, subst, arith, append_assoc, length-append, lt-ltb, le-ltb}
use Rattle.std.proofs.lemmas.Bool.{cases_Bool, cond-true, cond-false}
use Rattle.std.proofs.lemmas.Bool.Decides.{nat_tests}
use Rattle.std.proofs.Math.Seq.{take-append_seam}
use Rattle.std.specs.List.{AllByRecursion}
use Rattle.reg_entry.specs.Op.{PlainOp}
use Rattle.reg_entry.specs.Objects.{key_of}
use Rattle.reg_entry.specs.Operations.{objects_after}
use Rattle.op_feed.specs.ReachedBoard.{HaveSerialsFrom}
use Rattle.nrtm_stream.specs.Stream.{operation_text}
use Rattle.rpsl_text.specs.Plain.{plain_attributes}
use Rattle.mirror_core.specs.Mirror.{PlainMirror}
use Rattle.mirror_core.specs.Objects.{operated, mirrored}
use Rattle.mirror_laws.proofs.Moments.{Leads, nothing_leads, both_lead}
use Rattle.mirror_laws.proofs.Lines.{Objects, at, IsKept, is_kept}
use Rattle.mirror_laws.proofs.Framing.{between}
use Rattle.mirror_laws.proofs.Operations.{IsReadable, Makes, operation_leads}
use Rattle.mirror_laws.proofs.Playing.{operated_same, after_one}

-- ---- parts of a list

pub serials_parts : (s : ℕ) (xs ys : List PlainOp) → HaveSerialsFrom s (xs ++ ys) → HaveSerialsFrom s xs × HaveSerialsFrom (s + length xs) ys
serials_parts s [] ys h = (tt, subst (λ n. HaveSerialsFrom n ys) (omega arith) h)
serials_parts s (x ∷ xs) ys h =
    let rest = serials_parts (s + 1) xs ys h.1 in
    ((h.0, rest.0), subst (λ n. HaveSerialsFrom n ys) (omega arith) rest.1)

abbrev pub AreReadable : List ℕ → List PlainOp → Type 0
AreReadable source ops = AllByRecursion (λ op. IsReadable source op.object) ops

pub readable_parts : (source : List ℕ) (xs ys : List PlainOp) → AreReadable source (xs ++ ys) → AreReadable source xs × AreReadable source ys
readable_parts source [] ys h = (tt, h)
readable_parts source (x ∷ xs) ys h = let rest = readable_parts source xs ys h.1 in ((h.0, rest.0), rest.1)

-- ---- operations

-- the register's objects after the first so many operations, as a mirror holds them
abbrev pub held : List ℕ → List PlainOp → ℕ → Objects
held source ops n = map (mirrored source) (objects_after (take n ops))

-- the mirror has the objects of its serial
pub record IsHeld (source : List ℕ) (ops : List PlainOp) (os : Objects) (n : ℕ) : Type 0 where
  pub serial : n ≤ length ops
  pub objects : os ≡ held source ops n

module _ (source : List ℕ) (ops : List PlainOp) (fits : length ops < 2 ^ 64) where
  abbrev pub P : PlainMirror → Type 0
  P = IsKept (IsHeld source ops)

  abbrev pub between_operations : ℕ → ℕ → ℕ → ℕ → PlainMirror
  between_operations n next last place = at source (held source ops n) n (between next last None) [] place

  -- bytes that lead to the place behind so many operations
  pub record LeadsBehind (m : PlainMirror) (bytes : List ℕ) (n next last : ℕ) : Type 0 where
    pub place : ℕ
    pub leads : Leads P m bytes (between_operations n next last place)

  one_more : (before after : List PlainOp) (op : PlainOp) (n : ℕ) → ops ≡ before ++ op ∷ after → n ≡ length before
      → operated (held source ops n) op.act (key_of op.object) (plain_attributes op.object source) ≡ held source ops (n + 1)
  one_more before after op n is count =
      let front : take n ops ≡ before = ap₂ (λ (k : ℕ) (l : List PlainOp). take k l) count is ∙ take-append_seam before (op ∷ after) in
      let longer : take (n + 1) ops ≡ before ++ op ∷ [] =
      ap₂ (λ (k : ℕ) (l : List PlainOp). take k l) (let e : n + 1 ≡ length (before ++ op ∷ []) = omega (arith, length-append before (op ∷ [])) in e) (is ∙ sym (append_assoc before (op ∷ []) after))
      ∙ take-append_seam (before ++ op ∷ []) after in
      ap (λ (l : List PlainOp). operated (map (mirrored source) (objects_after l)) op.act (key_of op.object) (plain_attributes op.object source)) front
      ∙ operated_same source (objects_after before) op.act op.object
      ∙ ap (map (mirrored source)) (sym (after_one before op) ∙ ap objects_after (sym longer))

  moved : {m : PlainMirror} {bytes : List ℕ} {last : ℕ} (n next n' next' : ℕ) → LeadsBehind m bytes n next last → n ≡ n' → next ≡ next' → LeadsBehind m bytes n' next' last
  moved {m} {bytes} {last} n next n' next' h e f =
      subst (λ (k : ℕ). LeadsBehind m bytes n' k last) f (subst (λ (k : ℕ). LeadsBehind m bytes k next last) e h)

  behind_one : {m : PlainMirror} (k : PlainMirror) {n next last : ℕ} (op : PlainOp) (left : List PlainOp) → Leads P m (operation_text source op) k
      → LeadsBehind k (flat_map (operation_text source) left) n next last → LeadsBehind m (flat_map (operation_text source) (op ∷ left)) n next last
  behind_one {m} k op left one rest = record {
    place = rest.place;
    leads = both_lead P m k _ (operation_text source op) (flat_map (operation_text source) left) one rest.leads;
  }

  pub is_held : (n : ℕ) → n ≤ length ops → IsHeld source ops (held source ops n) n
  is_held n h = record { serial = h; objects = refl }

  -- an operation that is new is applied
  makes_new : (op : PlainOp) (n next last : ℕ) (here : IsHeld source ops (held source ops n) n) (there : IsHeld source ops (held source ops next) next) → n < next
      → operated (held source ops n) op.act (key_of op.object) (plain_attributes op.object source) ≡ held source ops next
      → Makes (IsHeld source ops) source (held source ops n) (held source ops next) n next next last here there op.act (plain_attributes op.object source) (key_of op.object)
  makes_new op n next last here there new same lines first before place =
      cond-true (nat_lt n next) (at source (operated (held source ops n) op.act (key_of op.object) (plain_attributes op.object source)) next (between (next + 1) last None) [] place) _ (lt-ltb n next new)
      ∙ ap (λ (os : Objects). at source os next (between (next + 1) last None) [] place) same

  -- one that isn't is passed over
  makes_old : (op : PlainOp) (n next last : ℕ) (here there : IsHeld source ops (held source ops n) n) → next ≤ n
      → Makes (IsHeld source ops) source (held source ops n) (held source ops n) n n next last here there op.act (plain_attributes op.object source) (key_of op.object)
  makes_old op n next last here there old lines first before place =
      cond-false (nat_lt n next) _ (at source (held source ops n) n (between (next + 1) last None) [] place) (le-ltb n next old)

  pub operations_lead : (before left after : List PlainOp) (n next last place n' next' : ℕ) → ops ≡ before ++ (left ++ after) → next ≡ length before + 1
      → HaveSerialsFrom next left → AreReadable source left → length before ≤ n → n ≤ length ops → length before + length left ≤ last
      → n' ≡ max n (length before + length left) → next' ≡ next + length left
      → LeadsBehind (between_operations n next last place) (flat_map (operation_text source) left) n' next' last
  operations_lead before [] after n next last place n' next' is count serials reads low high end e f =
      moved n next n' next' (record { place = place; leads = nothing_leads P _ (is_kept (IsHeld source ops) source _ n _ [] place (is_held n high)) }) (omega arith) (omega arith)
  operations_lead before (op ∷ left) after n next last place n' next' is count serials reads low high end e f =
      let whole : length ops ≡ length before + suc (length (left ++ after)) = ap length is ∙ length-append before (op ∷ (left ++ after)) in
      let longer : length (before ++ op ∷ []) ≡ length before + 1 = length-append before (op ∷ []) in
      let rest_is : ops ≡ (before ++ op ∷ []) ++ (left ++ after) = is ∙ sym (append_assoc before (op ∷ []) (left ++ after)) in
      let small : next < 2 ^ 64 = omega arith in
      let here : IsHeld source ops (held source ops n) n = is_held n high in
      elim (cases_Bool (nat_lt n next)) [
        | inl new ↦
            let less : n < next = grind (arith, nat_tests) in
            let there : IsHeld source ops (held source ops next) next = is_held next (omega arith) in
            let same : operated (held source ops n) op.act (key_of op.object) (plain_attributes op.object source) ≡ held source ops next =
            one_more before (left ++ after) op n is (omega arith) ∙ ap (held source ops) (let e : n + 1 ≡ next = omega arith in e) in
            let one = operation_leads (IsHeld source ops) source (held source ops n) (held source ops next) n next next last here there op place serials.0 small (omega arith) reads.0
            (makes_new op n next last here there less same) in
            behind_one (between_operations next (next + 1) last one.0) op left one.1
            (operations_lead (before ++ op ∷ []) left after next (next + 1) last one.0 n' next' rest_is (omega arith) serials.1 reads.1 (omega arith) (omega arith) (omega arith)
            (omega arith) (omega arith))
        | inr old ↦
            let less : next ≤ n = grind (arith, nat_tests) in
            let one = operation_leads (IsHeld source ops) source (held source ops n) (held source ops n) n n next last here here op place serials.0 small (omega arith) reads.0
            (makes_old op n next last here here less) in
            behind_one (between_operations n (next + 1) last one.0) op left one.1
            (operations_lead (before ++ op ∷ []) left after n (next + 1) last one.0 n' next' rest_is (omega arith) serials.1 reads.1 (omega arith) high (omega arith)
            (omega arith) (omega arith))
      ]
