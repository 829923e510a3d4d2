use Rattle.std.proofs.Common.{◌≡◌, ℕ, ◌+◌, ◌<◌, false, nat_le, Ok, Err, refl, sym, ap, ◌∙◌, subst, arith}
use Rattle.std.proofs.lemmas.Bool.Decides.{nat_tests}
use Rattle.mirror_core.specs.declared.fault.FeedFault.TheVariants.{ClassOut}
use Rattle.mirror_core.specs.Mirror.{PlainDraft}
use Rattle.mirror_core.specs.Draft.{most_lines, drafted, attribute_line}
use Rattle.mirror_core.specs.Replica.{PlainReplica, standing_in, stream_with}
use Rattle.mirror_core.proofs.Attributes.{class_out, class_in, key_stays}
use Rattle.mirror_core.proofs.replica.Replica.attribute_line.Goals as goal

room : (lines : ℕ) → lines < 64 → nat_le most_lines lines ≡ false
room lines h = grind (arith, nat_tests)

pub invariant_of-draft : goal.invariant_of-draft
invariant_of-draft c =
    key_stays c.draft.inside.key (λ b. b.value) c.draft.inside.attributes c.args.line.now c.in_ok-attributes.attributes c.requires.anew
    c.in_ok-attributes.ensures c.draft.invariant

pub returns-then-is_out-clause-said : goal.returns-then-is_out-clause-said
returns-then-is_out-clause-said c =
    let given = c.draft.inside in
    let mine = c.self.inside in
    let line = c.args.line.now in
    let d : PlainDraft = record { act = given.act; attributes = given.attributes; lines = given.lines; first = given.first; last = given.last } in
    let r : PlainReplica = record { source = mine.source.items; objects = mine.objects; serial = mine.serial; stream = mine.stream; place = mine.place } in
    let s = stream_with c.args.serials d in
    let here : attribute_line (standing_in r s) s d line ≡ Err (ClassOut mine.place) =
    class_out (standing_in r s) s d line (room given.lines c.if-lines-ge-MOST_LINES.false) c.in_ok-attributes.attributes c.requires.anew c.in_ok-attributes.ensures
    (sym c.is_out.ensures ∙ c.if-is_out.true) in (
      subst (λ (m : PlainReplica). attribute_line (standing_in m (stream_with c.args.serials c.args.draft)) (stream_with c.args.serials c.args.draft) c.args.draft line ≡ Err (ClassOut mine.place)) c.self.view_is
          (subst (λ (e : PlainDraft). attribute_line (standing_in r (stream_with c.args.serials e)) (stream_with c.args.serials e) e line ≡ Err (ClassOut mine.place)) c.draft.view_is here),
      record { source = refl; objects = refl; serial = refl; place = refl },
    )

pub returns-clause-said : goal.returns-clause-said
returns-clause-said c =
    let given = c.draft.inside in
    let mine = c.self.inside in
    let line = c.args.line.now in
    let d : PlainDraft = record { act = given.act; attributes = given.attributes; lines = given.lines; first = given.first; last = given.last } in
    let r : PlainReplica = record { source = mine.source.items; objects = mine.objects; serial = mine.serial; stream = mine.stream; place = mine.place } in
    let s = stream_with c.args.serials d in
    let after : PlainDraft = record { act = given.act; attributes = c.in_ok-attributes.attributes; lines = given.lines + 1; first = c.first_place.result; last = mine.place } in
    let there = drafted (standing_in r s) s after in
    let here : attribute_line (standing_in r s) s d line ≡ Ok there =
    class_in (standing_in r s) s d line (room given.lines c.if-lines-ge-MOST_LINES.false) c.in_ok-attributes.attributes c.requires.anew c.in_ok-attributes.ensures
    (sym c.is_out.ensures ∙ c.if-is_out.false)
    ∙ ap (λ (first : ℕ). Ok (drafted (standing_in r s) s (record { act = given.act; attributes = c.in_ok-attributes.attributes; lines = given.lines + 1; first = first; last = mine.place })))
    (sym c.first_place.ensures) in
    subst (λ (m : PlainReplica). attribute_line (standing_in m (stream_with c.args.serials c.args.draft)) (stream_with c.args.serials c.args.draft) c.args.draft line ≡ Ok there) c.self.view_is
    (subst (λ (e : PlainDraft). attribute_line (standing_in r (stream_with c.args.serials e)) (stream_with c.args.serials e) e line ≡ Ok there) c.draft.view_is here)
