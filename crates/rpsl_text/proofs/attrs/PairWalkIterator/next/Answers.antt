use Rattle.std.proofs.Common.{ℕ, List, ◌≡◌, ◌+◌, ◌-◌, ◌≤◌, [], ◌∷◌, drop, length, get_or, sum_by, ap, sym, subst, ◌∙◌, arith, length-drop}
use Rattle.std.proofs.lemmas.List.{take_all}
use Rattle.std.proofs.lemmas.List.Sums.{sum_by-cons}
use Rattle.rpsl_text.specs.declared.attrs.Span.{Span}
use Rattle.rpsl_text.specs.Attributes.{span_length, AreSpansOf}
use Rattle.rpsl_text.proofs.attrs.PairWalkIterator.next.Goals as goal

-- without the first attribute, the lengths are those of what is left
left : (bytes rest last : List ℕ) (spans : List Span) (d : Span) → AreSpansOf bytes spans → 1 ≤ length spans
    → rest ≡ drop (get_or spans 0 d).name bytes → last ≡ drop (get_or spans 0 d).value rest → AreSpansOf last (drop 1 spans)
left bytes rest last [] d total some named valued = absurd (omega (arith, some))
left bytes rest last (s ∷ spans) d total some named valued =
    let sum : s.name + s.value + sum_by span_length spans ≡ length bytes = sym (sum_by-cons span_length s spans) ∙ total in
    let one : length rest ≡ length bytes - s.name = ap length named ∙ length-drop s.name bytes in
    let two : length last ≡ length rest - s.value = ap length valued ∙ length-drop s.value rest in
    omega (arith, sum, one, two)

pub invariant_of-self : goal.invariant_of-self
invariant_of-self c =
    let spans : List Span = c.self.inside.spans.now in
    subst (AreSpansOf c.split_at-2.result.1.now) (sym (take_all _ (drop 1 spans) (omega (arith, length-drop 1 spans))))
    (left c.self.inside.bytes.now c.split_at.result.1.now c.split_at-2.result.1.now spans (record { name = 0; value = 0 }) c.self.invariant c.in-len1-up.len_at_least
    c.split_at.ensures.back c.split_at-2.ensures.back)
