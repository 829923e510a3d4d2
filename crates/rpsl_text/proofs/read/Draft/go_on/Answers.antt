use Rattle.std.proofs.Common.{List, ℕ, ◌≡◌, ◌-◌, ◌∷◌, [], ◌++◌, Some, length, ap, sym, ◌∙◌, subst, refl, rules}
use Rattle.rpsl_text.specs.declared.attrs.Span.{Span}
use Rattle.rpsl_text.specs.Attributes.{attributes_at, AreSpansOf}
use Rattle.rpsl_text.specs.Reading.{gone_on}
use Rattle.rpsl_text.proofs.Stored.{goes_on}
use Rattle.rpsl_text.proofs.read.Draft.go_on.Goals as goal

pub returns-clause-taken : goal.returns-clause-taken
returns-clause-taken c =
    let start : ℕ = c.len.result - c.in-Some.last.value in
    let span : Span = record { name = c.in-Some.last.name; value = c.len-2.result - start } in
    let begun : c.len.result ≡ length c.args.self.now.bytes.items = search rules in
    let end : c.len-2.result ≡ length c.append_value.new.bytes.items = search rules in
    let bytes : List ℕ = c.args.self.now.bytes.items in
    let spans : List Span = c.pop.new.self.items in
    let popped : c.args.self.now.spans.items ≡ spans ++ c.in-Some.last ∷ [] = c.in-Some.ensures.items in
    ap (λ (ss : List Span). gone_on (attributes_at bytes ss) c.args.text.now) popped
    ∙ goes_on bytes c.append_value.new.bytes.items spans c.in-Some.last span c.args.text.now start
    (subst (AreSpansOf bytes) popped c.requires) (ap (λ n. n - c.in-Some.last.value) begun)
    c.in_ok-append_value.ensures.front c.in_ok-append_value.ensures.value refl (ap (λ n. n - start) end)
    ∙ ap Some (ap (attributes_at c.append_value.new.bytes.items) (sym c.in_ok-push.ensures.items))
