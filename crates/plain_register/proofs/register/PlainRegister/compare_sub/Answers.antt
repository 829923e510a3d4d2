use Rattle.std.proofs.Common.{◌≡◌, ℕ, List, Bool, Option, Some, find, sym, ◌∙◌, ap}
use Rattle.std.specs.Option.{option_map}
use Rattle.num_range.specs.Range.{PlainRange, same_range}
use Rattle.reg_entry.specs.declared.holder.Holder.{Holder}
use Rattle.reg_entry.specs.declared.sub_card.SubCard.{SubCard}
use Rattle.reg_entry.specs.Objects.{same_object, sub_of}
use Rattle.plain_register.proofs.Counting.{compared_sub}
use Rattle.plain_register.proofs.register.PlainRegister.compare_sub.Goals as goal

abbrev like : List (Holder × ℕ) → PlainRange × SubCard → List (Holder × ℕ) → PlainRange × SubCard → Bool
like hs s others t = same_object (sub_of hs s) (sub_of others t)

abbrev sub_as : List (PlainRange × SubCard) → PlainRange → Option (PlainRange × SubCard)
sub_as subs range = find (λ s. same_range s.0 range) subs

pub returns-in_err-other : goal.returns-in_err-other
returns-in_err-other c =
    let r = c.args.self.now in
    let subs : c.deref.result.now ≡ r.subs = c.deref.ensures.value ∙ ap (λ s. s.subs) c.self.view_is in
    c.from_residual.ensures
    ∙ sym (compared_sub r c.args.holders.now c.args.sub.now
    ∙ ap (λ (o : Option (PlainRange × SubCard)). option_map (like c.args.holders.now c.args.sub.now r.holders) o)
    (ap (λ (ss : List (PlainRange × SubCard)). sub_as ss c.args.sub.now.0) (sym subs) ∙ sym c.find_sub.ensures ∙ c.in_err-other.was))

pub returns : goal.returns
returns c =
    let r = c.args.self.now in
    let subs : c.deref.result.now ≡ r.subs = c.deref.ensures.value ∙ ap (λ s. s.subs) c.self.view_is in
    let holders : c.deref-2.result.now ≡ r.holders = c.deref-2.ensures.value ∙ ap (λ s. s.holders) c.self.view_is in
    ap (λ (b : Bool). Some b)
    (c.same_sub.ensures ∙ ap (λ (hs : List (Holder × ℕ)). like c.args.holders.now c.args.sub.now hs c.in_ok-other.other) holders)
    ∙ sym (compared_sub r c.args.holders.now c.args.sub.now
    ∙ ap (λ (o : Option (PlainRange × SubCard)). option_map (like c.args.holders.now c.args.sub.now r.holders) o)
    (ap (λ (ss : List (PlainRange × SubCard)). sub_as ss c.args.sub.now.0) (sym subs) ∙ sym c.find_sub.ensures ∙ c.in_ok-other.was))
