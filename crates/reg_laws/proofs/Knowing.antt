-- What the next entry knows of holders.
use Rattle.std.proofs.Common.{◌≡◌, ℕ, ◌<◌, ◌≤◌, true, false, ◌&&◌, nat_le, nat_eq, length, Option, None, Some, MatchOption, IsSome, refl, sym, ◌∙◌, ap, subst, arith}
use Rattle.std.specs.Option.{is_some, option_eq}
use Rattle.std.proofs.lemmas.Bool.{and_parts, both_ways, leb-true, leb-false, eqb-true}
use Rattle.reg_entry.specs.declared.card.Card.{Card}
use Rattle.reg_entry.specs.declared.holder.Holder.{Holder}
use Rattle.reg_entry.specs.declared.request.Request.{Request}
use Rattle.reg_entry.specs.declared.request.Request.TheVariants.{AddHolder, EditHolder}
use Rattle.reg_entry.specs.declared.refusal.Refusal.TheVariants.{HandleTaken, UnknownHolder, HoldersFull}
use Rattle.reg_entry.specs.Card.{is_delegated}
use Rattle.reg_entry.specs.Entry.{PlainEntry}
use Rattle.reg_entry.specs.Days.{last_date}
use Rattle.reg_entry.specs.Holders.{holder_number}
use Rattle.reg_entry.specs.Register.{Register}
use Rattle.reg_entry.specs.Covers.{card_for}
use Rattle.reg_entry.specs.Decision.{first_of, early_rules, late_rules, handle_taken, unknown_holder, holders_full}
use Rattle.reg_entry.specs.Next.{until_of, IsNextEntry}
use Rattle.reg_entry.specs.Whole.{IsCardIn, IsKnownHolder}
use Rattle.reg_entry.specs.Holdings.{gives_held}
use Rattle.reg_laws.proofs.Accepting.{or_none, refuse_if_none}
use Rattle.reg_laws.proofs.NextFacts.{next_facts, allowed_if}
use Rattle.reg_laws.proofs.RequestKeeps.{card_by}

none_of : (o : Option ℕ) → is_some o ≡ false → o ≡ None
none_of None e = refl
none_of (Some n) e = absurd (both_ways true e refl)

pub some_of : {A : Type 0} (o : Option A) → is_some o ≡ true → IsSome o
some_of None e = absurd (both_ways false refl e)
some_of (Some x) e = refl

pub new_handle : (r : Register) (e : PlainEntry) (holder : Holder) → IsNextEntry r e → e.request ≡ AddHolder holder
    → holder_number r.holders holder.handle ≡ None
new_handle r e holder next is =
    let early : first_of (early_rules r (AddHolder holder)) ≡ None = ap (λ (q : Request). first_of (early_rules r q)) (sym is) ∙ (next_facts r e next).early in
    none_of (holder_number r.holders holder.handle)
    (refuse_if_none (is_some (holder_number r.holders holder.handle)) HandleTaken (or_none (handle_taken r holder.handle) None early).0)

pub holder_room : (r : Register) (e : PlainEntry) (holder : Holder) → IsNextEntry r e → e.request ≡ AddHolder holder
    → length r.holders < r.rooms.holders
holder_room r e holder next is =
    let late : first_of (late_rules r (AddHolder holder) e.day e.cover e.card) ≡ None =
    ap (λ (q : Request). first_of (late_rules r q e.day e.cover e.card)) (sym is) ∙ (next_facts r e next).late in
    let full : nat_le r.rooms.holders (length r.holders) ≡ false =
    refuse_if_none (nat_le r.rooms.holders (length r.holders)) (HoldersFull r.rooms.holders) (or_none (holders_full r) _ late).0 in
    leb-false r.rooms.holders (length r.holders) full

pub edited_holder_is_there : (r : Register) (e : PlainEntry) (holder : Holder) → IsNextEntry r e → e.request ≡ EditHolder holder
    → IsSome (holder_number r.holders holder.handle)
edited_holder_is_there r e holder next is =
    let early : first_of (early_rules r (EditHolder holder)) ≡ None = ap (λ (q : Request). first_of (early_rules r q)) (sym is) ∙ (next_facts r e next).early in
    some_of (holder_number r.holders holder.handle)
    (allowed_if (is_some (holder_number r.holders holder.handle)) (UnknownHolder holder.handle) (or_none (unknown_holder r holder.handle) None early).0)

holder_there : (r : Register) (holder : ℕ) (o : Option ℕ) → option_eq nat_eq o (Some holder) ≡ true → IsKnownHolder r o → holder < length r.holders
holder_there r holder None e h = absurd h
holder_there r holder (Some number) e h = let same : number ≡ holder = eqb-true number holder e in subst (λ n. n < length r.holders) same h

pub given_holder : (r : Register) (e : PlainEntry) (c : Card) (holder : ℕ) → IsNextEntry r e → e.card ≡ Some c → gives_held holder c ≡ true
    → holder < length r.holders
given_holder r e c holder next card gives =
    let facts = next_facts r e next in
    let s : Register = record r { last_day = e.day } in
    let day = and_parts (nat_le 1 e.day && nat_le r.last_day e.day) (nat_le e.day last_date) facts.day in
    let dated : 1 ≤ e.day = leb-true 1 e.day (and_parts (nat_le 1 e.day) (nat_le r.last_day e.day) day.0).0 in
    let in_s : MatchOption (card_for r e.request e.day (until_of e.card)) (Unit {0}) (IsCardIn s) =
    card_by r s e.request e.day (until_of e.card) facts.valid facts.early facts.until (omega arith) dated (omega arith) in
    let same : card_for r e.request e.day (until_of e.card) ≡ Some c = sym facts.card ∙ card in
    let of_c : IsCardIn s c = subst (λ (o : Option Card). MatchOption o (Unit {0}) (IsCardIn s)) same in_s in
    let both = and_parts (is_delegated c.status) (option_eq nat_eq c.holder (Some holder)) gives in
    holder_there r holder c.holder both.1 (of_c.holder both.0)
