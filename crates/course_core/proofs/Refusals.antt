-- The refusals of any day come before those of a day.
use Rattle.std.proofs.Common.{◌≡◌, ℕ, List, Option, None, Some, refl, sym, ◌∙◌, ap, subst}
use Rattle.std.specs.Option.{option_or}
use Rattle.reg_entry.specs.declared.entry.Reply.{Reply}
use Rattle.reg_entry.specs.declared.entry.Reply.TheVariants.{Accepted, Refused}
use Rattle.reg_entry.specs.declared.refusal.Refusal.{Refusal}
use Rattle.reg_entry.specs.declared.request.Request.{Request}
use Rattle.reg_entry.specs.Entry.{PlainEntry}
use Rattle.reg_entry.specs.Policy.{PlainPolicy}
use Rattle.reg_entry.specs.Register.{Register}
use Rattle.reg_entry.specs.Decision.{first_of, early_rules, policy_rules, late_refusal, unknown_hostmaster, refusal_of, reply_of, proposed_entry, decision, IfAccepted}

or_first : (a b c d : Option Refusal) (refusal : Refusal) → option_or a (option_or b c) ≡ Some refusal
    → option_or a (option_or b (option_or c d)) ≡ Some refusal
or_first (Some a) b c d refusal e = e
or_first None (Some b) c d refusal e = e
or_first None None (Some c) d refusal e = e
or_first None None None d refusal e = cc

or_last : (a b c d : Option Refusal) → option_or a (option_or b c) ≡ None → option_or a (option_or b (option_or c d)) ≡ d
or_last (Some a) b c d e = cc
or_last None (Some b) c d e = cc
or_last None None (Some c) d e = cc
or_last None None None d e = refl

-- the refusals that need no entry
abbrev pub refusal_before : Register → PlainPolicy → List ℕ → Request → Option Refusal
refusal_before r p who request =
    option_or (unknown_hostmaster p who) (option_or (first_of (early_rules r request)) (first_of (policy_rules r p request)))

pub refused_before : (r : Register) (p : PlainPolicy) (day : ℕ) (who : List ℕ) (request : Request) (refusal : Refusal)
    → refusal_before r p who request ≡ Some refusal → refusal_of r p day who request ≡ Some refusal
refused_before r p day who request refusal e =
    or_first (unknown_hostmaster p who) (first_of (early_rules r request)) (first_of (policy_rules r p request))
    (late_refusal r (proposed_entry r p day who request)) refusal e

refused_late : (r : Register) (p : PlainPolicy) (day : ℕ) (who : List ℕ) (request : Request)
    → refusal_before r p who request ≡ None → refusal_of r p day who request ≡ late_refusal r (proposed_entry r p day who request)
refused_late r p day who request e =
    or_last (unknown_hostmaster p who) (first_of (early_rules r request)) (first_of (policy_rules r p request))
    (late_refusal r (proposed_entry r p day who request)) e

pub refused_is : (r : Register) (p : PlainPolicy) (day : ℕ) (who : List ℕ) (request : Request) (refusal : Refusal)
    → refusal_before r p who request ≡ Some refusal → decision r p day who request ≡ Refused refusal
refused_is r p day who request refusal e =
    ap (λ (o : Option Refusal). reply_of o (proposed_entry r p day who request)) (refused_before r p day who request refusal e)

pub late_is : (r : Register) (p : PlainPolicy) (day : ℕ) (who : List ℕ) (request : Request) (e : PlainEntry)
    → refusal_before r p who request ≡ None → e ≡ proposed_entry r p day who request → refusal_of r p day who request ≡ late_refusal r e
late_is r p day who request e early same =
    refused_late r p day who request early ∙ ap (λ (d : PlainEntry). late_refusal r d) (sym same)

pub accepted_is : (r : Register) (p : PlainPolicy) (day : ℕ) (who : List ℕ) (request : Request) (e : PlainEntry)
    → refusal_before r p who request ≡ None → e ≡ proposed_entry r p day who request → late_refusal r e ≡ None
    → decision r p day who request ≡ Accepted e
accepted_is r p day who request e early same late =
    ap (λ (o : Option Refusal). reply_of o (proposed_entry r p day who request))
    (late_is r p day who request e early same ∙ late)
    ∙ ap (λ (d : PlainEntry). Accepted d) (sym same)

-- what holds of whatever the decision accepts, said of the entry
pub of_accepted : (reply : Reply) (e : PlainEntry) (P : PlainEntry → Type 0) → IfAccepted reply P → reply ≡ Accepted e → P e
of_accepted reply e P accepted is = subst (λ (x : Reply). IfAccepted x P) is accepted
