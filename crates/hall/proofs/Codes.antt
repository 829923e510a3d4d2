-- The codes of answers.
use Rattle.std.proofs.Common.{◌≡◌, Bool, true, false, refl, sym, subst, IsTrue, inl, inr}
use Rattle.std.specs.Prelude.{Result, Ok, Err, IfOk}
use Rattle.std.proofs.lemmas.Bool.{cases_Bool}
use Rattle.reg_entry.specs.declared.policy.ZoneTerms.{ZoneTerms}
use Rattle.reg_entry.specs.Operations.{PlainBoard}
use Rattle.reg_entry.specs.Register.{Register}
use Rattle.board.specs.declared.lens.Answer.{Answer}
use Rattle.reverse_zone.specs.declared.apex.Apex.{Apex}
use Rattle.reverse_zone.specs.Zone.{in_pool}
use Rattle.reverse_zone.specs.ZoneAnswer.{zone_answer}
use Rattle.wire_http.specs.Reply.{is_reply_code}
use Rattle.hall.specs.AtLeast.{AnswersAtLeast}

abbrev HasReplyCode : Answer → Type 0
HasReplyCode answer = IsTrue (is_reply_code answer.status)

at_least : (answers : PlainBoard → Answer → Type 0) (few : Bool) (board : PlainBoard) (answer : Answer)
    → (answers board answer → HasReplyCode answer) → AnswersAtLeast answers few board answer → HasReplyCode answer
at_least answers true board answer has same = subst HasReplyCode (sym same) refl
at_least answers false board answer has told = has told

-- whatever of a few answers it is, replies have its code
pub answers_have_codes : {E : Type 0} (answers : PlainBoard → Answer → Type 0) (few : PlainBoard → Bool) (result : Result Answer E)
    → ((board : PlainBoard) (answer : Answer) → answers board answer → HasReplyCode answer)
    → IfOk result (λ answer. (board : PlainBoard) × AnswersAtLeast answers (few board) board answer) → IfOk result HasReplyCode
answers_have_codes answers few (Ok answer) has told = at_least answers (few told.0) told.0 answer (has told.0 answer) told.1
answers_have_codes answers few (Err e) has told = tt

zones_have_codes : (r : Register) (terms : ZoneTerms) (apex : Apex) → HasReplyCode (zone_answer r terms apex)
zones_have_codes r terms apex = elim (cases_Bool (in_pool r apex)) [ inl e ↦ rw e refl | inr e ↦ rw e refl ]

pub zone_code : (r : Register) (terms : ZoneTerms) (apex : Apex) (answer : Answer) → answer ≡ zone_answer r terms apex → HasReplyCode answer
zone_code r terms apex answer same = subst HasReplyCode (sym same) (zones_have_codes r terms apex)
