use Rattle.std.proofs.Common.{refl, sym, subst, IsTrue, nat_lt}
use Rattle.board.specs.declared.lens.Answer.{Answer}
use Rattle.wire_http.specs.Reply.{is_reply_code}
use Rattle.hall.proofs.Codes.{answers_have_codes, zone_code}
use Rattle.hall.proofs.answers.look_up.Goals as goal

abbrev HasReplyCode : Answer → Type 0
HasReplyCode answer = IsTrue (is_reply_code answer.status)

pub returns-in-Stats-clause-code : goal.returns-in-Stats-clause-code
returns-in-Stats-clause-code g c =
    answers_have_codes _ (λ board. nat_lt board.register.entries c.args.least) _ (λ board answer same. subst HasReplyCode (sym same) refl) c.look-in-Stats.ensures.told

pub returns-in-Zone-clause-code : goal.returns-in-Zone-clause-code
returns-in-Zone-clause-code g c =
    answers_have_codes _ (λ board. nat_lt board.register.entries c.args.least) _
    (λ board answer same. zone_code board.register _ _ answer same) c.look-in-Zone.ensures.told
