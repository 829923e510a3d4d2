use Rattle.std.proofs.Common.{refl, sym, ap, subst, None, Some}
use Rattle.reg_entry.specs.declared.entry.Reply.{Reply}
use Rattle.hall.specs.declared.ask.Ask.TheVariants.{Refused, Submit, Unread}
use Rattle.hall.specs.Ask.{Asks}
use Rattle.hall.specs.Reply.{refusal_reply, line_reply, unread_reply, submit_reply}
use Rattle.hall.specs.Written.{IsWritten}
use Rattle.hall.proofs.answers.answer.Goals as goal

pub returns-in-Refused-clause-answered : goal.returns-in-Refused-clause-answered
returns-in-Refused-clause-answered g c before stands = (
  before,
  stands,
  (
    Refused c.in-Refused.code c.in-Refused.post,
    refusal_reply c.args.head.now c.in-Refused.code c.in-Refused.post,
    record {
      asks = subst (Asks c.args.policy.now c.args.head.now c.args.body.now) c.in-Refused.is c.read_ask.ensures.asks;
      replied = (refl, refl);
      written_is = c.refuse.ensures.written;
    },
  ),
)

pub returns-in-Ok-submit-clause-answered : goal.returns-in-Ok-submit-clause-answered
returns-in-Ok-submit-clause-answered g c before stands =
    let submitted = c.submit.ensures.submitted before stands in (
      submitted.0,
      submitted.1,
      (
        Submit c.in-Submit.who c.in-Submit.request,
        line_reply c.args.head.now (Some c.in-Ok-submit.entries) c.in-Ok-submit.reply,
        record {
          asks = subst (Asks c.args.policy.now c.args.head.now c.args.body.now) c.in-Submit.is c.read_ask.ensures.asks;
          replied = (
            c.day.result,
            c.submit.result,
            record {
              today = c.day.ensures;
              decided = submitted.2;
              reply_is = sym (ap (submit_reply c.args.head.now) c.in-Ok-submit.is);
            },
          );
          written_is = c.tell_line.ensures.written;
        },
      ),
    )

pub returns-clause-answered : goal.returns-clause-answered
returns-clause-answered g c before stands = (
  before,
  stands,
  (
    Unread c.in-Unread.place,
    unread_reply c.args.head.now c.in-Unread.place,
    record {
      asks = subst (Asks c.args.policy.now c.args.head.now c.args.body.now) c.in-Unread.is c.read_ask.ensures.asks;
      replied = (refl, refl);
      written_is = subst
          (λ (r : Reply). IsWritten c.tell_line-in-Unread.result (g.L.Sink.written c.args.link.now) (line_reply c.args.head.now None r)
          (g.L.Sink.written c.tell_line-in-Unread.new.link))
          c.malformed.ensures c.tell_line-in-Unread.ensures.written;
    },
  ),
)
