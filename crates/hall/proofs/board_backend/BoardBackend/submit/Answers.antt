use Rattle.std.proofs.Common.{◌∙◌, List, sym, ap, ap₂, subst, refl}
use Rattle.reg_entry.specs.Entry.{PlainEntry}
use Rattle.reg_entry.specs.Decision.{decision}
use Rattle.desk_text.specs.ReplyText.{ReplyHasDate}
use Rattle.hall.specs.Standing.{standing}
use Rattle.desk_book.specs.Reply.{with_reply}
use Rattle.hall.proofs.board_backend.BoardBackend.submit.Goals as goal

pub returns-clause-submitted : goal.returns-clause-submitted
returns-clause-submitted c before stands =
    let now : List PlainEntry = with_reply before.entries c.decide-reply.result in
    let register = c.take_in.ensures.entries before.entries stands.0 in (
      standing now 0 0,
      (register, refl, refl),
      (
        before.entries,
        record {
          seen = refl;
          reply_is = c.decide-reply.ensures.decision
              ∙ ap (λ r. decision r c.args.policy.now c.args.day c.args.who.now c.args.request.now) (sym stands.0.same);
          number_is = c.entries.ensures.entries ∙ c.reached_registers_count.ensures.entries _ now register;
          others = refl;
          same = ap₂ (λ refusals failures. standing now refusals failures) (sym stands.1) (sym stands.2);
        },
      ),
    )

pub returns-clause-date : goal.returns-clause-date
returns-clause-date c =
    subst ReplyHasDate (sym c.decide-reply.ensures.decision)
    (c.replies_have_dates.ensures c.args.self.now.register c.args.policy.now c.args.day c.args.who.now c.args.request.now c.is_whole.ensures.whole)
