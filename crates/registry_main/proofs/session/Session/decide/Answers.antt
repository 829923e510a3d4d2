use Rattle.std.proofs.Common.{sym, subst}
use Rattle.desk_text.specs.ReplyText.{ReplyHasDate}
use Rattle.registry_main.proofs.session.Session.decide.Goals as goal

pub write_reply-requires-clause-date : goal.write_reply-requires-clause-date
write_reply-requires-clause-date c =
    subst ReplyHasDate (sym c.decide_on_day-reply.ensures.decision)
    (c.replies_have_dates.ensures c.self.inside.board.register c.self.inside.policy c.self.inside.day c.self.inside.who c.args.request.now c.is_whole.ensures.whole)

pub tell_refused-requires-clause-date : goal.tell_refused-requires-clause-date
tell_refused-requires-clause-date c =
    subst ReplyHasDate (c.in-Some.ensures.decision c.self.inside.day)
    (c.replies_have_dates.ensures c.self.inside.board.register c.self.inside.policy c.self.inside.day c.self.inside.who c.args.request.now c.is_whole.ensures.whole)
