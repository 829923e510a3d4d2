use Rattle.std.proofs.Common.{◌∙◌, subst, arith}
use Rattle.std.proofs.lemmas.Grind.{common_steps}
use Rattle.reg_entry.specs.declared.rooms.Rooms.{Rooms}
use Rattle.hall.specs.Turn.{Terms, terms}
use Rattle.hall.specs.Answer.{AnswersGiven}
use Rattle.hall.proofs.Serving.{broken_off, one_more, fewer_left, given_begins}
use Rattle.hall.proofs.connection.answer_messages.Goals as goal

pub returns-in_err-answer_message-clause-served : goal.returns-in_err-answer_message-clause-served
returns-in_err-answer_message-clause-served g c before stands =
    let way = c.messages.invariant.served before stands in
    let after = c.answer_message.ensures.answered way.0 way.1 in
    let over : Rooms → Terms =
    λ rooms. terms rooms c.args.policy.now (g.C.Clock.states c.args.clock.now) g.B.Backend.goes_on g.B.Backend.may_fail in
    let given : AnswersGiven (over (g.B.Backend.rooms c.args.backend.now)) c.next.new.self.given way.0 c.answer_message.result
    (g.L.Sink.written c.messages.link) (g.L.Sink.written c.answer_message.new.link) after.0 =
    subst (λ rooms. AnswersGiven (over rooms) c.next.new.self.given way.0 c.answer_message.result
    (g.L.Sink.written c.messages.link) (g.L.Sink.written c.answer_message.new.link) after.0) c.messages.invariant.rooms after.2 in (
      after.0,
      after.1,
      broken_off (over (g.B.Backend.rooms c.args.backend.now)) before way.0 after.0 c.args.framer.now.bytes c.messages.framer.bytes
          c.next.new.self.bytes (g.L.Sink.written c.args.link.now) (g.L.Sink.written c.messages.link) (g.L.Sink.written c.answer_message.new.link)
          c.next.new.self.given c.answer_message.result c.in_err-answer_message.field-0.0 c.from_residual.result c.args.ended way.2.0 way.2.1
          (given_begins c.in-Message.message c.messages.framer c.next.new.self c.in-Message.ensures.step) given c.in_err-answer_message.was
          c.from_residual.ensures.0,
    )

pub returns-then-branch-clause-served : goal.returns-then-branch-clause-served
returns-then-branch-clause-served g c before stands =
    let way = c.messages.invariant.served before stands in
    let after = c.answer_message.ensures.answered way.0 way.1 in
    let over : Rooms → Terms =
    λ rooms. terms rooms c.args.policy.now (g.C.Clock.states c.args.clock.now) g.B.Backend.goes_on g.B.Backend.may_fail in
    let given : AnswersGiven (over (g.B.Backend.rooms c.args.backend.now)) c.next.new.self.given way.0 c.answer_message.result
    (g.L.Sink.written c.messages.link) (g.L.Sink.written c.answer_message.new.link) after.0 =
    subst (λ rooms. AnswersGiven (over rooms) c.next.new.self.given way.0 c.answer_message.result
    (g.L.Sink.written c.messages.link) (g.L.Sink.written c.answer_message.new.link) after.0) c.messages.invariant.rooms after.2 in
    let more = one_more (over (g.B.Backend.rooms c.args.backend.now)) before way.0 after.0 c.args.framer.now.bytes c.messages.framer.bytes
    c.next.new.self.bytes (g.L.Sink.written c.args.link.now) (g.L.Sink.written c.messages.link) (g.L.Sink.written c.answer_message.new.link)
    c.next.new.self.given c.answer_message.result c.in_ok-answer_message.field-0 way.2.0 way.2.1
    (given_begins c.in-Message.message c.messages.framer c.next.new.self c.in-Message.ensures.step) given c.in_ok-answer_message.was in
    (after.0, after.1, (more.0, more.1.served, (more.1.last_is ∙ c.if-branch.true, more.1.written_is)))

pub messages-smaller : goal.messages-smaller
messages-smaller g c =
    fewer_left c.messages.framer.bytes c.next.new.self.bytes c.next.new.self.given
    (given_begins c.in-Message.message c.messages.framer c.next.new.self c.in-Message.ensures.step)

pub messages-preserved : goal.messages-preserved
messages-preserved g c = record {
  rooms = c.answer_message.ensures.rooms ∙ c.messages.invariant.rooms;
  reference = c.answer_message.ensures.reference ∙ c.messages.invariant.reference;
  faults = c.in_ok-answer_message.ensures.cause.same ∙ c.messages.invariant.faults;
  reading = c.answer_message.ensures.reading ∙ c.messages.invariant.reading;
  end = λ ended. c.answer_message.ensures.end (c.messages.invariant.end ended);
  served = λ before stands.
      let way = c.messages.invariant.served before stands in
      let after = c.answer_message.ensures.answered way.0 way.1 in
      let over : Rooms → Terms =
      λ rooms. terms rooms c.args.policy.now (g.C.Clock.states c.args.clock.now) g.B.Backend.goes_on g.B.Backend.may_fail in
      let given : AnswersGiven (over (g.B.Backend.rooms c.args.backend.now)) c.next.new.self.given way.0 c.answer_message.result
      (g.L.Sink.written c.messages.link) (g.L.Sink.written c.answer_message.new.link) after.0 =
      subst (λ rooms. AnswersGiven (over rooms) c.next.new.self.given way.0 c.answer_message.result
      (g.L.Sink.written c.messages.link) (g.L.Sink.written c.answer_message.new.link) after.0) c.messages.invariant.rooms after.2 in
      let more = one_more (over (g.B.Backend.rooms c.args.backend.now)) before way.0 after.0 c.args.framer.now.bytes c.messages.framer.bytes
      c.next.new.self.bytes (g.L.Sink.written c.args.link.now) (g.L.Sink.written c.messages.link) (g.L.Sink.written c.answer_message.new.link)
      c.next.new.self.given c.answer_message.result c.in_ok-answer_message.field-0 way.2.0 way.2.1
      (given_begins c.in-Message.message c.messages.framer c.next.new.self c.in-Message.ensures.step) given c.in_ok-answer_message.was in (
        after.0,
        after.1,
        (
          more.0,
          record {
            served = more.1.served;
            goes = more.1.last_is ∙ c.if-branch.false;
            written_is = more.1.written_is;
          },
        ),
      );
}

pub messages-init : goal.messages-init
messages-init g c = grind (arith, common_steps)

pub returns-in-Bad-clause-served : goal.returns-in-Bad-clause-served
returns-in-Bad-clause-served g c = grind (arith, common_steps)

pub returns-in-End-clause-served : goal.returns-in-End-clause-served
returns-in-End-clause-served g c = grind (arith, common_steps)

pub answer_message-requires-clause-lengths : goal.answer_message-requires-clause-lengths
answer_message-requires-clause-lengths g c = grind (arith, common_steps)

pub returns-then-branch-clause-cause : goal.returns-then-branch-clause-cause
returns-then-branch-clause-cause g c = grind (arith, common_steps)
