use Rattle.std.proofs.Common.{◌≡◌, ◌∙◌, ℕ, List, [], Option, true, false, Ok, refl, sym, ap, ap₂, subst, append-nil, true≢false, arith}
use Rattle.std.proofs.lemmas.Grind.{common_steps}
use Rattle.reg_entry.specs.declared.rooms.Rooms.{Rooms}
use Rattle.wire_http.specs.declared.message.ConnEnd.TheVariants.{WriteFault}
use Rattle.wire_http.specs.Messages.{StandsBehind}
use Rattle.wire_http.specs.Messages.Behind.{Unfinished}
use Rattle.hall.specs.declared.connection.Pause.TheVariants.{More}
use Rattle.hall.specs.Turn.{Terms, terms}
use Rattle.hall.specs.Receive.{HasReceived}
use Rattle.hall.specs.Pause.{HasServed}
use Rattle.hall.specs.Conversation.{Known, known, HasConversation}
use Rattle.hall.proofs.Ending.{HasTalked, not_yet, talk_received, read_failed, talk_closes, talk_breaks, wants_more, same_reading}
use Rattle.hall.proofs.connection.serve.Goals as goal

pub pieces-init : goal.pieces-init
pieces-init g c = record {
  rooms = refl;
  reference = refl;
  faults = refl;
  talked = λ before stands. (
    before,
    stands,
    subst
        (λ framer. HasTalked (terms (g.B.Backend.rooms c.args.backend.now) c.args.policy.now (g.C.Clock.states c.args.clock.now) g.B.Backend.goes_on g.B.Backend.may_fail)
        before (known (g.L.Source.taken c.args.link.now) (g.L.Source.left c.args.link.now) (g.L.Sink.written c.args.link.now))
        (known (g.L.Source.taken c.args.link.now) (g.L.Source.left c.args.link.now) (g.L.Sink.written c.args.link.now)) framer.bytes before)
        (sym c.clear.ensures)
        (not_yet _ before (known (g.L.Source.taken c.args.link.now) (g.L.Source.left c.args.link.now) (g.L.Sink.written c.args.link.now))),
  );
}

pub returns-in-Err-clause-conversation : goal.returns-in-Err-clause-conversation
returns-in-Err-clause-conversation g c before stands =
    let over : Rooms → Terms =
    λ rooms. terms rooms c.args.policy.now (g.C.Clock.states c.args.clock.now) g.B.Backend.goes_on g.B.Backend.may_fail in
    let t : Terms = over (g.B.Backend.rooms c.args.backend.now) in
    let old : Known = known (g.L.Source.taken c.args.link.now) (g.L.Source.left c.args.link.now) (g.L.Sink.written c.args.link.now) in
    let then_ : Known = known (g.L.Source.taken c.pieces.link) (g.L.Source.left c.pieces.link) (g.L.Sink.written c.pieces.link) in
    let way = c.pieces.invariant.talked before stands in
    let after = c.answer_messages.ensures.served way.0 way.1 in
    let written : Option (List ℕ) = g.L.Sink.written c.answer_messages.new.link in
    let served : HasServed t way.0 c.answer_messages.result c.pieces.framer.bytes c.answer_messages.new.framer.bytes false (g.L.Sink.written c.pieces.link) written after.0 =
    subst (λ rooms. HasServed (over rooms) way.0 c.answer_messages.result c.pieces.framer.bytes c.answer_messages.new.framer.bytes false (g.L.Sink.written c.pieces.link) written after.0)
    c.pieces.invariant.rooms after.2 in
    let same : known (g.L.Source.taken c.answer_messages.new.link) (g.L.Source.left c.answer_messages.new.link) written
    ≡ known (g.L.Source.taken c.pieces.link) (g.L.Source.left c.pieces.link) written =
    same_reading _ _ _ _ _ _ written c.answer_messages.ensures.reading in (
      after.0,
      after.1,
      subst
          (λ k. HasConversation t before old WriteFault (g.L.Source.has_ended c.answer_messages.new.link) k after.0) (sym same)
          (talk_breaks t g.B.Backend.keeps_entries before way.0 after.0 old then_ c.pieces.framer.bytes c.answer_messages.new.framer.bytes false written c.answer_messages.result c.in-Err.field-0
          (g.L.Source.has_ended c.answer_messages.new.link) way.2 c.in-Err.is served),
    )

pub returns-then-not-wants_more-clause-conversation : goal.returns-then-not-wants_more-clause-conversation
returns-then-not-wants_more-clause-conversation g c before stands =
    let over : Rooms → Terms =
    λ rooms. terms rooms c.args.policy.now (g.C.Clock.states c.args.clock.now) g.B.Backend.goes_on g.B.Backend.may_fail in
    let t : Terms = over (g.B.Backend.rooms c.args.backend.now) in
    let old : Known = known (g.L.Source.taken c.args.link.now) (g.L.Source.left c.args.link.now) (g.L.Sink.written c.args.link.now) in
    let then_ : Known = known (g.L.Source.taken c.pieces.link) (g.L.Source.left c.pieces.link) (g.L.Sink.written c.pieces.link) in
    let way = c.pieces.invariant.talked before stands in
    let after = c.answer_messages.ensures.served way.0 way.1 in
    let written : Option (List ℕ) = g.L.Sink.written c.answer_messages.new.link in
    let served : HasServed t way.0 c.answer_messages.result c.pieces.framer.bytes c.answer_messages.new.framer.bytes false (g.L.Sink.written c.pieces.link) written after.0 =
    subst (λ rooms. HasServed (over rooms) way.0 c.answer_messages.result c.pieces.framer.bytes c.answer_messages.new.framer.bytes false (g.L.Sink.written c.pieces.link) written after.0)
    c.pieces.invariant.rooms after.2 in
    let same : known (g.L.Source.taken c.answer_messages.new.link) (g.L.Source.left c.answer_messages.new.link) written
    ≡ known (g.L.Source.taken c.pieces.link) (g.L.Source.left c.pieces.link) written =
    same_reading _ _ _ _ _ _ written c.answer_messages.ensures.reading in
    let w1 : Option (List ℕ) = g.L.Sink.written c.close.new.link in (
      after.0,
      after.1,
      subst
          (λ k. HasConversation t before old c.close.result (g.L.Source.has_ended c.close.new.link) k after.0)
          (sym (ap₂ (λ x y. known x y w1) c.close.ensures.taken c.close.ensures.left ∙ same_reading _ _ _ _ _ _ w1 c.answer_messages.ensures.reading))
          (talk_closes t g.B.Backend.keeps_entries before way.0 after.0 old then_ c.pieces.framer.bytes c.answer_messages.new.framer.bytes false written w1 c.answer_messages.result
          c.in-Ok.pause c.close.result (g.L.Source.has_ended c.close.new.link) way.2 c.in-Ok.is served (λ ended. absurd (true≢false (sym ended)))
          (c.wants_more.ensures.other c.if-not-wants_more.true) c.close.ensures.closed),
    )

pub returns-in-Err-receive-clause-conversation : goal.returns-in-Err-receive-clause-conversation
returns-in-Err-receive-clause-conversation g c before stands =
    let over : Rooms → Terms =
    λ rooms. terms rooms c.args.policy.now (g.C.Clock.states c.args.clock.now) g.B.Backend.goes_on g.B.Backend.may_fail in
    let t : Terms = over (g.B.Backend.rooms c.args.backend.now) in
    let old : Known = known (g.L.Source.taken c.args.link.now) (g.L.Source.left c.args.link.now) (g.L.Sink.written c.args.link.now) in
    let then_ : Known = known (g.L.Source.taken c.pieces.link) (g.L.Source.left c.pieces.link) (g.L.Sink.written c.pieces.link) in
    let way = c.pieces.invariant.talked before stands in
    let after = c.answer_messages.ensures.served way.0 way.1 in
    let written : Option (List ℕ) = g.L.Sink.written c.answer_messages.new.link in
    let served : HasServed t way.0 c.answer_messages.result c.pieces.framer.bytes c.answer_messages.new.framer.bytes false (g.L.Sink.written c.pieces.link) written after.0 =
    subst (λ rooms. HasServed (over rooms) way.0 c.answer_messages.result c.pieces.framer.bytes c.answer_messages.new.framer.bytes false (g.L.Sink.written c.pieces.link) written after.0)
    c.pieces.invariant.rooms after.2 in
    let same : known (g.L.Source.taken c.answer_messages.new.link) (g.L.Source.left c.answer_messages.new.link) written
    ≡ known (g.L.Source.taken c.pieces.link) (g.L.Source.left c.pieces.link) written =
    same_reading _ _ _ _ _ _ written c.answer_messages.ensures.reading in
    let is : c.answer_messages.result ≡ Ok More = c.in-Ok.is ∙ ap Ok (c.wants_more.ensures.more c.if-not-wants_more.false) in
    let comes = subst
    (λ r. HasReceived r (g.L.Source.taken c.answer_messages.new.link) (g.L.Source.left c.answer_messages.new.link) c.answer_messages.new.framer.bytes
    (g.L.Source.taken c.receive.new.link) (g.L.Source.left c.receive.new.link) c.receive.new.framer.bytes)
    (c.in-Err-receive.is) c.receive.ensures.received in
    let talked : HasTalked t before old (known (g.L.Source.taken c.receive.new.link) (g.L.Source.left c.receive.new.link) (g.L.Sink.written c.receive.new.link))
    c.receive.new.framer.bytes after.0 =
    talk_received t before way.0 after.0 old then_ c.pieces.framer.bytes c.answer_messages.new.framer.bytes
    (g.L.Source.taken c.answer_messages.new.link) (g.L.Source.left c.answer_messages.new.link) written (g.L.Sink.written c.receive.new.link)
    (g.L.Source.taken c.receive.new.link) (g.L.Source.left c.receive.new.link) c.receive.new.framer.bytes [] c.answer_messages.result
    way.2 is served same comes c.receive.ensures.written in
    let nothing : c.answer_messages.new.framer.bytes ≡ c.receive.new.framer.bytes =
    sym (append-nil c.answer_messages.new.framer.bytes) ∙ sym comes.bytes_are in (
      after.0,
      after.1,
      read_failed t g.B.Backend.keeps_entries before after.0 old
          (known (g.L.Source.taken c.receive.new.link) (g.L.Source.left c.receive.new.link) (g.L.Sink.written c.receive.new.link)) c.receive.new.framer.bytes
          (g.L.Source.has_ended c.receive.new.link) talked
          (subst (λ bytes. StandsBehind bytes false Unfinished) nothing
          (wants_more t way.0 after.0 c.pieces.framer.bytes c.answer_messages.new.framer.bytes false (g.L.Sink.written c.pieces.link) written c.answer_messages.result is served)),
    )

pub pieces-preserved : goal.pieces-preserved
pieces-preserved g c = record {
  rooms = c.answer_messages.ensures.rooms ∙ c.pieces.invariant.rooms;
  reference = c.answer_messages.ensures.reference ∙ c.pieces.invariant.reference;
  faults = c.in-Ok-true.ensures.cause.same ∙ c.in-Ok.ensures.cause.same ∙ c.pieces.invariant.faults;
  talked = λ before stands.
      let over : Rooms → Terms =
      λ rooms. terms rooms c.args.policy.now (g.C.Clock.states c.args.clock.now) g.B.Backend.goes_on g.B.Backend.may_fail in
      let t : Terms = over (g.B.Backend.rooms c.args.backend.now) in
      let old : Known = known (g.L.Source.taken c.args.link.now) (g.L.Source.left c.args.link.now) (g.L.Sink.written c.args.link.now) in
      let then_ : Known = known (g.L.Source.taken c.pieces.link) (g.L.Source.left c.pieces.link) (g.L.Sink.written c.pieces.link) in
      let way = c.pieces.invariant.talked before stands in
      let after = c.answer_messages.ensures.served way.0 way.1 in
      let written : Option (List ℕ) = g.L.Sink.written c.answer_messages.new.link in
      let served : HasServed t way.0 c.answer_messages.result c.pieces.framer.bytes c.answer_messages.new.framer.bytes false (g.L.Sink.written c.pieces.link) written after.0 =
      subst (λ rooms. HasServed (over rooms) way.0 c.answer_messages.result c.pieces.framer.bytes c.answer_messages.new.framer.bytes false (g.L.Sink.written c.pieces.link) written after.0)
      c.pieces.invariant.rooms after.2 in
      let same : known (g.L.Source.taken c.answer_messages.new.link) (g.L.Source.left c.answer_messages.new.link) written
      ≡ known (g.L.Source.taken c.pieces.link) (g.L.Source.left c.pieces.link) written =
      same_reading _ _ _ _ _ _ written c.answer_messages.ensures.reading in
      let is : c.answer_messages.result ≡ Ok More = c.in-Ok.is ∙ ap Ok (c.wants_more.ensures.more c.if-not-wants_more.false) in
      let comes = subst
      (λ r. HasReceived r (g.L.Source.taken c.answer_messages.new.link) (g.L.Source.left c.answer_messages.new.link) c.answer_messages.new.framer.bytes
      (g.L.Source.taken c.receive.new.link) (g.L.Source.left c.receive.new.link) c.receive.new.framer.bytes)
      (c.in-Ok-true.is ∙ ap Ok c.in-Ok-true.field-0-test) c.receive.ensures.received in
      let talked : HasTalked t before old (known (g.L.Source.taken c.receive.new.link) (g.L.Source.left c.receive.new.link) (g.L.Sink.written c.receive.new.link))
      c.receive.new.framer.bytes after.0 =
      talk_received t before way.0 after.0 old then_ c.pieces.framer.bytes c.answer_messages.new.framer.bytes
      (g.L.Source.taken c.answer_messages.new.link) (g.L.Source.left c.answer_messages.new.link) written (g.L.Sink.written c.receive.new.link)
      (g.L.Source.taken c.receive.new.link) (g.L.Source.left c.receive.new.link) c.receive.new.framer.bytes comes.0 c.answer_messages.result
      way.2 is served same comes.1 c.receive.ensures.written in
      (after.0, after.1, talked);
}

pub returns-in-Err-answer_messages-clause-conversation : goal.returns-in-Err-answer_messages-clause-conversation
returns-in-Err-answer_messages-clause-conversation g c before stands =
    let over : Rooms → Terms =
    λ rooms. terms rooms c.args.policy.now (g.C.Clock.states c.args.clock.now) g.B.Backend.goes_on g.B.Backend.may_fail in
    let t : Terms = over (g.B.Backend.rooms c.args.backend.now) in
    let old : Known = known (g.L.Source.taken c.args.link.now) (g.L.Source.left c.args.link.now) (g.L.Sink.written c.args.link.now) in
    let then_ : Known = known (g.L.Source.taken c.pieces.link) (g.L.Source.left c.pieces.link) (g.L.Sink.written c.pieces.link) in
    let way = c.pieces.invariant.talked before stands in
    let after = c.answer_messages.ensures.served way.0 way.1 in
    let written : Option (List ℕ) = g.L.Sink.written c.answer_messages.new.link in
    let served : HasServed t way.0 c.answer_messages.result c.pieces.framer.bytes c.answer_messages.new.framer.bytes false (g.L.Sink.written c.pieces.link) written after.0 =
    subst (λ rooms. HasServed (over rooms) way.0 c.answer_messages.result c.pieces.framer.bytes c.answer_messages.new.framer.bytes false (g.L.Sink.written c.pieces.link) written after.0)
    c.pieces.invariant.rooms after.2 in
    let same : known (g.L.Source.taken c.answer_messages.new.link) (g.L.Source.left c.answer_messages.new.link) written
    ≡ known (g.L.Source.taken c.pieces.link) (g.L.Source.left c.pieces.link) written =
    same_reading _ _ _ _ _ _ written c.answer_messages.ensures.reading in
    let is : c.answer_messages.result ≡ Ok More = c.in-Ok.is ∙ ap Ok (c.wants_more.ensures.more c.if-not-wants_more.false) in
    let comes = subst
    (λ r. HasReceived r (g.L.Source.taken c.answer_messages.new.link) (g.L.Source.left c.answer_messages.new.link) c.answer_messages.new.framer.bytes
    (g.L.Source.taken c.receive.new.link) (g.L.Source.left c.receive.new.link) c.receive.new.framer.bytes)
    (c.in-Ok-false.is ∙ ap Ok c.in-Ok-false.field-0-test) c.receive.ensures.received in
    let talked : HasTalked t before old (known (g.L.Source.taken c.receive.new.link) (g.L.Source.left c.receive.new.link) (g.L.Sink.written c.receive.new.link))
    c.receive.new.framer.bytes after.0 =
    talk_received t before way.0 after.0 old then_ c.pieces.framer.bytes c.answer_messages.new.framer.bytes
    (g.L.Source.taken c.answer_messages.new.link) (g.L.Source.left c.answer_messages.new.link) written (g.L.Sink.written c.receive.new.link)
    (g.L.Source.taken c.receive.new.link) (g.L.Source.left c.receive.new.link) c.receive.new.framer.bytes [] c.answer_messages.result
    way.2 is served same comes c.receive.ensures.written in
    let again = c.answer_messages-2.ensures.served after.0 after.1 in
    let now_ : Known = known (g.L.Source.taken c.receive.new.link) (g.L.Source.left c.receive.new.link) (g.L.Sink.written c.receive.new.link) in
    let last : HasServed t after.0 c.answer_messages-2.result c.receive.new.framer.bytes c.answer_messages-2.new.framer.bytes true
    (g.L.Sink.written c.receive.new.link) (g.L.Sink.written c.answer_messages-2.new.link) again.0 =
    subst (λ rooms. HasServed (over rooms) after.0 c.answer_messages-2.result c.receive.new.framer.bytes c.answer_messages-2.new.framer.bytes true
    (g.L.Sink.written c.receive.new.link) (g.L.Sink.written c.answer_messages-2.new.link) again.0)
    (c.answer_messages.ensures.rooms ∙ c.pieces.invariant.rooms) again.2 in
    let w1 : Option (List ℕ) = g.L.Sink.written c.answer_messages-2.new.link in (
      again.0,
      again.1,
      subst
          (λ k. HasConversation t before old WriteFault (g.L.Source.has_ended c.answer_messages-2.new.link) k again.0)
          (sym (same_reading _ _ _ _ _ _ w1 c.answer_messages-2.ensures.reading))
          (talk_breaks t g.B.Backend.keeps_entries before after.0 again.0 old now_ c.receive.new.framer.bytes c.answer_messages-2.new.framer.bytes true w1 c.answer_messages-2.result
          c.in-Err-answer_messages.field-0 (g.L.Source.has_ended c.answer_messages-2.new.link) talked c.in-Err-answer_messages.is last),
    )

pub returns-in-Ok-answer_messages-clause-conversation : goal.returns-in-Ok-answer_messages-clause-conversation
returns-in-Ok-answer_messages-clause-conversation g c before stands =
    let over : Rooms → Terms =
    λ rooms. terms rooms c.args.policy.now (g.C.Clock.states c.args.clock.now) g.B.Backend.goes_on g.B.Backend.may_fail in
    let t : Terms = over (g.B.Backend.rooms c.args.backend.now) in
    let old : Known = known (g.L.Source.taken c.args.link.now) (g.L.Source.left c.args.link.now) (g.L.Sink.written c.args.link.now) in
    let then_ : Known = known (g.L.Source.taken c.pieces.link) (g.L.Source.left c.pieces.link) (g.L.Sink.written c.pieces.link) in
    let way = c.pieces.invariant.talked before stands in
    let after = c.answer_messages.ensures.served way.0 way.1 in
    let written : Option (List ℕ) = g.L.Sink.written c.answer_messages.new.link in
    let served : HasServed t way.0 c.answer_messages.result c.pieces.framer.bytes c.answer_messages.new.framer.bytes false (g.L.Sink.written c.pieces.link) written after.0 =
    subst (λ rooms. HasServed (over rooms) way.0 c.answer_messages.result c.pieces.framer.bytes c.answer_messages.new.framer.bytes false (g.L.Sink.written c.pieces.link) written after.0)
    c.pieces.invariant.rooms after.2 in
    let same : known (g.L.Source.taken c.answer_messages.new.link) (g.L.Source.left c.answer_messages.new.link) written
    ≡ known (g.L.Source.taken c.pieces.link) (g.L.Source.left c.pieces.link) written =
    same_reading _ _ _ _ _ _ written c.answer_messages.ensures.reading in
    let is : c.answer_messages.result ≡ Ok More = c.in-Ok.is ∙ ap Ok (c.wants_more.ensures.more c.if-not-wants_more.false) in
    let comes = subst
    (λ r. HasReceived r (g.L.Source.taken c.answer_messages.new.link) (g.L.Source.left c.answer_messages.new.link) c.answer_messages.new.framer.bytes
    (g.L.Source.taken c.receive.new.link) (g.L.Source.left c.receive.new.link) c.receive.new.framer.bytes)
    (c.in-Ok-false.is ∙ ap Ok c.in-Ok-false.field-0-test) c.receive.ensures.received in
    let talked : HasTalked t before old (known (g.L.Source.taken c.receive.new.link) (g.L.Source.left c.receive.new.link) (g.L.Sink.written c.receive.new.link))
    c.receive.new.framer.bytes after.0 =
    talk_received t before way.0 after.0 old then_ c.pieces.framer.bytes c.answer_messages.new.framer.bytes
    (g.L.Source.taken c.answer_messages.new.link) (g.L.Source.left c.answer_messages.new.link) written (g.L.Sink.written c.receive.new.link)
    (g.L.Source.taken c.receive.new.link) (g.L.Source.left c.receive.new.link) c.receive.new.framer.bytes [] c.answer_messages.result
    way.2 is served same comes c.receive.ensures.written in
    let again = c.answer_messages-2.ensures.served after.0 after.1 in
    let now_ : Known = known (g.L.Source.taken c.receive.new.link) (g.L.Source.left c.receive.new.link) (g.L.Sink.written c.receive.new.link) in
    let last : HasServed t after.0 c.answer_messages-2.result c.receive.new.framer.bytes c.answer_messages-2.new.framer.bytes true
    (g.L.Sink.written c.receive.new.link) (g.L.Sink.written c.answer_messages-2.new.link) again.0 =
    subst (λ rooms. HasServed (over rooms) after.0 c.answer_messages-2.result c.receive.new.framer.bytes c.answer_messages-2.new.framer.bytes true
    (g.L.Sink.written c.receive.new.link) (g.L.Sink.written c.answer_messages-2.new.link) again.0)
    (c.answer_messages.ensures.rooms ∙ c.pieces.invariant.rooms) again.2 in
    let end = c.close-in-Ok-answer_messages in
    let w1 : Option (List ℕ) = g.L.Sink.written c.close-in-Ok-answer_messages.new.link in (
      again.0,
      again.1,
      subst
          (λ k. HasConversation t before old c.close-in-Ok-answer_messages.result (g.L.Source.has_ended c.close-in-Ok-answer_messages.new.link) k again.0)
          (sym (ap₂ (λ x y. known x y w1) c.close-in-Ok-answer_messages.ensures.taken c.close-in-Ok-answer_messages.ensures.left
          ∙ same_reading _ _ _ _ _ _ w1 c.answer_messages-2.ensures.reading))
          (talk_closes t g.B.Backend.keeps_entries before after.0 again.0 old now_ c.receive.new.framer.bytes c.answer_messages-2.new.framer.bytes true
          (g.L.Sink.written c.answer_messages-2.new.link) w1 c.answer_messages-2.result
          c.in-Ok-answer_messages.pause c.close-in-Ok-answer_messages.result (g.L.Source.has_ended c.close-in-Ok-answer_messages.new.link) talked
          c.in-Ok-answer_messages.is last
          (λ ended. c.close-in-Ok-answer_messages.ensures.end (c.answer_messages-2.ensures.end
          (c.receive.ensures.end (c.in-Ok-false.is ∙ ap Ok c.in-Ok-false.field-0-test))))
          (λ more. absurd (true≢false (c.answer_messages-2.ensures.more (c.in-Ok-answer_messages.is ∙ ap Ok more)).1))
          c.close-in-Ok-answer_messages.ensures.closed),
    )

pub returns-in-Err-clause-told : goal.returns-in-Err-clause-told
returns-in-Err-clause-told g c = grind (arith, common_steps)

pub returns-then-not-wants_more-clause-told : goal.returns-then-not-wants_more-clause-told
returns-then-not-wants_more-clause-told g c = grind (arith, common_steps)

pub returns-in-Err-receive-clause-told : goal.returns-in-Err-receive-clause-told
returns-in-Err-receive-clause-told g c = grind (arith, common_steps)

pub returns-in-Err-answer_messages-clause-told : goal.returns-in-Err-answer_messages-clause-told
returns-in-Err-answer_messages-clause-told g c = grind (arith, common_steps)

pub returns-in-Ok-answer_messages-clause-told : goal.returns-in-Ok-answer_messages-clause-told
returns-in-Ok-answer_messages-clause-told g c = grind (arith, common_steps)
