use Rattle.std.proofs.Common.{◌≡◌, ◌+◌, ap, ◌∙◌, sym, subst, drop, arith}
use Rattle.std.proofs.lemmas.Grind.{common_steps}
use Rattle.wire_http.specs.declared.message.Step.{Step}
use Rattle.wire_http.specs.Step.{IsFirst, IsFirstMessage}
use Rattle.wire_http.specs.Framer.{framer_of, Takes}
use Rattle.wire_http.proofs.Steps.{unsearched}
use Rattle.wire_http.proofs.Taken.{gives_message, message_within}
use Rattle.wire_http.proofs.framer.Framer.next.Goals as goal

pub invariant_of-self : goal.invariant_of-self
invariant_of-self c =
    let f = c.self.inside in
    let at = f.at + f.given.head + f.given.body in
    let left : c.from_there.result.now ≡ drop at f.buffer.items = c.from_there.ensures ∙ ap (drop at) c.deref.ensures.value in
    let first : IsFirstMessage c.in-Message.message c.from_there.result.now =
    subst (λ (s : Step). IsFirst s c.from_there.result.now c.args.ended) c.in-Message.is c.first_step-found.ensures.step in
    record {
      within = message_within f.buffer.items at c.in-Message.message c.self.invariant.within (subst (IsFirstMessage c.in-Message.message) left first);
      fits = c.self.invariant.fits;
      room = c.self.invariant.room;
      searched = unsearched _;
    }

pub returns-in-Message-clause-step : goal.returns-in-Message-clause-step
returns-in-Message-clause-step c =
    let f = c.self.inside in
    let at = f.at + f.given.head + f.given.body in
    let left : c.from_there.result.now ≡ drop at f.buffer.items = c.from_there.ensures ∙ ap (drop at) c.deref.ensures.value in
    let first : IsFirstMessage c.in-Message.message c.from_there.result.now =
    subst (λ (s : Step). IsFirst s c.from_there.result.now c.args.ended) c.in-Message.is c.first_step-found.ensures.step in
    subst (λ (s : Step). Takes s c.args.self.now c.args.ended (framer_of f.buffer.items at c.in-Message.message)) (sym c.in-Message.is)
    (gives_message f.buffer.items f.at f.given c.in-Message.message c.args.self.now c.self.view_is (subst (IsFirstMessage c.in-Message.message) left first))

pub first_step-found-requires : goal.first_step-found-requires
first_step-found-requires c = grind (arith, common_steps)

pub returns-in-More-clause-step : goal.returns-in-More-clause-step
returns-in-More-clause-step c = grind (arith, common_steps)

pub returns-in-More-clause-spare : goal.returns-in-More-clause-spare
returns-in-More-clause-spare c = grind (arith, common_steps)

pub returns-else-at-gt0-clause-spare : goal.returns-else-at-gt0-clause-spare
returns-else-at-gt0-clause-spare c = grind (arith, common_steps)

pub returns-clause-step : goal.returns-clause-step
returns-clause-step c = grind (arith, common_steps)
