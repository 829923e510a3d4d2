use Rattle.std.proofs.Common.{refl, subst}
use Rattle.hall.specs.Desk.{seen_by, among_others}
use Rattle.hall.specs.Conversation.{HasConversation, known}
use Rattle.hall.proofs.Rising.{begins_prefix}
use Rattle.hall.proofs.connection.serve_desk.Goals as goal

pub returns-clause-conversation : goal.returns-clause-conversation
returns-clause-conversation g c =
    let after = c.serve-end.ensures.conversation (seen_by c.args.backend.now.pass.now) refl in
    subst
    (λ s. HasConversation (among_others c.args.backend.now.pass.now.rooms c.args.policy.now (g.C.Clock.states c.args.clock.now)) (seen_by c.args.backend.now.pass.now)
    (known (g.L.Source.taken c.args.link.now) (g.L.Source.left c.args.link.now) (g.L.Sink.written c.args.link.now)) c.serve-end.result
    (g.L.Source.has_ended c.serve-end.new.link)
    (known (g.L.Source.taken c.serve-end.new.link) (g.L.Source.left c.serve-end.new.link) (g.L.Sink.written c.serve-end.new.link)) s)
    after.1 after.2

pub returns-clause-seen : goal.returns-clause-seen
returns-clause-seen g c = begins_prefix _ _ (returns-clause-conversation g c).3.kept
