use Rattle.std.proofs.Common.{◌∙◌, map, subst}
use Rattle.link_face.specs.Faults.{HasRisen}
use Rattle.hall.specs.Desk.{among_others}
use Rattle.serve_run.specs.Along.{plain_way}
use Rattle.serve_run.specs.Served.{HasServedConnection, HasServedLine}
use Rattle.serve_run.specs.Back.{plain_end}
use Rattle.serve_run.specs.Service.{pass_of_none}
use Rattle.serve_run.proofs.Both.{AreLeft, all_leave, all_served, both_told, http_leaves, length_by, line_leaves, ok_of, ways_are_lent}
use Rattle.serve_run.proofs.serving.serve_desk.Given.{Over}
use Rattle.serve_run.proofs.serving.serve_desk.Goals as goal

-- what the duties of both doors leave
left : (g : Over) (c : goal.After-take_back-arg-1 g)
    → AreLeft (λ s. plain_end s.connections s.has_failed
    (plain_way (g.G.W.Way.door s.way) (g.G.W.Way.port s.way) (g.G.W.Way.links_left s.way) (g.G.W.Way.lent s.way) (g.G.W.Way.returned s.way) (g.G.W.Way.faults s.way)))
    (λ before end after. HasServedConnection (among_others before.rooms c.args.policy.now (g.C.Clock.states c.args.clock.now)) before end after)
    (λ before end after. HasServedLine c.args.policy.now.registry before end after)
    (pass_of_none g.N.Naming.book g.N.Naming.rooms)
    (map (λ d. plain_way (g.G.W.Way.door d.way) (g.G.W.Way.port d.way) (g.G.W.Way.links_left d.way) (g.G.W.Way.lent d.way) (g.G.W.Way.returned d.way) (g.G.W.Way.faults d.way)) c.in-Ok.ensures.duties.parts)
    (map (λ d. plain_way (g.G.W.Way.door d.way) (g.G.W.Way.port d.way) (g.G.W.Way.links_left d.way) (g.G.W.Way.lent d.way) (g.G.W.Way.returned d.way) (g.G.W.Way.faults d.way)) c.in-Ok-line_duties.ensures.duties.parts)
    c.in_ok-outcomes.outcomes.items
left g c =
    all_leave _ _ _ _ _ _ _ _ _ _ _ _ _ _ _ _ _ _ _ _ _ _ _ _ c.in-Ok.ensures.duties c.in-Ok-line_duties.ensures.duties c.requires.http c.requires.line
    (λ duty served good worked. (served.pass, http_leaves g.C.Clock.states _ _ _ _ _ _ _ _ _ _ _ good.0.0 good.0.1 good.1 worked))
    (λ duty served good worked. (served.pass, line_leaves _ _ _ _ _ _ _ _ _ (good.0 ∙ c.registry.ensures) good.1 worked))
    c.in_ok-append.ensures.items c.in_ok-outcomes.ensures.ends

pub take_back-requires-clause-lent : goal.take_back-requires-clause-lent
take_back-requires-clause-lent g c κs lives =
    ways_are_lent _ _ _ _ _ _ _ _ _ _ _ _ (left g c) c.in-Ok.ensures.duties.given c.in-Ok-line_duties.ensures.duties.given

pub take_back-requires-clause-told : goal.take_back-requires-clause-told
take_back-requires-clause-told g c κs lives =
    both_told _ _ _ _ _ _ _ _ _ _ _ _ (left g c) c.in-Ok.ensures.duties.given c.in-Ok-line_duties.ensures.duties.given

pub returns-clause-served : goal.returns-clause-served
returns-clause-served g c =
    all_served _ g.N.Naming.book g.N.Naming.rooms c.args.policy.now (g.C.Clock.states c.args.clock.now) _ _ _ _ _ _ _ _ _ _ c.take_back.result
    (left g c.before.before) c.in-Ok.ensures.duties.given c.in-Ok-line_duties.ensures.duties.given
    (length_by _ _ _ _ _ _ _ _ _ _ _ c.in-Ok.ensures.duties c.requires.http_workers)
    (length_by _ _ _ _ _ _ _ _ _ _ _ c.in-Ok-line_duties.ensures.duties c.requires.line_workers)
    c.take_back.ensures.served

pub returns-clause-gate_fault : goal.returns-clause-gate_fault
returns-clause-gate_fault g c is =
    subst (λ n. HasRisen n (g.G.Gate.faults c.take_back.new.gate)) (c.in-Ok-line_duties.ensures.duties.given.faults ∙ c.in-Ok.ensures.duties.given.faults)
    (c.take_back.ensures.fault is)

pub returns-clause-gate_told : goal.returns-clause-gate_told
returns-clause-gate_told g c no_gate no_spawn =
    c.take_back.ensures.told (ok_of _ no_gate no_spawn c.take_back.ensures.never)
    ∙ c.in-Ok-line_duties.ensures.duties.given.faults ∙ c.in-Ok.ensures.duties.given.faults

pub returns-clause-spawn_fault : goal.returns-clause-spawn_fault
returns-clause-spawn_fault g c is = c.in_ok-outcomes.ensures.back (c.take_back.ensures.back is)

pub returns-clause-spawn_told : goal.returns-clause-spawn_told
returns-clause-spawn_told g c isnt = c.in_ok-outcomes.ensures.same (c.take_back.ensures.worked isnt)
