use Rattle.std.proofs.Common.{◌≡◌, ap, ◌∙◌, arith}
use Rattle.std.proofs.lemmas.Grind.{moves, pieces}
use Rattle.left_right.specs.Sides.{view}
use Rattle.snapshot_pub.specs.Shown.{PlainShown}
use Rattle.snapshot_pub.proofs.Rules.{looks}
use Rattle.snapshot_pub.proofs.Looking.{where_some, looked, seen_now, pass_now}
use Rattle.snapshot_pub.proofs.pass.Pass.look.Goals as goal

pub enter-requires : goal.enter-requires
enter-requires g c = where_some _ c.self.inside.edge.reader (λ r. looks r.place.id (view r.place))

pub invariant_of-self-2 : goal.invariant_of-self-2
invariant_of-self-2 g c =
    let x = c.in-Some.reading.part.value in
    let l = looked (λ r. view r.place) c.self.inside.edge.reader c.leave.new.self.reader c.self.inside.rooms c.self.inside.front x (view c.in-Some.reading.place) c.self.invariant.1 c.in-Some.ensures.saw c.leave.ensures.view in
    let front : c.again.result ≡ x.front = c.again.ensures ∙ ap (λ (s : PlainShown). s.front) (c.shown.view_is ∙ c.get-shown.ensures) in
    pass_now _ _ _ _ _ c.again.result l front

pub returns-clause-seen : goal.returns-clause-seen
returns-clause-seen g c =
    let x = c.in-Some.reading.part.value in
    let l = looked (λ r. view r.place) c.self.inside.edge.reader c.leave.new.self.reader c.self.inside.rooms c.self.inside.front x (view c.in-Some.reading.place) c.self.invariant.1 c.in-Some.ensures.saw c.leave.ensures.view in
    let front : c.again.result ≡ x.front = c.again.ensures ∙ ap (λ (s : PlainShown). s.front) (c.shown.view_is ∙ c.get-shown.ensures) in
    rw (← c.self.view_is) (seen_now _ _ _ _ _ c.again.result l front)

pub returns-in_default-clause-open : goal.returns-in_default-clause-open
returns-in_default-clause-open g c = grind (arith, moves)

pub returns-clause-answer : goal.returns-clause-answer
returns-clause-answer g c = search (pieces, arith)

pub returns-clause-open : goal.returns-clause-open
returns-clause-open g c = grind (arith, moves)

pub returns-clause-same : goal.returns-clause-same
returns-clause-same g c = search (pieces, arith)
