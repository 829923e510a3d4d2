use Rattle.std.proofs.Common.{◌≡◌, ap, ◌∙◌}
use Rattle.left_right.specs.Sides.{view}
use Rattle.snapshot_pub.specs.Shown.{PlainShown}
use Rattle.snapshot_pub.proofs.Rules.{looks, prefix_self}
use Rattle.snapshot_pub.proofs.Looking.{where_some, looked, seen_now, pass_now}
use Rattle.snapshot_pub.proofs.pass.Pass.learn.Goals as goal

pub enter-requires : goal.enter-requires
enter-requires c = where_some _ c.self.inside.edge.reader (λ r. looks r.place.id (view r.place))

pub invariant_of-self-then-not-begins : goal.invariant_of-self-then-not-begins
invariant_of-self-then-not-begins c =
    let x = c.in-Some.reading.part.value in
    let l = looked (λ r. view r.place) c.self.inside.edge.reader c.leave.new.self.reader c.self.inside.rooms c.self.inside.front x (view c.in-Some.reading.place) c.self.invariant.1 c.in-Some.ensures.saw c.leave.ensures.view in
    (c.self.invariant.0, rw c.refuse.ensures.reader l.before)

pub returns-then-not-begins-clause-seen : goal.returns-then-not-begins-clause-seen
returns-then-not-begins-clause-seen c = rw (← c.self.view_is) (prefix_self c.self.inside.front.entries)

pub invariant_of-self-2 : goal.invariant_of-self-2
invariant_of-self-2 c =
    let x = c.in-Some.reading.part.value in
    let l = looked (λ r. view r.place) c.self.inside.edge.reader c.leave.new.self.reader c.self.inside.rooms c.self.inside.front x (view c.in-Some.reading.place) c.self.invariant.1 c.in-Some.ensures.saw c.leave.ensures.view in
    let front : c.again-front.result ≡ x.front = c.again-front.ensures ∙ ap (λ (s : PlainShown). s.front) (c.behind-reading.view_is ∙ c.get.ensures) in
    pass_now _ _ _ _ _ c.again-front.result l front

pub returns-clause-seen : goal.returns-clause-seen
returns-clause-seen c =
    let x = c.in-Some.reading.part.value in
    let l = looked (λ r. view r.place) c.self.inside.edge.reader c.leave.new.self.reader c.self.inside.rooms c.self.inside.front x (view c.in-Some.reading.place) c.self.invariant.1 c.in-Some.ensures.saw c.leave.ensures.view in
    let front : c.again-front.result ≡ x.front = c.again-front.ensures ∙ ap (λ (s : PlainShown). s.front) (c.behind-reading.view_is ∙ c.get.ensures) in
    rw (← c.self.view_is) (seen_now _ _ _ _ _ c.again-front.result l front)
