use Rattle.std.proofs.Common.{◌∙◌, ◌<◌, ◌++◌, ◌∷◌, [], length, ap, subst, sym, arith}
use Rattle.holder_book.proofs.Numbers.{count_placed, placed_more, places_more}
use Rattle.holder_book.proofs.numbered.Numbered.push.Goals as goal

pub unreachable-requires : goal.unreachable-requires
unreachable-requires c =
    let below = subst (λ b. length b.holders < b.room) (sym c.self.view_is) c.requires in
    absurd (omega (arith, below, count_placed c.self.invariant, c.self.invariant.left, c.in-Err.ensures.full))

pub invariant_of-self : goal.invariant_of-self
invariant_of-self c =
    let taken = c.in-Ok.ensures.taken in
    rw (taken, c.push_reserved.ensures.items)
    (places_more c.self.inside.pool c.self.inside.places.items c.in-Ok.slot (c.args.holder.now, c.args.day) c.in-Ok.ensures.vacant c.self.invariant
    (rw (← taken) c.in-Ok.ensures.count) (omega (arith, c.push_reserved.ensures.capacity)))

pub returns-clause-holders : goal.returns-clause-holders
returns-clause-holders c =
    rw (c.in-Ok.ensures.taken, c.push_reserved.ensures.items)
    (placed_more c.self.inside.pool c.self.inside.places.items c.in-Ok.slot (c.args.holder.now, c.args.day) c.in-Ok.ensures.vacant c.self.invariant
    ∙ ap (λ b. b.holders ++ (c.args.holder.now, c.args.day) ∷ []) c.self.view_is)
