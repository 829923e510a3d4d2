use Rattle.std.proofs.Common.{◌∙◌, ◌+◌, arith, ◌++◌, ◌∷◌, [], None, Some, length, ◌<◌, ap, sym}
use Rattle.std.proofs.lemmas.Option.{slice_get_within}
use Rattle.std.proofs.lemmas.Grind.{common_steps}
use Rattle.slot_pool.specs.Cells.{spare}
use Rattle.slot_pool.proofs.Places.{spare_set, cell_there, placed, set_there}
use Rattle.slot_pool.proofs.Stacks.{last_is_vacant, pool_taken, pool_begun}
use Rattle.slot_pool.proofs.Unused.{used_there, set_used, next_is_vacant, set_next}
use Rattle.slot_pool.proofs.pool.Pool.take.Goals as goal

pub index_mut-requires : goal.index_mut-requires
index_mut-requires g c =
    let within = slice_get_within c.self.inside.cells.items c.slot.inside.index None (last_is_vacant _ c.pop.new.self.items c.slot.inside.index (c.in-Some.ensures.items ∙ ap (λ s. c.pop.new.self.items ++ s ∷ []) (sym c.slot.view_is)) c.self.invariant.stack) in
    omega (arith, within, c.self.inside.cells.ok)

pub invariant_of-self : goal.invariant_of-self
invariant_of-self g c =
    pool_taken _ _ c.slot.inside.index c.args.value (c.in-Some.ensures.items ∙ ap (λ s. c.pop.new.self.items ++ s ∷ []) (sym c.slot.view_is)) c.self.invariant (omega (arith, c.in-Some.ensures.capacity))

pub invariant_of-self-then-len-self : goal.invariant_of-self-then-len-self
invariant_of-self-then-len-self g c =
    rw c.push_reserved.ensures.items
    (pool_begun _ c.pop.new.self.items c.args.value c.in-None.ensures.items c.self.invariant (omega (arith, c.if-len-self.true)) (omega arith) (omega (arith, c.in-None.ensures.capacity)))

pub returns-in-Some-clause-vacant : goal.returns-in-Some-clause-vacant
returns-in-Some-clause-vacant g c =
    let vacant = last_is_vacant _ c.pop.new.self.items c.slot.inside.index (c.in-Some.ensures.items ∙ ap (λ s. c.pop.new.self.items ++ s ∷ []) (sym c.slot.view_is)) c.self.invariant.stack in
    cell_there _ _ _ _ _ c.self.view_is c.slot.view_is (used_there c.self.inside.cells.items c.self.inside.room c.slot.inside.index None (slice_get_within c.self.inside.cells.items c.slot.inside.index None vacant) vacant)

pub returns-in-Some-clause-taken : goal.returns-in-Some-clause-taken
returns-in-Some-clause-taken g c =
    let vacant = last_is_vacant _ c.pop.new.self.items c.slot.inside.index (c.in-Some.ensures.items ∙ ap (λ s. c.pop.new.self.items ++ s ∷ []) (sym c.slot.view_is)) c.self.invariant.stack in
    set_used c.self.inside.cells.items c.self.inside.room c.slot.inside.index (Some c.args.value) (slice_get_within _ _ _ vacant)
    ∙ set_there _ _ _ _ (Some c.args.value) c.self.view_is c.slot.view_is

pub returns-in-Some-clause-placed : goal.returns-in-Some-clause-placed
returns-in-Some-clause-placed g c =
    placed c.args.self.now c.in-Some.slot c.args.value (returns-in-Some-clause-vacant g c) _ (returns-in-Some-clause-taken g c)

pub returns-in-Some-clause-count : goal.returns-in-Some-clause-count
returns-in-Some-clause-count g c =
    let count = spare_set c.args.self.now c.in-Some.slot None (Some c.args.value) (returns-in-Some-clause-vacant g c) in
    ap (λ cells. spare cells + 1) (returns-in-Some-clause-taken g c) ∙ omega (arith, count)

pub returns-in-None-clause-vacant : goal.returns-in-None-clause-vacant
returns-in-None-clause-vacant g c =
    let below : length c.self.inside.cells.items < c.self.inside.room = omega (arith, c.if-len-self.true) in
    cell_there _ _ _ _ _ c.self.view_is (omega (arith, c.len-index.ensures)) (next_is_vacant c.self.inside.cells.items c.self.inside.room below)

pub returns-in-None-clause-taken : goal.returns-in-None-clause-taken
returns-in-None-clause-taken g c =
    let below : length c.self.inside.cells.items < c.self.inside.room = omega (arith, c.if-len-self.true) in
    rw c.push_reserved.ensures.items
    (set_next c.self.inside.cells.items c.self.inside.room below (Some c.args.value) ∙ set_there _ _ _ _ (Some c.args.value) c.self.view_is (omega (arith, c.len-index.ensures)))

pub returns-in-None-clause-placed : goal.returns-in-None-clause-placed
returns-in-None-clause-placed g c =
    placed c.args.self.now c.len-index.result c.args.value (returns-in-None-clause-vacant g c) _ (returns-in-None-clause-taken g c)

pub returns-in-None-2-clause-vacant : goal.returns-in-None-2-clause-vacant
returns-in-None-2-clause-vacant g c = cc

pub invariant_of-self-else-len-self : goal.invariant_of-self-else-len-self
invariant_of-self-else-len-self g c = grind (arith, common_steps)

pub returns-in-None-clause-count : goal.returns-in-None-clause-count
returns-in-None-clause-count g c = grind (arith, common_steps)

pub returns-in-None-2-clause-full : goal.returns-in-None-2-clause-full
returns-in-None-2-clause-full g c = grind (arith, common_steps)
