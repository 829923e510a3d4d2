use Rattle.std.proofs.Common.{◌∙◌, Some, None, ap, sym, refl, arith}
use Rattle.std.proofs.lemmas.Grind.{elements}
use Rattle.slot_pool.specs.Cells.{spare}
use Rattle.slot_pool.proofs.Places.{spare_set, cell_read, cell_there, held_there, set_there, live_within}
use Rattle.slot_pool.proofs.Stacks.{pool_given, stack_has_room}
use Rattle.slot_pool.proofs.Unused.{live_by_view, used_there, set_used}
use Rattle.slot_pool.proofs.pool.Pool.give.Goals as goal

pub unreachable-requires-in-Err : goal.unreachable-requires-in-Err
unreachable-requires-in-Err g c =
    let live = live_by_view c.self.inside.cells.items c.self.inside.room c.slot.inside.index _ _ c.self.view_is c.slot.view_is c.requires in
    let cell = cell_read _ _ c.slot.inside.index _ _ _ refl refl live c.index_mut.ensures.value (sym c.in-Some.ensures.value) in
    let room = stack_has_room _ _ c.self.invariant.stack cell in
    absurd (omega (arith, room, c.in-Err.ensures.full))

pub invariant_of-self : goal.invariant_of-self
invariant_of-self g c =
    let live = live_by_view c.self.inside.cells.items c.self.inside.room c.slot.inside.index _ _ c.self.view_is c.slot.view_is c.requires in
    let cell = cell_read _ _ c.slot.inside.index _ _ _ refl refl live c.index_mut.ensures.value (sym c.in-Some.ensures.value) in
    rw (c.in-Some.ensures.after, c.in-Ok.ensures.items) (pool_given _ _ c.self.invariant cell c.in-Ok.ensures.capacity)

pub returns-clause-value : goal.returns-clause-value
returns-clause-value g c =
    let live = live_by_view c.self.inside.cells.items c.self.inside.room c.slot.inside.index _ _ c.self.view_is c.slot.view_is c.requires in
    let cell = cell_read _ _ c.slot.inside.index _ _ _ refl refl live c.index_mut.ensures.value (sym c.in-Some.ensures.value) in
    held_there _ _ _ _ _ c.self.view_is c.slot.view_is (used_there c.self.inside.cells.items c.self.inside.room c.slot.inside.index _ (live_within c.self.inside.cells.items c.slot.inside.index live) cell)

pub returns-clause-given : goal.returns-clause-given
returns-clause-given g c =
    let live = live_by_view c.self.inside.cells.items c.self.inside.room c.slot.inside.index _ _ c.self.view_is c.slot.view_is c.requires in
    rw c.in-Some.ensures.after
    (set_used c.self.inside.cells.items c.self.inside.room c.slot.inside.index None (live_within _ _ live) ∙ set_there _ _ _ _ None c.self.view_is c.slot.view_is)

pub returns-clause-count : goal.returns-clause-count
returns-clause-count g c =
    let live = live_by_view c.self.inside.cells.items c.self.inside.room c.slot.inside.index _ _ c.self.view_is c.slot.view_is c.requires in
    let cell = cell_read _ _ c.slot.inside.index _ _ _ refl refl live c.index_mut.ensures.value (sym c.in-Some.ensures.value) in
    let there = cell_there _ _ _ _ _ c.self.view_is c.slot.view_is (used_there c.self.inside.cells.items c.self.inside.room c.slot.inside.index _ (live_within c.self.inside.cells.items c.slot.inside.index live) cell) in
    let count = spare_set c.args.self.now c.args.slot.now (Some c.in-Some.value) None there in
    ap spare (returns-clause-given g c) ∙ omega (arith, count)

pub index_mut-requires : goal.index_mut-requires
index_mut-requires g c = grind (arith, elements)

pub unreachable-requires : goal.unreachable-requires
unreachable-requires g c = grind (arith, elements)
