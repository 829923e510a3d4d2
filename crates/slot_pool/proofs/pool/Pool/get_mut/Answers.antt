use Rattle.std.proofs.Common.{◌∙◌, refl, Some, arith}
use Rattle.std.proofs.lemmas.Grind.{elements}
use Rattle.slot_pool.proofs.Places.{cell_read, held_there, set_there, live_within}
use Rattle.slot_pool.proofs.Stacks.{pool_rewritten}
use Rattle.slot_pool.proofs.Unused.{live_by_view, used_there, set_used}
use Rattle.slot_pool.proofs.pool.Pool.get_mut.Goals as goal

pub invariant_of-self-lent : goal.invariant_of-self-lent
invariant_of-self-lent g c =
    let live = live_by_view c.self.inside.cells.items c.self.inside.room c.slot.inside.index _ _ c.self.view_is c.slot.view_is c.requires in
    let cell = cell_read _ _ c.slot.inside.index _ _ _ refl refl live c.index_mut.ensures.value c.in-Some.is in
    λ w. rw c.in-Some.is (pool_rewritten c.slot.inside.index _ w c.self.invariant cell)

pub returns : goal.returns
returns g c =
    let live = live_by_view c.self.inside.cells.items c.self.inside.room c.slot.inside.index _ _ c.self.view_is c.slot.view_is c.requires in
    let within = live_within c.self.inside.cells.items c.slot.inside.index live in
    let cell = cell_read _ _ c.slot.inside.index _ _ _ refl refl live c.index_mut.ensures.value c.in-Some.is in
    let there = used_there c.self.inside.cells.items c.self.inside.room c.slot.inside.index _ within cell in (
      (refl, λ w. rw c.in-Some.is (set_used c.self.inside.cells.items c.self.inside.room c.slot.inside.index (Some w) within ∙ set_there _ _ _ _ (Some w) c.self.view_is c.slot.view_is)),
      record { writes_back = tt; value = rw c.in-Some.is (held_there _ _ _ _ c.in-Some.value c.self.view_is c.slot.view_is there) },
    )

pub index_mut-requires : goal.index_mut-requires
index_mut-requires g c = grind (arith, elements)

pub unreachable-requires : goal.unreachable-requires
unreachable-requires g c = grind (arith, elements)
