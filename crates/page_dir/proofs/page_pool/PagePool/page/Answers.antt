use Rattle.std.proofs.Common.{◌≡◌, ◌+◌, ◌-◌, ◌*◌, ◌∙◌, length, arith, ap, sym, Some}
use Rattle.slot_pool.proofs.Places.{live_within}
use Rattle.page_dir.proofs.PagePools.{held_seen, live_len}
use Rattle.page_dir.proofs.Regions.{length-region}
use Rattle.page_dir.specs.Regions.{region}
use Rattle.page_dir.proofs.page_pool.PagePool.page.Goals as goal

pub get-requires : goal.get-requires
get-requires g c = live_len c.self.inside.cells.items c.self.inside.lens c.args.self.now c.self.view_is c.args.slot.now c.requires

pub overflow_mul-start : goal.overflow_mul-start
overflow_mul-start g c =
    let within = live_within c.self.inside.lens c.args.slot.now (live_len c.self.inside.cells.items c.self.inside.lens c.args.self.now c.self.view_is c.args.slot.now c.requires) in
    omega (arith, within, c.self.invariant.most, c.index-start.ensures)

pub overflow_add-result : goal.overflow_add-result
overflow_add-result g c =
    let head = c.self.invariant.each c.args.slot.now c.get.result.now c.get.ensures in
    omega (arith, head.within, head.there, c.index-start.ensures, ap length c.deref.ensures.value, c.deref.type_inv.0)

pub offset_bounds-deref-start : goal.offset_bounds-deref-start
offset_bounds-deref-start g c =
    let head = c.self.invariant.each c.args.slot.now c.get.result.now c.get.ensures in
    omega (arith, head.there, c.index-start.ensures, ap length c.deref.ensures.value)

pub slice_bounds-result-end : goal.slice_bounds-result-end
slice_bounds-result-end g c =
    let head = c.self.invariant.each c.args.slot.now c.get.result.now c.get.ensures in
    omega (arith, head.within, head.there, c.index-start.ensures, ap length c.deref.ensures.value)

pub returns-clause-items : goal.returns-clause-items
returns-clause-items g c =
    let at = c.index-start.result in
    let len = c.get.result.now in
    let size : 64 * at + len - 64 * at ≡ len = omega arith in
    held_seen c.self.inside.cells.items c.self.inside.lens c.args.self.now c.self.view_is c.args.slot.now c.get.result.now c.get.ensures
    ∙ ap (λ page. Some page) (
    ap (λ k. region c.self.inside.cells.items (64 * k) len) (sym c.index-start.ensures)
    ∙ ap (λ cells. region cells (64 * at) len) (sym c.deref.ensures.value)
    ∙ ap (region c.deref.result.now (64 * at)) (sym size))

pub returns-clause-within : goal.returns-clause-within
returns-clause-within g c =
    let head = c.self.invariant.each c.args.slot.now c.get.result.now c.get.ensures in
    let e = length-region c.deref.result.now (64 * c.index-start.result) (64 * c.index-start.result + c.get.result.now - 64 * c.index-start.result)
    (omega (arith, head.within, head.there, c.index-start.ensures, ap length c.deref.ensures.value)) in
    omega (arith, e, head.within)
