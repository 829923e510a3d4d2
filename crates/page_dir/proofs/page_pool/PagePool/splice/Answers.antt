use Rattle.std.proofs.Common.{◌≡◌, ◌∙◌, ◌+◌, ◌-◌, ◌*◌, Some, length, ap, sym, arith, set, vec_capacity, subst, ℕ}
use Rattle.slot_pool.specs.Cells.{held}
use Rattle.slot_pool.proofs.Places.{live_within}
use Rattle.page_dir.specs.Pages.{or_empty}
use Rattle.page_dir.specs.Regions.{IsApart, pages_of, region}
use Rattle.page_dir.specs.Splices.{spliced}
use Rattle.page_dir.proofs.PagePools.{held_seen, live_len, page_length, pages-set, pool_spliced, spliced_elsewhere}
use Rattle.page_dir.proofs.page_pool.PagePool.splice.Goals as goal

pub get_mut-held-requires : goal.get_mut-held-requires
get_mut-held-requires g c = live_len c.self.inside.cells.items c.self.inside.lens c.args.self.now c.self.view_is c.args.slot.now c.requires.live

pub overflow_mul-start : goal.overflow_mul-start
overflow_mul-start g c =
    let live = live_len c.self.inside.cells.items c.self.inside.lens c.args.self.now c.self.view_is c.args.slot.now c.requires.live in
    let within = live_within c.self.inside.lens c.args.slot.now live in
    omega (arith, within, c.self.invariant.most, c.index-start.ensures)

pub overflow_sub-held : goal.overflow_sub-held
overflow_sub-held g c =
    let len = page_length c.self.invariant c.args.self.now c.self.view_is c.args.slot.now c.get_mut-held.result.now c.get_mut-held.ensures.value in
    omega (arith, len, c.requires.there)

pub overflow_add-held : goal.overflow_add-held
overflow_add-held g c =
    let len = page_length c.self.invariant c.args.self.now c.self.view_is c.args.slot.now c.get_mut-held.result.now c.get_mut-held.ensures.value in
    omega (arith, len, c.requires.there, c.requires.fits)

pub splice-requires-clause-there : goal.splice-requires-clause-there
splice-requires-clause-there g c =
    let len = page_length c.self.invariant c.args.self.now c.self.view_is c.args.slot.now c.get_mut-held.result.now c.get_mut-held.ensures.value in
    omega (arith, len, c.requires.there)

pub splice-requires-clause-fits : goal.splice-requires-clause-fits
splice-requires-clause-fits g c =
    let len = page_length c.self.invariant c.args.self.now c.self.view_is c.args.slot.now c.get_mut-held.result.now c.get_mut-held.ensures.value in
    omega (arith, len, c.requires.fits)

pub splice-requires-clause-within : goal.splice-requires-clause-within
splice-requires-clause-within g c = (c.self.invariant.each c.args.slot.now c.get_mut-held.result.now c.get_mut-held.ensures.value).within

pub splice-requires-clause-cells : goal.splice-requires-clause-cells
splice-requires-clause-cells g c =
    let head = c.self.invariant.each c.args.slot.now c.get_mut-held.result.now c.get_mut-held.ensures.value in
    omega (arith, head.there, c.index-start.ensures)

pub invariant_of-self : goal.invariant_of-self
invariant_of-self g c =
    let cells = c.self.inside.cells.items in
    let after = c.splice.new.cells.items in
    let idx = c.index-start.result in
    let slot = c.args.slot.now in
    let head = c.get_mut-held.result.now in
    let k = head - c.args.n + length c.args.new.now in
    let old = page_length c.self.invariant c.args.self.now c.self.view_is slot head c.get_mut-held.ensures.value in
    let elsewhere : (i j : ℕ) → IsApart (64 * slot) i j → region after i j ≡ region cells i j =
    subst (λ s. (i j : ℕ) → IsApart (64 * s) i j → region after i j ≡ region cells i j) c.index-start.ensures c.splice.ensures.elsewhere in
    pool_spliced c.self.invariant slot head c.get_mut-held.ensures.value after elsewhere k c.splice.ensures.count
    (omega (arith, old, c.requires.there, c.requires.fits)) (vec_capacity c.splice.new.cells) (omega (arith, c.splice.ensures.room))

pub returns : goal.returns
returns g c =
    let cells = c.self.inside.cells.items in
    let after = c.splice.new.cells.items in
    let idx = c.index-start.result in
    let slot = c.args.slot.now in
    let head = c.get_mut-held.result.now in
    let k = head - c.args.n + length c.args.new.now in
    let elsewhere : (i j : ℕ) → IsApart (64 * slot) i j → region after i j ≡ region cells i j =
    subst (λ s. (i j : ℕ) → IsApart (64 * s) i j → region after i j ≡ region cells i j) c.index-start.ensures c.splice.ensures.elsewhere in
    let seen = held_seen cells c.self.inside.lens c.args.self.now c.self.view_is slot head c.get_mut-held.ensures.value in
    let page : region after (64 * slot) k ≡ spliced c.args.at c.args.n c.args.new.now (or_empty (held c.args.self.now slot)) =
    ap (λ s. region after (64 * s) k) (sym c.index-start.ensures) ∙ c.splice.ensures.here
    ∙ ap (λ s. spliced c.args.at c.args.n c.args.new.now (region cells (64 * s) head)) c.index-start.ensures
    ∙ ap (λ p. spliced c.args.at c.args.n c.args.new.now (or_empty p)) (sym seen) in
    pages-set cells after c.self.inside.lens slot (spliced_elsewhere c.self.invariant slot head c.get_mut-held.ensures.value after elsewhere) (Some k)
    ∙ ap (λ p. set (pages_of cells c.self.inside.lens) slot (Some p)) page
    ∙ ap (λ pages. set pages slot (Some (spliced c.args.at c.args.n c.args.new.now (or_empty (held c.args.self.now slot))))) c.self.view_is
