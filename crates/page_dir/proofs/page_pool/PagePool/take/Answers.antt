use Rattle.std.proofs.Common.{◌≡◌, ◌∙◌, ◌++◌, ◌+◌, ◌-◌, ◌*◌, ◌≤◌, Some, length, replicate, ap, sym, arith, set, vec_capacity, length-append, None}
use Rattle.std.proofs.lemmas.List.{length-replicate}
use Rattle.std.proofs.lemmas.Option.{slice_get_within}
use Rattle.page_dir.specs.Regions.{page_in, pages_of, placed}
use Rattle.page_dir.specs.Splices.{spliced}
use Rattle.page_dir.proofs.PagePools.{pages-set, pool_taken, spare_pages, spare_seen, taken_elsewhere, taken_here, vacant_seen}
use Rattle.page_dir.proofs.page_pool.PagePool.take.Goals as goal

pub unreachable-requires : goal.unreachable-requires
unreachable-requires g c =
    let seen = spare_seen c.self.inside.cells.items c.self.inside.lens c.args.self.now c.self.view_is in
    omega (arith, seen, c.in-Err.ensures.full, c.requires.spare)

pub overflow_mul-start : goal.overflow_mul-start
overflow_mul-start g c =
    let within = slice_get_within c.self.inside.lens c.in-Ok.slot None c.in-Ok.ensures.vacant in
    omega (arith, within, c.self.invariant.most, c.index-start.ensures)

pub reach-requires : goal.reach-requires
reach-requires g c =
    let within = slice_get_within c.self.inside.lens c.in-Ok.slot None c.in-Ok.ensures.vacant in
    omega (arith, within, c.self.invariant.reserved, c.index-start.ensures)

pub invariant_of-self : goal.invariant_of-self
invariant_of-self g c =
    let cells = c.self.inside.cells.items in
    let new = c.args.new.now in
    let idx = c.index-start.result in
    let more = replicate (64 * idx + 64 - length cells) c.index-new-0.result in
    let is : c.write.new.cells.items ≡ spliced (64 * c.in-Ok.slot) (length new) new (cells ++ more) =
    c.write.ensures.items ∙ ap (spliced (64 * idx) (length new) new) c.reach.ensures.items
    ∙ ap (λ k. spliced (64 * k) (length new) new (cells ++ more)) c.index-start.ensures in
    let both = length-append cells more in
    let len = length-replicate (64 * idx + 64 - length cells) c.index-new-0.result in
    rw c.in-Ok.ensures.taken (
    pool_taken c.self.invariant c.in-Ok.slot c.in-Ok.ensures.vacant new c.requires.few more c.write.new.cells.items
    (omega (arith, both, len, c.index-start.ensures)) is (vec_capacity c.write.new.cells)
    (omega (arith, c.reach.ensures.room, c.write.ensures.room)))

pub returns-clause-vacant : goal.returns-clause-vacant
returns-clause-vacant g c = vacant_seen c.self.inside.cells.items c.self.inside.lens c.args.self.now c.self.view_is c.in-Ok.slot c.in-Ok.ensures.vacant

pub returns-clause-taken : goal.returns-clause-taken
returns-clause-taken g c =
    let cells = c.self.inside.cells.items in
    let new = c.args.new.now in
    let idx = c.index-start.result in
    let slot = c.in-Ok.slot in
    let after = c.write.new.cells.items in
    let more = replicate (64 * idx + 64 - length cells) c.index-new-0.result in
    let is : after ≡ spliced (64 * slot) (length new) new (cells ++ more) =
    c.write.ensures.items ∙ ap (spliced (64 * idx) (length new) new) c.reach.ensures.items
    ∙ ap (λ k. spliced (64 * k) (length new) new (cells ++ more)) c.index-start.ensures in
    let both = length-append cells more in
    let len = length-replicate (64 * idx + 64 - length cells) c.index-new-0.result in
    let reached : 64 * slot + 64 ≤ length (cells ++ more) = omega (arith, both, len, c.index-start.ensures) in
    ap (placed (page_in after)) c.in-Ok.ensures.taken
    ∙ pages-set cells after c.self.inside.lens slot
    (taken_elsewhere c.self.invariant slot c.in-Ok.ensures.vacant new c.requires.few more after reached is) (Some (length new))
    ∙ ap (λ page. set (pages_of cells c.self.inside.lens) slot (Some page))
    (taken_here c.self.invariant slot c.in-Ok.ensures.vacant new c.requires.few more after reached is)
    ∙ ap (λ pages. set pages slot (Some new)) c.self.view_is

pub returns-clause-count : goal.returns-clause-count
returns-clause-count g c =
    ap (λ n. n + 1) (spare_pages c.write.new.cells.items c.take.new.self) ∙ c.in-Ok.ensures.count
    ∙ sym (spare_seen c.self.inside.cells.items c.self.inside.lens c.args.self.now c.self.view_is)
