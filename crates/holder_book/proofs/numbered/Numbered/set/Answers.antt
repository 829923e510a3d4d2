use Rattle.std.proofs.Common.{◌≡◌, Some, ap, slice_set, refl, subst, arith}
use Rattle.holder_book.specs.Numbered.{placed}
use Rattle.holder_book.proofs.Numbers.{all_live, place_within, live_at, placed_rewritten, places_rewritten}
use Rattle.holder_book.proofs.numbered.Numbered.set.Goals as goal

pub index-requires : goal.index-requires
index-requires c =
    let within = place_within _ c.args.number c.self.invariant (ap (λ b. b.holders) c.self.view_is) c.requires in
    omega (arith, within)

pub get_mut-requires : goal.get_mut-requires
get_mut-requires c =
    let within = place_within _ c.args.number c.self.invariant (ap (λ b. b.holders) c.self.view_is) c.requires in
    let live = live_at c.self.inside.pool c.self.inside.places.items c.args.number c.index.result.now (all_live c.self.invariant) within c.index.ensures in
    rw live.1 refl

pub invariant_of-self : goal.invariant_of-self
invariant_of-self c =
    let within = place_within _ c.args.number c.self.invariant (ap (λ b. b.holders) c.self.view_is) c.requires in
    let live = live_at c.self.inside.pool c.self.inside.places.items c.args.number c.index.result.now (all_live c.self.invariant) within c.index.ensures in
    places_rewritten c.self.inside.pool c.self.inside.places.items c.args.number c.index.result.now live.0 (c.args.holder.now, c.args.day) live.1 c.self.invariant

pub returns-clause-holders : goal.returns-clause-holders
returns-clause-holders c =
    let within = place_within _ c.args.number c.self.invariant (ap (λ b. b.holders) c.self.view_is) c.requires in
    let live = live_at c.self.inside.pool c.self.inside.places.items c.args.number c.index.result.now (all_live c.self.invariant) within c.index.ensures in
    subst (λ b. placed (slice_set c.self.inside.pool c.index.result.now (Some (c.args.holder.now, c.args.day))) c.self.inside.places.items ≡ slice_set b.holders c.args.number (c.args.holder.now, c.args.day)) c.self.view_is
    (placed_rewritten c.self.inside.pool c.self.inside.places.items c.args.number c.index.result.now live.0 (c.args.holder.now, c.args.day) live.1 c.self.invariant within c.index.ensures)
