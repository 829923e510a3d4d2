use Rattle.std.proofs.Common.{◌≡◌, Some, ap, refl, subst, arith}
use Rattle.std.specs.List.{slice_get}
use Rattle.holder_book.proofs.Numbers.{all_live, place_within, live_at, placed_at}
use Rattle.holder_book.proofs.numbered.Numbered.get.Goals as goal

pub index-requires : goal.index-requires
index-requires c =
    let within = place_within _ c.args.number c.self.invariant (ap (λ b. b.holders) c.self.view_is) c.requires in
    omega (arith, within)

pub get-requires : goal.get-requires
get-requires c =
    let within = place_within _ c.args.number c.self.invariant (ap (λ b. b.holders) c.self.view_is) c.requires in
    let live = live_at c.self.inside.pool c.self.inside.places.items c.args.number c.index.result.now (all_live c.self.invariant) within c.index.ensures in
    rw live.1 refl

pub returns : goal.returns
returns c =
    let within = place_within _ c.args.number c.self.invariant (ap (λ b. b.holders) c.self.view_is) c.requires in
    subst (λ b. slice_get b.holders c.args.number ≡ Some c.get.result.now) c.self.view_is
    (placed_at c.self.inside.pool c.self.inside.places.items c.args.number c.index.result.now c.get.result.now (all_live c.self.invariant) within c.index.ensures c.get.ensures)
