use Rattle.std.proofs.Common.{◌≡◌, ℕ, ◌<◌, nat_le, true, List, [], ◌∷◌, refl, arith}
use Rattle.std.proofs.lemmas.Bool.{and_parts, leb-true}
use Rattle.std.proofs.lemmas.List.Elements.{All-from_recursion}
use Rattle.std.specs.List.{AllByRecursion, list_all}
use Rattle.num_range.specs.declared.space.Space.TheVariants.{Ipv6}
use Rattle.reverse_zone.specs.Delegated.{address_places}
use Rattle.reverse_zone.proofs.domain.address_places.Goals as goal

-- places that pass the test are below 128
below : (places : List ℕ) → list_all (λ place. nat_le place 127) places ≡ true → AllByRecursion (λ place. place < 128) places
below [] h = tt
below (place ∷ places) h =
    let parts = and_parts (nat_le place 127) (list_all (λ later. nat_le later 127) places) h in
    (omega (arith, leb-true place 127 parts.0), below places parts.1)

pub returns-in-Ipv6-clause-bits : goal.returns-in-Ipv6-clause-bits
returns-in-Ipv6-clause-bits c = All-from_recursion (λ (place : ℕ). place < 128) (address_places Ipv6) (below (address_places Ipv6) refl)

pub returns-in-Ipv4-clause-places : goal.returns-in-Ipv4-clause-places
returns-in-Ipv4-clause-places c = cc
