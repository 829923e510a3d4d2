use Rattle.std.proofs.Common.{◌≡◌, ℕ, ◌-◌, ◌^◌, ◌≤◌, ◌&&◌, true, nat_le, refl, arith}
use Rattle.std.proofs.lemmas.Bool.{and_parts, leb-true}
use Rattle.num_range.specs.declared.space.Space.{Space}
use Rattle.num_range.specs.declared.space.Space.TheVariants.{Asn, Ipv4, Ipv6}
use Rattle.num_range.specs.Amount.{amount_size, has_size}
use Rattle.fit_search.specs.Sought.{IsSought}
use Rattle.fit_search.proofs.amounts_are_sought.Goals as goal

sought : (space : Space) (amount : ℕ) → has_size space amount ≡ true → IsSought space (amount_size space amount)
sought Asn amount h =
    let both = and_parts (nat_le 1 amount) (nat_le amount 1024) h in
    let least = leb-true 1 amount both.0 in
    let most = leb-true amount 1024 both.1 in
    (least, omega arith)
sought Ipv4 amount h = (32 - amount, omega arith, refl)
sought Ipv6 amount h =
    let both = and_parts (nat_le 3 amount) (nat_le amount 128) h in
    let least = leb-true 3 amount both.0 in
    (128 - amount, omega arith, refl)

pub returns : goal.returns
returns c = sought
