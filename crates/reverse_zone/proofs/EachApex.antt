-- The list of all apexes: it steps by one, and has apexes alone.
use Rattle.std.proofs.Common.{◌≡◌, ℕ, zero, suc, ◌+◌, ◌-◌, ◌<◌, ◌≤◌, List, ◌∷◌, ◌++◌, map, ap, arith}
use Rattle.std.specs.List.{range_with_len, AllByRecursion}
use Rattle.reverse_zone.specs.declared.apex.Apex.{Apex}
use Rattle.reverse_zone.specs.declared.apex.Apex.TheVariants.{Four, Six}
use Rattle.reverse_zone.specs.Apex.{IsApex}
use Rattle.reverse_zone.specs.Zone.{apexes, apexes_from}

-- ---- one step

numbers_step : (a n : ℕ) → a < n → range_with_len a (n - a) ≡ a ∷ range_with_len (a + 1) (n - (a + 1))
numbers_step a n less =
    let one : n - a ≡ suc (n - (a + 1)) = omega arith in
    ap (range_with_len a) one

pub octet_step : (octet nibbles : ℕ) → octet < 256 → apexes_from octet nibbles ≡ Four octet ∷ apexes_from (octet + 1) nibbles
unfolding apexes_from
octet_step octet nibbles less =
    ap (λ ns. map Four ns ++ map Six (range_with_len nibbles (0x400 - nibbles))) (numbers_step octet 256 less)

pub nibbles_step : (nibbles : ℕ) → nibbles < 0x400 → apexes_from 256 nibbles ≡ Six nibbles ∷ apexes_from 256 (nibbles + 1)
unfolding apexes_from
nibbles_step nibbles less = ap (λ ns. map Six ns) (numbers_step nibbles 0x400 less)

-- ---- apexes alone

fours : (a n : ℕ) (rest : List Apex) → a + n ≤ 256 → AllByRecursion IsApex rest → AllByRecursion IsApex (map Four (range_with_len a n) ++ rest)
fours a zero rest h all = all
fours a (suc n) rest h all = (omega arith, fours (a + 1) n rest (omega arith) all)

sixes : (a n : ℕ) → 0x200 ≤ a → a + n ≤ 0x400 → AllByRecursion IsApex (map Six (range_with_len a n))
sixes a zero low h = tt
sixes a (suc n) low h = ((low, omega arith), sixes (a + 1) n (omega arith) (omega arith))

pub are_apexes : AllByRecursion IsApex apexes
unfolding apexes_from
are_apexes = fours 0 256 (map Six (range_with_len 0x200 512)) (omega arith) (sixes 0x200 512 (omega arith) (omega arith))
