-- What names nothing.
use Rattle.std.proofs.Common.{◌≡◌, ℕ, ◌+◌, ◌<◌, ◌≤◌, Bool, true, false, List, [], ◌∷◌, Option, None, Some, length, map, decimal, codes, refl, sym, ap, arith, length-append, subst, true≢false, Bor, ◌==◌, not}
use Rattle.std.specs.Option.{is_none, is_some, option_copied}
use Rattle.std.specs.List.{count_by}
use Rattle.std.proofs.lemmas.List.Splits.{length-slice_split}
use Rattle.percent_encoding.specs.Percent.{percent_decode}
use Rattle.std.proofs.lemmas.Fmt.{length-decimal-le}
use Rattle.rdap_query.specs.declared.ask.RdapAsk.{RdapAsk}
use Rattle.rdap_query.specs.Path.{SpellsPath}
use Rattle.rdap_query.specs.Length.{AreShort}
use Rattle.reverse_zone.specs.declared.apex.Apex.{Apex}
use Rattle.reverse_zone.specs.declared.apex.Apex.TheVariants.{Four, Six}
use Rattle.reverse_zone.specs.Apex.{IsApex, apex_name}
use Rattle.hall.specs.declared.lookup.Lookup.{Lookup}
use Rattle.hall.specs.declared.lookup.Lookup.TheVariants.{Rdap, Stats, Zone}
use Rattle.hall.specs.Lookup.{Names, IsNamed}
use Rattle.hall.specs.Path.{parts_of, parts_behind}
use Rattle.hall.specs.Ask.{is_none_behind}

some_behind : (parts : List (List ℕ)) (n : ℕ) → length parts ≡ n + 1 → is_none_behind (map percent_decode parts) ≡ false
some_behind [] n e = absurd (omega (arith, e))
some_behind (part ∷ parts) n e = refl

-- nothing follows where no slash does
pub none_behind : (behind : Option (List ℕ)) → is_none_behind (map percent_decode (parts_behind behind)) ≡ is_none behind
none_behind None = refl
none_behind (Some text) = some_behind (parts_of text) (count_by (λ b. b == 47) text) (length-slice_split (λ b. b == 47) text)

-- ---- segments that are too long

-- no path that asks for something has a long segment
abbrev pub PathsAreShort : Type 0
PathsAreShort = (first : List ℕ) (second third : Option (List ℕ)) (ask : RdapAsk) → SpellsPath first second third ask → AreShort first second third

length_apex : (apex : Apex) → IsApex apex → length (apex_name apex) ≤ 64
length_apex (Four octet) is =
    omega (arith, length-append (decimal octet) (codes ".in-addr.arpa"), length-decimal-le 3 octet (omega arith) (omega (arith, is)) (omega (arith, is)))
length_apex (Six nibbles) is = omega arith

abbrev second_of : List (List ℕ) → List ℕ
second_of [] = []
second_of (first ∷ []) = []
second_of (first ∷ second ∷ more) = second

names_no_long_second : PathsAreShort → (first second : List ℕ) (more : List (List ℕ)) → 64 < length second → (lookup : Lookup)
    → ¬ (Names (first ∷ second ∷ more) lookup)
names_no_long_second short first second [] long (Rdap ask) p = omega (arith, long, (short first (Some second) None ask p).second_is)
names_no_long_second short first second (third ∷ []) long (Rdap ask) p = omega (arith, long, (short first (Some second) (Some third) ask p).second_is)
names_no_long_second short first second (third ∷ fourth ∷ more) long (Rdap ask) p = p
names_no_long_second short first second more long Stats p = omega (arith, ap length p)
names_no_long_second short first second more long (Zone apex) p =
    let same : second ≡ apex_name apex = ap second_of p.1 in
    omega (arith, long, ap length same, length_apex apex p.0)

-- nothing is named by segments of which the second is too long
pub long_second : PathsAreShort → (first second : List ℕ) (more : List (List ℕ)) → 64 < length second → IsNamed (first ∷ second ∷ more) None
long_second short first second more long = names_no_long_second short first second more long

-- ---- segments that are too many

first_part : (parts : List (List ℕ)) (n : ℕ) → length parts ≡ n + 1 → (part : List ℕ) × (rest : List (List ℕ)) × (parts ≡ part ∷ rest)
first_part [] n e = absurd (omega (arith, e))
first_part (part ∷ rest) n e = (part, rest, refl)

names_no_fourth : (first second third fourth : List ℕ) (more : List (List ℕ)) (lookup : Lookup)
    → ¬ (Names (first ∷ second ∷ third ∷ fourth ∷ more) lookup)
names_no_fourth first second third fourth more (Rdap ask) p = p
names_no_fourth first second third fourth more Stats p = omega (arith, ap length p)
names_no_fourth first second third fourth more (Zone apex) p = omega (arith, ap length p.1)

-- nothing is named by segments behind the third of which there is a slash
pub fourth_segment : (first second third : List ℕ) (behind : Option (List ℕ)) → is_some behind ≡ true
    → IsNamed (first ∷ second ∷ third ∷ map percent_decode (parts_behind behind)) None
fourth_segment first second third None some = absurd (true≢false (sym some))
fourth_segment first second third (Some text) some =
    let parts = first_part (parts_of text) (count_by (λ b. b == 47) text) (length-slice_split (λ b. b == 47) text) in
    subst (λ ps. IsNamed (first ∷ second ∷ third ∷ map percent_decode ps) None) (sym parts.2)
    (names_no_fourth first second third (percent_decode parts.0) (map percent_decode parts.1))

pub some_copied : (behind : Option (Bor (List ℕ))) → is_some (option_copied behind) ≡ is_some behind
some_copied None = refl
some_copied (Some b) = refl

pub none_copied : (behind : Option (Bor (List ℕ))) → is_none (option_copied behind) ≡ is_none behind
none_copied None = refl
none_copied (Some b) = refl

-- the test that there is nothing
pub not_some : (behind : Option (Bor (List ℕ))) (test : Bool) → is_some behind ≡ not test → test ≡ is_none behind
not_some None true e = refl
not_some None false e = absurd (true≢false (sym e))
not_some (Some b) true e = absurd (true≢false e)
not_some (Some b) false e = refl
