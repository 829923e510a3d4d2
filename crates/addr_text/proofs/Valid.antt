-- What a text spells is a number of its space, and a range of it.
use Rattle.std.proofs.Common.{◌≡◌, ℕ, zero, suc, ◌-◌, ◌^◌, ◌<◌, ◌≤◌, Bool, true, false, List, [], ◌∷◌, ◌++◌, length, replicate, sym, ap, ◌∙◌, subst, inl, inr, arith, rules, length-append}
use Rattle.std.proofs.lemmas.List.{length-replicate}
use Rattle.std.specs.Int.{w128, from_be_bytes}
use Rattle.std.specs.Str.Parse.{AllDigits, digits_value}
use Rattle.std.specs.Net.Addr.{octets_of, segments_of}
use Rattle.std.specs.Net.Grammar.{IsDotted, IsGroupsAfter, IsColonHex}
use Rattle.num_range.specs.declared.space.Space.{Space}
use Rattle.num_range.specs.declared.space.Space.TheVariants.{Asn, Ipv4, Ipv6}
use Rattle.num_range.specs.Space.{top_of}
use Rattle.num_range.specs.Number.{PlainNumber, IsNumber}
use Rattle.num_range.specs.Range.{PlainRange, IsRange}
use Rattle.num_range.proofs.BlockEnds.{block_ends}
use Rattle.addr_text.specs.Number.{SpellsNumberOf, SpellsNumber}
use Rattle.addr_text.specs.Range.{SpellsRange}

-- each group is below 2 ^ 16, by recursion
abbrev AllGroups : List ℕ → Type 0
AllGroups [] = Unit {0}
AllGroups (g ∷ groups) = (g < 2 ^ 16) × AllGroups groups

AllGroups-append : (xs ys : List ℕ) → AllGroups xs → AllGroups ys → AllGroups (xs ++ ys)
AllGroups-append [] ys h k = k
AllGroups-append (x ∷ xs) ys h k = (h.0, AllGroups-append xs ys h.1 k)

AllGroups-replicate : (n : ℕ) → AllGroups (replicate n 0)
AllGroups-replicate zero = tt
AllGroups-replicate (suc n) = (omega arith, AllGroups-replicate n)

group_fits : (ds : List ℕ) → AllDigits 16 ds → length ds ≤ 4 → digits_value 16 ds < 2 ^ 16
group_fits [] h short = omega arith
group_fits (a ∷ []) h short = omega arith
group_fits (a ∷ b ∷ []) h short = omega arith
group_fits (a ∷ b ∷ c ∷ []) h short = omega arith
group_fits (a ∷ b ∷ c ∷ d ∷ []) h short = omega arith
group_fits (a ∷ b ∷ c ∷ d ∷ e ∷ ds) h short = absurd (omega arith)

dotted_groups : (text octets : List ℕ) → IsDotted text octets → AllGroups (segments_of octets)
dotted_groups text octets h =
    rw h.value (omega (arith, h.fit), (omega (arith, h.fit), tt))

groups_fit : (ipv4 : Bool) (lead text groups : List ℕ) → IsGroupsAfter ipv4 lead text groups → AllGroups groups
groups_fit ipv4 lead text [] h = tt
groups_fit ipv4 lead text (g ∷ groups) (inl (group, rest, spelled, is_group, more)) =
    (subst (λ n. n < 2 ^ 16) is_group.0.1 (group_fits group is_group.0.0.1 is_group.1), groups_fit ipv4 (58 ∷ []) rest groups more)
groups_fit ipv4 lead text (g ∷ groups) (inr (last, octets, allowed, spelled, is_dotted, value)) =
    subst AllGroups (sym value) (dotted_groups last octets is_dotted)

colon_hex_fits : (text groups : List ℕ) → IsColonHex text groups → AllGroups groups × (length groups ≡ 8)
colon_hex_fits text groups (inl h) = (groups_fit true [] text groups h.0, h.1)
colon_hex_fits text groups (inr h) =
    let zeros = 8 - length h.head - length h.tail in
    let head = groups_fit false [] h.head_text h.head h.head_groups in
    let tail = groups_fit true [] h.tail_text h.tail h.tail_groups in
    let front = AllGroups-append h.head (replicate zeros 0) head (AllGroups-replicate zeros) in
    let count = length-append (h.head ++ replicate zeros 0) h.tail in
    let count_front = length-append h.head (replicate zeros 0) in
    let count_zeros : length (replicate {A = ℕ} zeros 0) ≡ zeros = search (rules, length-replicate) in
    (subst AllGroups (sym h.value) (AllGroups-append (h.head ++ replicate zeros 0) h.tail front tail), ap length h.value ∙ omega (arith, h.room))

eight_groups : (a b c d e f g h : ℕ) → a < 2 ^ 16 → b < 2 ^ 16 → c < 2 ^ 16 → d < 2 ^ 16 → e < 2 ^ 16 → f < 2 ^ 16 → g < 2 ^ 16 → h < 2 ^ 16
    → from_be_bytes w128 (octets_of (a ∷ b ∷ c ∷ d ∷ e ∷ f ∷ g ∷ h ∷ [])) ≤ top_of Ipv6
eight_groups a b c d e f g h a' b' c' d' e' f' g' h' = omega arith

ipv6_fits : (groups : List ℕ) → AllGroups groups → length groups ≡ 8 → from_be_bytes w128 (octets_of groups) ≤ top_of Ipv6
ipv6_fits (a ∷ b ∷ c ∷ d ∷ e ∷ f ∷ g ∷ h ∷ []) fits eight =
    eight_groups a b c d e f g h fits.0 fits.1.0 fits.1.1.0 fits.1.1.1.0 fits.1.1.1.1.0 fits.1.1.1.1.1.0 fits.1.1.1.1.1.1.0 fits.1.1.1.1.1.1.1.0
ipv6_fits _ fits eight = absurd (omega arith)

number_of_fits : (space : Space) (text : List ℕ) (value : ℕ) → SpellsNumberOf space text value → value ≤ top_of space
number_of_fits Asn text value h = h.1
number_of_fits Ipv4 text value (octets, dotted, is) = rw (is, dotted.value) (omega (arith, dotted.fit))
number_of_fits Ipv6 text value (groups, colon_hex, is) =
    let fits = colon_hex_fits text groups colon_hex in
    rw is (ipv6_fits groups fits.0 fits.1)

pub number_valid : (text : List ℕ) (n : PlainNumber) → SpellsNumber text n → IsNumber n
number_valid text n h = number_of_fits n.space text n.value h

-- a block ends in its space
pub range_valid : (text : List ℕ) (r : PlainRange) → SpellsRange text r → IsRange r
range_valid text r (inl (n, spelled, is)) =
    let fits = number_valid text n spelled in
    subst IsRange (sym is) (omega arith, fits)
range_valid text r (inr (inl (n, len, spelled, start, is))) =
    let ends = block_ends n.space n.value len start in
    subst IsRange (sym is) (omega arith, ends)
range_valid text r (inr (inr (first, last, spelled, is_first, is_last, order))) =
    (order, number_valid last (record { space = r.space; value = r.last }) is_last)
