-- How long what is spelled can be.
use Rattle.std.proofs.Common.{◌≡◌, ℕ, ◌+◌, ◌*◌, ◌^◌, ◌<◌, ◌≤◌, ◌⊎◌, Bool, true, false, List, [], ◌∷◌, ◌++◌, Option, None, Some, length, replicate, decimal, codes, refl, sym, subst, ap, ◌∙◌, inl, inr, arith, length-append, true≢false}
use Rattle.std.specs.Prelude.{IfSome}
use Rattle.std.specs.Net.Grammar.{IsDotted, IsGroupsAfter, IsGroups, IsElided, IsColonHex}
use Rattle.std.proofs.lemmas.Fmt.{length-decimal-le}
use Rattle.num_range.specs.declared.space.Space.{Space}
use Rattle.num_range.specs.declared.space.Space.TheVariants.{Asn, Ipv4, Ipv6}
use Rattle.num_range.specs.Number.{PlainNumber}
use Rattle.num_range.specs.Range.{PlainRange}
use Rattle.num_range.specs.Space.{width_of}
use Rattle.addr_text.specs.Address.{SpellsAddressOf, SpellsAddress}
use Rattle.addr_text.specs.Number.{SpellsAsn}
use Rattle.rdap_query.specs.declared.ask.RdapAsk.{RdapAsk}
use Rattle.rdap_query.specs.declared.ask.RdapAsk.TheVariants.{Ip, Autnum, Help}
use Rattle.rdap_query.specs.Length.{IsShort, AreShort}
use Rattle.rdap_query.specs.Path.{SpellsOne, SpellsMasked, SpellsNetwork, SpellsAutnum, SpellsPath}

length_octet : (n : ℕ) → n < 256 → length (decimal n) ≤ 3
length_octet n h = length-decimal-le 3 n (omega arith) (omega arith) (omega arith)

-- ---- addresses

length_dotted : (text octets : List ℕ) → IsDotted text octets → length text ≤ 15
length_dotted text octets d =
    let dot : List ℕ = codes "." in
    let one : List ℕ = decimal d.a ++ dot in
    let two : List ℕ = one ++ decimal d.b ++ dot in
    let three : List ℕ = two ++ decimal d.c ++ dot in
    omega (
      arith,
      ap length d.spelled,
      length-append three (decimal d.d),
      length-append (two ++ decimal d.c) dot,
      length-append two (decimal d.c),
      length-append (one ++ decimal d.b) dot,
      length-append one (decimal d.b),
      length-append (decimal d.a) dot,
      length_octet d.a d.fit.0,
      length_octet d.b d.fit.1,
      length_octet d.c d.fit.2,
      length_octet d.d d.fit.3,
    )

-- what an address at the end may add
abbrev tail_room : Bool → ℕ
tail_room true = 16
tail_room false = 0

length_groups : (ipv4 : Bool) (lead text segments : List ℕ) → length lead ≤ 1 → IsGroupsAfter ipv4 lead text segments
    → length text ≤ 5 * length segments + tail_room ipv4
length_groups ipv4 lead text [] short same = omega (arith, ap length same)
length_groups ipv4 lead text (s ∷ segments) short (inl p) =
    omega (
      arith,
      ap length p.2,
      length-append (lead ++ p.0) p.1,
      length-append lead p.0,
      p.3.1,
      length_groups ipv4 (codes ":") p.1 segments (omega arith) p.4,
    )
length_groups true lead text (s ∷ segments) short (inr p) =
    omega (arith, ap length p.3, length-append lead p.0, length_dotted p.0 p.1 p.4)
length_groups false lead text (s ∷ segments) short (inr p) = absurd (true≢false (sym p.2))

length_colon_hex : (text segments : List ℕ) → IsColonHex text segments → length text ≤ 64
length_colon_hex text segments (inl p) = omega (arith, length_groups true [] text segments (omega arith) p.0, p.1)
length_colon_hex text segments (inr e) =
    omega (
      arith,
      ap length e.spelled,
      length-append (e.head_text ++ codes "::") e.tail_text,
      length-append e.head_text (codes "::"),
      length_groups false [] e.head_text e.head (omega arith) e.head_groups,
      length_groups true [] e.tail_text e.tail (omega arith) e.tail_groups,
      e.room,
    )

length_address_of : (space : Space) (text : List ℕ) (value : ℕ) → SpellsAddressOf space text value → length text ≤ 64
length_address_of Asn text value p = absurd p
length_address_of Ipv4 text value p = omega (arith, length_dotted text p.0 p.1)
length_address_of Ipv6 text value p = length_colon_hex text p.0 p.1

length_address : (text : List ℕ) (n : PlainNumber) → SpellsAddress text n → length text ≤ 64
length_address text n p = length_address_of n.space text n.value p

-- ---- paths

width_bound : (space : Space) → width_of space ≤ 128
width_bound Asn = omega arith
width_bound Ipv4 = omega arith
width_bound Ipv6 = omega arith

length_width : (space : Space) (len : ℕ) (text : List ℕ) → text ≡ decimal len → len ≤ width_of space → length text ≤ 64
length_width space len text same bound =
    let small : len ≤ 128 = omega (arith, bound, width_bound space) in
    omega (arith, ap length same, length-decimal-le 3 len (omega arith) (omega (arith, small)) (omega (arith, small)))

network_segments : (second third : Option (List ℕ)) (r : PlainRange) → SpellsNetwork second third r → IfSome second IsShort × IfSome third IsShort
network_segments (Some address) None r p = (length_address address p.0 p.1, tt)
network_segments (Some address) (Some len) r p = (length_address address p.0 p.2, length_width p.0.space p.1 len p.3 p.4)
network_segments None third r p = absurd p

autnum_segments : (second third : Option (List ℕ)) (n : PlainNumber) → SpellsAutnum second third n → IfSome second IsShort × IfSome third IsShort
autnum_segments (Some text) None n p =
    (omega (arith, ap length p.1, length-decimal-le 10 n.value (omega arith) (omega (arith, p.2)) (omega (arith, p.2))), tt)
autnum_segments (Some text) (Some len) n p = absurd p
autnum_segments None third n p = absurd p

pub short_segments : (first : List ℕ) (second third : Option (List ℕ)) (ask : RdapAsk) → SpellsPath first second third ask → AreShort first second third
short_segments first second third (Ip r) p =
    let more = network_segments second third r p.1 in
    record { first_is = omega (arith, ap length p.0); second_is = more.0; third_is = more.1 }
short_segments first second third (Autnum n) p =
    let more = autnum_segments second third n p.1 in
    record { first_is = omega (arith, ap length p.0); second_is = more.0; third_is = more.1 }
short_segments first second third Help p =
    record {
      first_is = omega (arith, ap length p.0);
      second_is = subst (λ s. IfSome s IsShort) (sym p.1) tt;
      third_is = subst (λ s. IfSome s IsShort) (sym p.2) tt;
    }
