-- Members put one after the other, and trees without floats whose names rise.
use Rattle.std.proofs.Common.{◌≡◌, Bool, true, false, List, [], ◌∷◌, ◌++◌, Option, None, Some, refl, sym, ap, ◌∙◌}
use Rattle.num_range.specs.declared.space.Space.{Space}
use Rattle.num_range.specs.declared.space.Space.TheVariants.{Asn, Ipv4, Ipv6}
use Rattle.num_range.specs.Range.{PlainRange}
use Rattle.serde_json.specs.Data.{Data, object, Members, no_members, put}
use Rattle.serde_json.specs.Written.{has_float}
use Rattle.rdap_json.specs.declared.facts.NetFacts.{NetFacts}
use Rattle.rdap_json.specs.Tree.{Member, with_members, object_of, names_rise}
use Rattle.rdap_json.specs.Network.{registration_members, number_members, outer_members, network_tree}

with_both : (xs ys : List Member) (ms : Members) → with_members (xs ++ ys) ms ≡ with_members ys (with_members xs ms)
with_both [] ys ms = refl
with_both (x ∷ xs) ys ms = with_both xs ys (put x.0 x.1 ms)

-- the members that were put part by part are the network's
pub members_joined : (facts : NetFacts) (inner : Bool) (a b c : Members)
    → a ≡ with_members (registration_members facts) no_members
    → b ≡ with_members (number_members facts.range.space facts.range facts.parent) a
    → c ≡ with_members (outer_members inner facts.holder) b
    → object c ≡ network_tree facts inner
members_joined facts inner a b c first second third =
    let numbers = number_members facts.range.space facts.range facts.parent in
    let outer = outer_members inner facts.holder in
    ap object (
    third ∙ ap (with_members outer) (second ∙ ap (with_members numbers) first)
    ∙ sym (with_both (registration_members facts) (numbers ++ outer) no_members ∙ with_both numbers outer (with_members (registration_members facts) no_members))
    )

no_float_of : (facts : NetFacts) (space : Space) (parent : Option PlainRange) (inner : Bool)
    → has_float (object_of (registration_members facts ++ number_members space facts.range parent ++ outer_members inner facts.holder)) ≡ false
no_float_of facts Asn parent true = refl
no_float_of facts Asn parent false = refl
no_float_of facts Ipv4 None true = refl
no_float_of facts Ipv4 None false = refl
no_float_of facts Ipv4 (Some p) true = refl
no_float_of facts Ipv4 (Some p) false = refl
no_float_of facts Ipv6 None true = refl
no_float_of facts Ipv6 None false = refl
no_float_of facts Ipv6 (Some p) true = refl
no_float_of facts Ipv6 (Some p) false = refl

pub network_has_no_float : (facts : NetFacts) (inner : Bool) (d : Data) → d ≡ network_tree facts inner → has_float d ≡ false
network_has_no_float facts inner d is = ap has_float is ∙ no_float_of facts facts.range.space facts.parent inner

names_of : (facts : NetFacts) (space : Space) (parent : Option PlainRange) (inner : Bool)
    → names_rise (object_of (registration_members facts ++ number_members space facts.range parent ++ outer_members inner facts.holder)) ≡ true
names_of facts Asn parent true = refl
names_of facts Asn parent false = refl
names_of facts Ipv4 None true = refl
names_of facts Ipv4 None false = refl
names_of facts Ipv4 (Some p) true = refl
names_of facts Ipv4 (Some p) false = refl
names_of facts Ipv6 None true = refl
names_of facts Ipv6 None false = refl
names_of facts Ipv6 (Some p) true = refl
names_of facts Ipv6 (Some p) false = refl

pub network_names_rise : (facts : NetFacts) (inner : Bool) → names_rise (network_tree facts inner) ≡ true
network_names_rise facts inner = names_of facts facts.range.space facts.parent inner
