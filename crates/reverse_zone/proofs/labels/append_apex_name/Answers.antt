use Rattle.std.proofs.Common.{◌≡◌, ℕ, List, ◌++◌, codes, append_assoc, ap, sym, ◌∙◌}
use Rattle.num_range.specs.declared.space.Space.TheVariants.{Ipv6}
use Rattle.reverse_zone.specs.declared.apex.Apex.{Apex}
use Rattle.reverse_zone.specs.declared.apex.Apex.TheVariants.{Six}
use Rattle.reverse_zone.specs.Apex.{labels_text, nibble_labels, apex_name}
use Rattle.reverse_zone.proofs.labels.append_apex_name.Goals as goal

named : (out mid new labels : List ℕ) (apex : Apex) (nibbles : ℕ) → apex ≡ Six nibbles → labels ≡ nibble_labels nibbles
    → mid ≡ out ++ labels_text Ipv6 labels → new ≡ mid ++ codes ".ip6.arpa" → new ≡ out ++ apex_name apex
named out mid new labels apex nibbles is same begun ended =
    ended
    ∙ ap (λ (t : List ℕ). t ++ codes ".ip6.arpa") (begun ∙ ap (λ (ls : List ℕ). out ++ labels_text Ipv6 ls) same)
    ∙ append_assoc out (labels_text Ipv6 (nibble_labels nibbles)) (codes ".ip6.arpa")
    ∙ sym (ap (λ a. out ++ apex_name a) is)

pub returns-in-Six-clause-text : goal.returns-in-Six-clause-text
returns-in-Six-clause-text g c =
    named _ _ _ _ _ _ c.in-Six.is c.nibble_labels-labels.ensures.labels c.append_labels.ensures.text c.append-in-Six.ensures.text
