use Rattle.std.proofs.Common.{arith, codes, sym, ◌∙◌}
use Rattle.std.proofs.lemmas.List.{append_cancel_right}
use Rattle.num_range.specs.declared.space.Space.TheVariants.{Ipv6}
use Rattle.reverse_zone.specs.Apex.{nibble_labels, labels_text}
use Rattle.reverse_zone.proofs.apex.read_six.Goals as goal

pub returns-in_err-before-clause-none : goal.returns-in_err-before-clause-none
returns-in_err-before-clause-none c =
    rw c.from_residual.ensures (λ nibbles of e. c.in_err-before.ensures.none (labels_text Ipv6 (nibble_labels nibbles)) e)

pub returns-in_err-nibbles-clause-none : goal.returns-in_err-nibbles-clause-none
returns-in_err-nibbles-clause-none c =
    rw c.from_residual-in_err-nibbles.ensures
    (λ nibbles of e. c.in_err-nibbles.ensures.none nibbles (omega (arith, of)) (append_cancel_right c.in_ok-before.field-0.now (labels_text Ipv6 (nibble_labels nibbles)) (codes ".ip6.arpa") (sym c.in_ok-before.ensures.some ∙ e)))
