use Rattle.std.proofs.Common.{sym, ◌∙◌}
use Rattle.std.specs.Net.Grammar.{IsIpv6Text}
use Rattle.addr_text.proofs.Parsed.{none_parsed}
use Rattle.addr_text.proofs.address.read_ipv6.Goals as goal

pub returns-in_err-address-clause-none : goal.returns-in_err-address-clause-none
returns-in_err-address-clause-none c =
    rw c.from_residual.ensures
    λ value h. none_parsed IsIpv6Text _ _ c.parse_ascii.ensures (sym c.ok.ensures.value ∙ c.in_err-address.was) (record { segments = h.0 }) h.1
