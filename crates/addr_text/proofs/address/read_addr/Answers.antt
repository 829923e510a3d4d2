use Rattle.addr_text.proofs.Parsed.{no_address}
use Rattle.addr_text.proofs.address.read_addr.Goals as goal

pub returns-in_err-value-clause-none : goal.returns-in_err-value-clause-none
returns-in_err-value-clause-none c =
    rw c.from_residual.ensures (no_address _ c.in_default.ensures.none c.in_err-value.ensures.none)
