use Rattle.addr_text.proofs.Parsed.{none_then, no_asn, no_number}
use Rattle.addr_text.proofs.number.find_number.Goals as goal

pub returns-in-Some-clause-none : goal.returns-in-Some-clause-none
returns-in-Some-clause-none c = none_then _ c.read_asn.ensures.none (no_asn _ _ c.in-Some.ensures.some)

pub returns-in-None-clause-none : goal.returns-in-None-clause-none
returns-in-None-clause-none c = none_then _ c.read_addr.ensures.none (no_number _ c.in-None.ensures.none)
