use Rattle.std.proofs.Common.{rules}
use Rattle.desk_text.proofs.request_text.append_amount.Goals as goal

pub returns-in-Asn-clause-text : goal.returns-in-Asn-clause-text
returns-in-Asn-clause-text g c = search rules
