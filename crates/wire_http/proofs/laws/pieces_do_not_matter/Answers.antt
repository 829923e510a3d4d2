use Rattle.std.proofs.Common.{[]}
use Rattle.wire_http.proofs.Unique.{pieces_lead}
use Rattle.wire_http.proofs.laws.pieces_do_not_matter.Goals as goal

pub returns : goal.returns
returns c = λ events left. pieces_lead events [] left
