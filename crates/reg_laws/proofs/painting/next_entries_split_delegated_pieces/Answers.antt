use Rattle.reg_laws.proofs.Paints.{next_splits}
use Rattle.reg_laws.proofs.painting.next_entries_split_delegated_pieces.Goals as goal

pub returns : goal.returns
returns c r e at h next is = next_splits r e at h.pieces next is
