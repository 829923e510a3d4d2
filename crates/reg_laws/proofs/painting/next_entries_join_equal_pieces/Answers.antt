use Rattle.reg_laws.proofs.Paints.{next_joins}
use Rattle.reg_laws.proofs.painting.next_entries_join_equal_pieces.Goals as goal

pub returns : goal.returns
returns c r e at h next is = next_joins r e at next is
