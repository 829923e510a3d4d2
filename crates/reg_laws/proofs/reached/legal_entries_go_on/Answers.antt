use Rattle.reg_laws.proofs.Reaching.{legal-append, after_entries-append, register_of_legal}
use Rattle.reg_laws.proofs.reached.legal_entries_go_on.Goals as goal

pub returns : goal.returns
returns c = record { legal = legal-append; register = after_entries-append; of = register_of_legal }
