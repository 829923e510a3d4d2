use Rattle.desk_text.proofs.Dates.{decision_date}
use Rattle.desk_text.proofs.laws.replies_have_dates.Goals as goal

pub returns : goal.returns
returns c = decision_date
