use Rattle.reg_entry.proofs.DayTexts.{day_text_injective}
use Rattle.reg_entry.proofs.laws.day_texts_differ.Goals as goal

pub returns : goal.returns
returns c = day_text_injective
