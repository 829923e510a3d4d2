use Rattle.std.proofs.Common.{false, refl, sym, ◌∙◌}
use Rattle.std.proofs.lemmas.Bool.{both_ways}
use Rattle.reg_entry.proofs.DayTexts.{spells_where_dated, spells_none}
use Rattle.reg_entry.proofs.days.find_day.Goals as goal

pub returns-in-Some-clause-date : goal.returns-in-Some-clause-date
returns-in-Some-clause-date c =
    spells_where_dated c.args.text.now (c.in-Some.year, c.in-Some.month, c.in-Some.day) c.day_of_date.result (sym c.date_of_text.ensures ∙ c.in-Some.is) c.day_of_date.ensures.some

pub returns-in-None-clause-date : goal.returns-in-None-clause-date
returns-in-None-clause-date c =
    (λ h. absurd (both_ways false refl h), λ w. absurd (spells_none c.args.text.now w.0 (sym c.date_of_text.ensures ∙ c.in-None.is) w.1))
