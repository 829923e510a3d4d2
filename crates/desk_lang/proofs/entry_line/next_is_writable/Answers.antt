use Rattle.std.proofs.Common.{refl, rules}
use Rattle.reg_entry.specs.Request.{IsSizedRequest}
use Rattle.desk_lang.specs.Writable.{IsWritable}
use Rattle.desk_lang.proofs.NextEntries.{next_fits, card_fits, card_dates}
use Rattle.desk_lang.proofs.entry_line.next_is_writable.Goals as goal

pub returns-clause-writable : goal.returns-clause-writable
returns-clause-writable c =
    λ r h.
    let fits = next_fits r c.args.e.now h in
    let request : IsSizedRequest c.args.e.now.request → IsWritable c.args.e.now.request = search rules in
    record {
      seq = search rules;
      some_day = fits.some_day;
      date = fits.date;
      who = search rules;
      cover = search rules;
      card = card_fits c.args.e.now.cover c.args.e.now.card fits.card (search rules);
      request = request fits.sized;
    }

pub returns-clause-spelled : goal.returns-clause-spelled
returns-clause-spelled c = λ r h. (returns-clause-writable c r h, refl)

pub returns-clause-dates : goal.returns-clause-dates
returns-clause-dates c =
    λ r h.
    let fits = next_fits r c.args.e.now h in
    (fits.date, card_dates c.args.e.now.cover c.args.e.now.card fits.card)
