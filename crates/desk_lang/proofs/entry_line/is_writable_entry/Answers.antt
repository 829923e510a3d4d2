use Rattle.std.proofs.Common.{rules}
use Rattle.desk_lang.proofs.entry_line.is_writable_entry.Goals as goal

pub returns : goal.returns
returns c = (
  λ t. record {
    seq = search rules;
    some_day = search rules;
    date = search rules;
    who = search rules;
    cover = search rules;
    card = search rules;
    request = search rules;
  },
  λ h. let card = h.card in search rules,
)
