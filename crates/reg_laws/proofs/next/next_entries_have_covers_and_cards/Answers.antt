use Rattle.reg_laws.proofs.NextFacts.{next_facts}
use Rattle.reg_laws.proofs.next.next_entries_have_covers_and_cards.Goals as goal

pub returns : goal.returns
returns c = record {
  cover = λ r e next. (next_facts r e next).cover;
  card = λ r e next. (next_facts r e next).card;
}
