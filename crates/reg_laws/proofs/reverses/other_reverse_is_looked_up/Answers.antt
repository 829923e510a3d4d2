use Rattle.reg_laws.proofs.ReversesFitting.{none_of_others, none_but_own, first_of_others}
use Rattle.reg_laws.proofs.reverses.other_reverse_is_looked_up.Goals as goal

pub returns : goal.returns
returns c = record {
  none = λ r range e. none_of_others range r.reverses e;
  own = λ r range s whole e same. none_but_own range r.reverses s whole.reverses_apart e same;
  other = λ r range s e other. first_of_others range r.reverses s e other;
}
