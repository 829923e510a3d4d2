use Rattle.reg_laws.proofs.Accepting.{accepted_is_next, accepted_is_least}
use Rattle.reg_laws.proofs.next.accepted_may_come_next.Goals as goal

pub returns : goal.returns
returns c = record {
  next = λ r p day who request pool last policy valid.
      accepted_is_next r p day who request (record { pool = pool; day = last; policy = policy; valid = valid });
  least = λ r p day who request pool last policy valid.
      accepted_is_least r p day who request (record { pool = pool; day = last; policy = policy; valid = valid });
}
