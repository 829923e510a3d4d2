use Rattle.page_dir.proofs.Looking.{found_is_at_most, found_place, none_found}
use Rattle.page_dir.proofs.laws.found_keys_are_greatest.Goals as goal

pub returns-clause-most : goal.returns-clause-most
returns-clause-most g c = found_is_at_most g.K.Ord.cmp

pub returns-clause-place : goal.returns-clause-place
returns-clause-place g c = λ key ps p rises e. (found_place g.K.Ord.cmp g.met.K.Ord.total key ps p rises e).0

pub returns-clause-next : goal.returns-clause-next
returns-clause-next g c = λ key ps p rises e. (found_place g.K.Ord.cmp g.met.K.Ord.total key ps p rises e).1

pub returns-clause-none : goal.returns-clause-none
returns-clause-none g c = none_found g.K.Ord.cmp
