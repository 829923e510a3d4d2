use Rattle.page_dir.proofs.Looking.{first_is_at_least, below_rank_is_less}
use Rattle.page_dir.proofs.Rising.{rank_at}
use Rattle.page_dir.proofs.laws.ranks_are_places.Goals as goal

pub returns-clause-at : goal.returns-clause-at
returns-clause-at g c = rank_at g.K.Ord.cmp g.met.K.Ord.total

pub returns-clause-least : goal.returns-clause-least
returns-clause-least g c = first_is_at_least g.K.Ord.cmp

pub returns-clause-less : goal.returns-clause-less
returns-clause-less g c = below_rank_is_less g.K.Ord.cmp
