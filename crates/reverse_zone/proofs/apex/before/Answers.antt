use Rattle.std.proofs.Common.{rules}
use Rattle.std.proofs.lemmas.Bool.Decides.{Decides-eqb}
use Rattle.std.proofs.lemmas.Slice.Eq.{strip_suffix_is}
use Rattle.reverse_zone.proofs.apex.before.Goals as goal

pub returns : goal.returns
returns c = let cases = strip_suffix_is Decides-eqb c.args.name.now c.args.suffix.now c.strip_suffix.result c.strip_suffix.ensures.cases in search rules
