-- Words that are alike, tried on examples: each computes.
use Rattle.std.proofs.Common.{codes, refl}
use Rattle.desk_lang.specs.Places.{BeginAlike}

plain_alike : BeginAlike (codes "now") (codes "now and then")
plain_alike = refl

quoted_alike : BeginAlike (codes "\"Alpha Net\"") (codes "\"Alpha Net\" lir")
quoted_alike = refl

quotes_without_end : BeginAlike (codes "\"Alpha Net") (codes "\"Beta\"x DE")
quotes_without_end = refl
