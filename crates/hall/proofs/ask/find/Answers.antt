use Rattle.std.proofs.Common.{◌≡◌, ◌∷◌, ◌∙◌, None, map, sym, ap, subst}
use Rattle.std.specs.Option.{option_copied}
use Rattle.percent_encoding.specs.Percent.{percent_decode}
use Rattle.hall.specs.Path.{parts_behind}
use Rattle.hall.specs.Lookup.{IsNamed}
use Rattle.hall.proofs.Names.{long_second, fourth_segment, some_copied}
use Rattle.hall.proofs.ask.find.Goals as goal

pub returns-in_default-decoded : goal.returns-in_default-decoded
returns-in_default-decoded c =
    let parted : parts_behind (option_copied c.args.behind) ≡ c.part.result.0.now ∷ parts_behind (option_copied c.part.result.1) =
    ap (λ b. parts_behind (option_copied b)) c.in-Some.is ∙ c.part.ensures in
    subst (λ parts. IsNamed (c.args.first.now ∷ map percent_decode parts) None) (sym parted)
    (long_second c.paths_have_short_segments.ensures c.args.first.now _ (map percent_decode (parts_behind (option_copied c.part.result.1))) c.in_default-decoded.ensures.none)

pub returns-then-is_some : goal.returns-then-is_some
returns-then-is_some c =
    let parted : parts_behind (option_copied c.args.behind) ≡ c.part.result.0.now ∷ parts_behind (option_copied c.part.result.1) =
    ap (λ b. parts_behind (option_copied b)) c.in-Some.is ∙ c.part.ensures in
    let again : parts_behind (option_copied c.part.result.1) ≡ c.part-2.result.0.now ∷ parts_behind (option_copied c.part-2.result.1) =
    ap (λ b. parts_behind (option_copied b)) c.in-Some-behind.is ∙ c.part-2.ensures in
    subst (λ parts. IsNamed (c.args.first.now ∷ map percent_decode parts) None) (sym (parted ∙ ap (λ ps. c.part.result.0.now ∷ ps) again))
    (fourth_segment _ _ _ _ (some_copied c.part-2.result.1 ∙ sym c.is_some.ensures ∙ c.if-is_some.true))
