use Rattle.std.proofs.Common.{ℕ, List, ◌+◌, ◌∷◌, take, drop, ap, sym, ◌∙◌, arith, length-drop}
use Rattle.std.proofs.lemmas.List.{take_all}
use Rattle.rpsl_text.specs.Lines.{words}
use Rattle.rpsl_text.proofs.Parted.{word_parted, word_last}
use Rattle.rpsl_text.proofs.lines.part_at_blank.Goals as goal

pub returns-in-Some-clause-words : goal.returns-in-Some-clause-words
returns-in-Some-clause-words c some =
    let text : List ℕ = c.args.text.now in
    let end : ℕ = c.in-Some.end in
    let rest : List ℕ = drop (end + 1) text in
    word_parted text end c.requires (sym c.blank_in.ensures ∙ c.in-Some.is)
    ∙ ap (λ (t : List ℕ). take end text ∷ words t) (sym (take_all _ rest (omega (arith, length-drop (end + 1) text))))

pub returns-in-None-clause-words : goal.returns-in-None-clause-words
returns-in-None-clause-words c some = word_last c.args.text.now c.requires some (sym c.blank_in.ensures ∙ c.in-None.is)
