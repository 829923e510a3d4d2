use Rattle.std.proofs.Common.{ℕ, List, ◌≡◌, ◌<◌, ◌∷◌, ◌++◌, length, ap, sym, ◌∙◌, arith, length-append}
use Rattle.std.proofs.lemmas.Bool.Decides.{nat_tests}
use Rattle.std.specs.Str.Lines.{lines}
use Rattle.rpsl_text.proofs.Parted.{line_parted, line_last}
use Rattle.rpsl_text.proofs.lines.next_line.Goals as goal

-- what is left behind a line is shorter
shorter : (text line rest : List ℕ) → text ≡ line ++ 10 ∷ rest → length rest < length text
shorter text line rest e = omega (arith, ap length e, length-append line (10 ∷ rest))

pub returns-in-Some : goal.returns-in-Some
returns-in-Some c = (
  line_parted c.args.text.now c.in-Some.line.now c.in-Some.rest.now c.in-Some.ensures.parts c.in-Some.ensures.first
      ∙ ap (λ (line : List ℕ). line ∷ lines c.in-Some.rest.now) (sym c.without_return.ensures),
  shorter c.args.text.now c.in-Some.line.now c.in-Some.rest.now c.in-Some.ensures.parts,
)

pub returns-in-None : goal.returns-in-None
returns-in-None c =
    let some : 0 < length c.args.text.now = grind (arith, nat_tests) in
    (line_last c.args.text.now some c.in-None.ensures.none, some)
