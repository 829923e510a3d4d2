use Rattle.std.proofs.Common.{◌≡◌, ℕ, true, false, List, ◌++◌, [], ◌∷◌, length, refl, sym, ap, ◌∙◌, subst, arith, length-append}
use Rattle.std.proofs.lemmas.Bool.{eqb-true}
use Rattle.mirror_core.specs.Mirror.{PlainMirror}
use Rattle.mirror_core.specs.Line.{is_too_long}
use Rattle.mirror_core.proofs.Holding.{stopped, ended}
use Rattle.mirror_core.proofs.mirror.Mirror.end_line.Goals as goal

pub returns-then-is_too_long : goal.returns-then-is_too_long
returns-then-is_too_long c =
    let old = c.args.self.now in
    let piece = c.args.piece.now in
    let short : is_too_long old.line ≡ false = subst (λ (m : PlainMirror). is_too_long m.line ≡ false) c.self.view_is c.self.invariant.short in
    let lens : length old.line ≡ c.len.result = ap (λ (m : PlainMirror). length m.line) (sym c.self.view_is) ∙ sym c.len.ensures.value in
    let long : is_too_long (old.line ++ piece) ≡ true = sym (c.is_too_long.ensures old.line lens short) ∙ c.if-is_too_long.true in
    stopped old c.stop_long.new.self piece (10 ∷ []) _ c.stop_long.result c.requires.fault c.requires.inside short long
    (omega (arith, length-append piece (10 ∷ []))) c.stop_long.ensures.fault c.stop_long.ensures.stopped

nothing : (bytes : List ℕ) → length bytes ≡ 0 → bytes ≡ []
nothing [] h = refl
nothing (b ∷ bytes) h = absurd (omega (arith, h))

pub end_whole-requires-clause-empty : goal.end_whole-requires-clause-empty
end_whole-requires-clause-empty c =
    ap (λ (m : PlainMirror). m.line) (sym c.self.view_is) ∙ nothing c.self.inside.line.items (eqb-true _ 0 (sym c.is_empty.ensures ∙ c.if-is_empty.true))

pub returns-then-is_empty : goal.returns-then-is_empty
returns-then-is_empty c =
    let old = c.args.self.now in
    let piece = c.args.piece.now in
    let short : is_too_long old.line ≡ false = subst (λ (m : PlainMirror). is_too_long m.line ≡ false) c.self.view_is c.self.invariant.short in
    let lens : length old.line ≡ c.len.result = ap (λ (m : PlainMirror). length m.line) (sym c.self.view_is) ∙ sym c.len.ensures.value in
    let fits : is_too_long (old.line ++ piece) ≡ false = sym (c.is_too_long.ensures old.line lens short) ∙ c.if-is_too_long.false in
    ended old _ c.end_whole.new.self piece c.end_whole.result c.requires.fault c.requires.inside fits refl c.end_whole.ensures

pub returns : goal.returns
returns c =
    let old = c.args.self.now in
    let piece = c.args.piece.now in
    let short : is_too_long old.line ≡ false = subst (λ (m : PlainMirror). is_too_long m.line ≡ false) c.self.view_is c.self.invariant.short in
    let lens : length old.line ≡ c.len.result = ap (λ (m : PlainMirror). length m.line) (sym c.self.view_is) ∙ sym c.len.ensures.value in
    let fits : is_too_long (old.line ++ piece) ≡ false = sym (c.is_too_long.ensures old.line lens short) ∙ c.if-is_too_long.false in
    ended old c.hold.new.self c.end_held.new.self piece c.end_held.result c.requires.fault c.requires.inside fits c.hold.ensures c.end_held.ensures
