use Rattle.std.proofs.Common.{◌≡◌, ℕ, ◌+◌, true, false, List, ◌++◌, [], length, sym, ap, ◌∙◌, subst, arith, append-nil, Err}
use Rattle.mirror_core.specs.Mirror.{PlainMirror, broken}
use Rattle.mirror_core.specs.Line.{is_too_long}
use Rattle.mirror_core.specs.Fed.{IsFed}
use Rattle.mirror_core.proofs.Holding.{held, stopped}
use Rattle.mirror_core.proofs.mirror.Mirror.go_on.Goals as goal

pub returns-then-is_too_long : goal.returns-then-is_too_long
returns-then-is_too_long c =
    let old = c.args.self.now in
    let piece = c.args.piece.now in
    let short : is_too_long old.line ≡ false = subst (λ (m : PlainMirror). is_too_long m.line ≡ false) c.self.view_is c.self.invariant.short in
    let lens : length old.line ≡ c.len.result = ap (λ (m : PlainMirror). length m.line) (sym c.self.view_is) ∙ sym c.len.ensures.value in
    let long : is_too_long (old.line ++ piece) ≡ true = sym (c.is_too_long.ensures old.line lens short) ∙ c.if-is_too_long.true in
    subst (λ (bytes : List ℕ). IsFed old bytes c.stop_long.new.self (Err c.stop_long.result)) (append-nil piece)
    (stopped old c.stop_long.new.self piece [] _ c.stop_long.result c.requires.fault c.requires.inside short long
    (ap (λ (bytes : List ℕ). length old.line + length bytes) (sym (append-nil piece))) c.stop_long.ensures.fault (c.stop_long.ensures.stopped ∙ ap (λ (n : ℕ). broken old n c.stop_long.result) (omega arith)))

pub returns : goal.returns
returns c =
    let old = c.args.self.now in
    let piece = c.args.piece.now in
    let short : is_too_long old.line ≡ false = subst (λ (m : PlainMirror). is_too_long m.line ≡ false) c.self.view_is c.self.invariant.short in
    let lens : length old.line ≡ c.len.result = ap (λ (m : PlainMirror). length m.line) (sym c.self.view_is) ∙ sym c.len.ensures.value in
    let fits : is_too_long (old.line ++ piece) ≡ false = sym (c.is_too_long.ensures old.line lens short) ∙ c.if-is_too_long.false in
    (c.hold.ensures ∙ sym (held old piece c.requires.fault c.requires.inside fits), ap (λ (m : PlainMirror). m.fault) c.hold.ensures ∙ c.requires.fault)
