use Rattle.std.proofs.Common.{◌≡◌, All, sym, subst, ap, ◌∙◌, List, arith}
use Rattle.std.proofs.lemmas.List.Elements.{All-push}
use Rattle.snapshot_pub.specs.Pass.{PlainPass}
use Rattle.snapshot_pub.specs.Opening.{new_pass}
use Rattle.snapshot_pub.proofs.opening.with_passes.Goals as goal

pub loop-preserved : goal.loop-preserved
loop-preserved c =
    let new : c.pass.result ≡ new_pass c.args.press = c.pass.ensures.pass ∙ ap new_pass c.loop.invariant.press in
    let room = c.loop.invariant.room in
    record {
      press = c.pass.ensures.same ∙ c.loop.invariant.press;
      count = omega (arith, c.push_reserved.ensures.len, c.loop.invariant.count);
      passes = subst (λ (ps : List PlainPass). All (λ p. p ≡ new_pass c.args.press) ps) (sym c.push_reserved.ensures.items)
          (All-push (λ p. p ≡ new_pass c.args.press) c.loop.opened.items c.pass.result c.loop.invariant.passes new);
      room = omega (arith, c.push_reserved.ensures.capacity);
    }
