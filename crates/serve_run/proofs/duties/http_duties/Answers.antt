use Rattle.std.proofs.Common.{◌≡◌, ◌∙◌, refl, rules, sym}
use Rattle.std.specs.Vec.Iter.{into_iter_items}
use Rattle.serve_run.proofs.Giving.{none_made, all_made, first_is, rest_are, new_way, next_given, one_more_made}
use Rattle.serve_run.proofs.duties.http_duties.Goals as goal

pub loop-pass-init : goal.loop-pass-init
loop-pass-init g c =
    let same : into_iter_items c.into_iter-pass-iterator.result ≡ c.args.passes.items = search rules in
    record {
      room = search rules;
      named = rw same c.requires.named;
      so_far = none_made _ _ _ _ _ _ _ _ _ _ same c.in_ok-duties.ensures.items;
    }

pub invariant_of-push_reserved : goal.invariant_of-push_reserved
invariant_of-push_reserved g c = record {
  named = first_is (λ pass. (pass.book ≡ g.N.Naming.book) × (pass.rooms ≡ g.N.Naming.rooms)) _ _ _ c.in-Some.ensures.steps.0 c.loop-pass.invariant.named;
}

pub loop-pass-preserved : goal.loop-pass-preserved
loop-pass-preserved g c =
    let gave = c.in-Ok.ensures in
    record {
      room = search rules;
      named = rest_are (λ pass. (pass.book ≡ g.N.Naming.book) × (pass.rooms ≡ g.N.Naming.rooms)) _ _ _ c.in-Some.ensures.steps.0 c.loop-pass.invariant.named;
      so_far = one_more_made _ _ _ _ _ _ _ _ _ _ _ _ _ _ _ c.loop-pass.invariant.so_far c.in-Some.ensures.steps.0 c.push_reserved.ensures.items (refl, refl)
          (new_way _ _ _ gave.place gave.fresh) (next_given _ _ _ gave.to_come) gave.given gave.lent gave.other gave.returned gave.cause.same;
    }

pub returns-clause-duties : goal.returns-clause-duties
returns-clause-duties g c = all_made _ _ _ _ _ _ _ _ _ _ _ (sym c.loop-pass.pass-iterator.rest.ok.0 ∙ c.in-None.ensures.steps.0) c.loop-pass.invariant.so_far
