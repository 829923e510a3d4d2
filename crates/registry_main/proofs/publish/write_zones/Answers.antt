use Rattle.std.proofs.Common.{◌∙◌, List, refl, sym, ap, subst}
use Rattle.std.specs.List.{flat_map, AllByRecursion}
use Rattle.std.specs.Io.KnownBytes.{append_known, Keeps}
use Rattle.std.proofs.KnownBytes.{Keeps-refl, Keeps-trans, append_known-moved}
use Rattle.reverse_zone.specs.declared.apex.Apex.{Apex}
use Rattle.reverse_zone.specs.Apex.{IsApex}
use Rattle.reverse_zone.specs.Zone.{apexes}
use Rattle.registry_main.specs.Published.{zone_or_none}
use Rattle.registry_main.proofs.Published.{zones_written, zones_begun}
use Rattle.registry_main.proofs.Written.{front_more, OnErr_always, BeginsWith_kept}
use Rattle.registry_main.proofs.publish.write_zones.Goals as goal

pub loop-apex-init : goal.loop-apex-init
loop-apex-init g c =
    let same = c.into_iter-apex-iterator.ensures.into_iter_gives ∙ c.apexes-apex-items.ensures.all in
    record {
      next = tt;
      finite = tt;
      faults = refl;
      valid = subst (AllByRecursion IsApex) (sym same) c.apexes-apex-items.ensures.valid;
      kept = subst (λ (left : List Apex). Keeps (append_known (g.K.Sink.written c.args.out.now) (flat_map (zone_or_none c.args.session.now) left))
          (append_known (g.K.Sink.written c.args.out.now) (flat_map (zone_or_none c.args.session.now) c.into_iter-apex-iterator.result)))
          same (Keeps-refl _);
    }

pub loop-apex-preserved : goal.loop-apex-preserved
loop-apex-preserved g c = record {
  next = tt;
  finite = tt;
  faults = c.in_ok-write_zone_of.ensures.write_told (λ e. cc) ∙ c.loop-apex.invariant.faults;
  valid = (subst (AllByRecursion IsApex) c.in-Some.ensures.steps c.loop-apex.invariant.valid).1;
  kept = Keeps-trans _ _ _ c.loop-apex.invariant.kept
      (append_known-moved _ _ (zone_or_none c.args.session.now c.in-Some.apex) (flat_map (zone_or_none c.args.session.now) c.next.new.self) _
      c.in_ok-write_zone_of.ensures.ok (ap (flat_map (zone_or_none c.args.session.now)) c.in-Some.ensures.steps));
}

pub returns-in_err-write_zone_of-clause-err : goal.returns-in_err-write_zone_of-clause-err
returns-in_err-write_zone_of-clause-err g c =
    OnErr_always _ (zones_begun c.args.session.now _ _ (BeginsWith_kept _ _ _ c.loop-apex.invariant.kept
    (rw c.in-Some.ensures.steps (front_more _ _ _ _ c.in_err-write_zone_of.ensures.err))))

pub returns-clause-ok : goal.returns-clause-ok
returns-clause-ok g c =
    zones_written c.args.session.now _ _
    (subst (λ (left : List Apex). Keeps (append_known (g.K.Sink.written c.args.out.now) (flat_map (zone_or_none c.args.session.now) apexes))
    (append_known (g.K.Sink.written c.loop-apex.out) (flat_map (zone_or_none c.args.session.now) left)))
    c.in-None.ensures.steps.0 c.loop-apex.invariant.kept)
