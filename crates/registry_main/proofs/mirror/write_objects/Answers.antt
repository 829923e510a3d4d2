use Rattle.std.proofs.Common.{◌∙◌, List, ℕ, refl, subst}
use Rattle.std.specs.Io.KnownBytes.{append_known, Appends, Keeps}
use Rattle.std.proofs.KnownBytes.{Keeps-refl, Keeps-trans}
use Rattle.mirror_core.specs.Objects.{objects_text}
use Rattle.registry_main.specs.Batch.{IsFrontWritten}
use Rattle.registry_main.proofs.Fed.{object_kept, block_written, block_begun}
use Rattle.registry_main.proofs.Written.{OnErr_always}
use Rattle.registry_main.proofs.mirror.write_objects.Goals as goal

pub loop-attributes-init : goal.loop-attributes-init
loop-attributes-init g c = record {
  next = tt;
  finite = tt;
  faults = refl;
  kept = rw (c.new-block.ensures, c.into_iter-attributes-iterator.ensures.into_iter_gives ∙ c.walk-attributes-items.ensures) (Keeps-refl _);
}

pub returns-in_err-write_all-clause-err : goal.returns-in_err-write_all-clause-err
returns-in_err-write_all-clause-err g c =
    let w = g.K.Sink.written c.loop-attributes.out in
    let w' = g.K.Sink.written c.write_all.new.out in
    let all = append_known (g.K.Sink.written c.args.out.now) (objects_text c.args.objects.now) in
    let kept = subst (Keeps all) (object_kept w _ _ _ _ _ c.in-Some.ensures.steps c.in_ok-append_attributes.ensures) c.loop-attributes.invariant.kept in
    OnErr_always _ (block_begun _ w w' _ c.append_attributes.new.body c.next.new.self kept
    (subst (λ (text : List ℕ). IsFrontWritten w text w') c.bytes-then-bytes-ge-BLOCK.ensures c.in_err-write_all.ensures.err))

pub loop-attributes-preserved-then-bytes-ge-BLOCK : goal.loop-attributes-preserved-then-bytes-ge-BLOCK
loop-attributes-preserved-then-bytes-ge-BLOCK g c =
    let w = g.K.Sink.written c.loop-attributes.out in
    let w' = g.K.Sink.written c.write_all.new.out in
    let all = append_known (g.K.Sink.written c.args.out.now) (objects_text c.args.objects.now) in
    let kept = subst (Keeps all) (object_kept w _ _ _ _ _ c.in-Some.ensures.steps c.in_ok-append_attributes.ensures) c.loop-attributes.invariant.kept in
    let wrote = subst (λ (text : List ℕ). Appends w w' text) c.bytes-then-bytes-ge-BLOCK.ensures c.in_ok-write_all.ensures.ok in
    record {
      next = tt;
      finite = tt;
      faults = c.in_ok-write_all.ensures.write_told (λ e. cc) ∙ c.loop-attributes.invariant.faults;
      kept = rw c.new-block-then-bytes-ge-BLOCK.ensures (Keeps-trans _ _ _ kept (block_written w w' c.append_attributes.new.body c.next.new.self wrote));
    }

pub loop-attributes-preserved : goal.loop-attributes-preserved
loop-attributes-preserved g c =
    let w = g.K.Sink.written c.loop-attributes.out in
    let all = append_known (g.K.Sink.written c.args.out.now) (objects_text c.args.objects.now) in
    record {
      next = tt;
      finite = tt;
      faults = c.loop-attributes.invariant.faults;
      kept = subst (Keeps all) (object_kept w _ _ _ _ _ c.in-Some.ensures.steps c.in_ok-append_attributes.ensures) c.loop-attributes.invariant.kept;
    }
