use Rattle.std.proofs.Common.{◌∙◌, length, sym, ap, arith}
use Rattle.std.specs.List.{flat_map}
use Rattle.reg_entry.specs.Objects.{cuts_of}
use Rattle.reg_entry.specs.Ranges.{ranges_inside}
use Rattle.op_feed.specs.EntryChanges.{dels}
use Rattle.board.specs.Noted.{all_noted}
use Rattle.board.proofs.Noting.{all_inside, dropped_count, dropped_noted, dropped_serial}
use Rattle.board.proofs.operations.Operations.note_dropped.Goals as goal

pub note_cuts-requires : goal.note_cuts-requires
note_cuts-requires c =
    let count = dropped_count c.loop-met.met-iterator c.next.new.self (c.in-Some.met, c.in-Some.servers) c.args.range.now c.in-Some.ensures.steps (sym c.if-inside.ensures) in
    let all = all_inside c.args.reverse.now.ranges c.into_iter-met-iterator.result c.args.range.now c.are_apart.ensures.apart
    (c.into_iter-met-iterator.ensures.into_iter_gives ∙ c.walk-met-items.ensures) in
    let same = ap (λ xs. length (flat_map cuts_of xs)) all in
    let serial = c.loop-met.invariant.serial in
    let room = c.requires in
    omega arith

pub loop-met-preserved-then-inside : goal.loop-met-preserved-then-inside
loop-met-preserved-then-inside c =
    let count = dropped_count c.loop-met.met-iterator c.next.new.self (c.in-Some.met, c.in-Some.servers) c.args.range.now c.in-Some.ensures.steps (sym c.if-inside.ensures) in
    let more = dropped_serial c.loop-met.self c.note_cuts.new.self (c.in-Some.met, c.in-Some.servers) c.note_cuts.ensures in
    let serial = c.loop-met.invariant.serial in
    record {
      noted = dropped_noted c.loop-met.self c.note_cuts.new.self c.loop-met.met-iterator c.next.new.self (c.in-Some.met, c.in-Some.servers) c.args.range.now
          c.in-Some.ensures.steps (sym c.if-inside.ensures) c.note_cuts.ensures ∙ c.loop-met.invariant.noted;
      serial = omega arith;
    }

pub returns : goal.returns
returns c =
    let all = all_inside c.args.reverse.now.ranges c.into_iter-met-iterator.result c.args.range.now c.are_apart.ensures.apart
    (c.into_iter-met-iterator.ensures.into_iter_gives ∙ c.walk-met-items.ensures) in
    sym (ap (λ xs. all_noted c.loop-met.self (dels (flat_map cuts_of (ranges_inside xs c.args.range.now)))) c.in-None.ensures.steps.0)
    ∙ c.loop-met.invariant.noted
    ∙ ap (λ xs. all_noted c.args.self.now (dels (flat_map cuts_of xs))) all
