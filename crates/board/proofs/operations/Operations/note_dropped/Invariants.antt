use Rattle.std.proofs.Common.{◌≡◌, ◌+◌, length}
use Rattle.std.specs.List.{flat_map}
use Rattle.reg_entry.specs.Objects.{cuts_of}
use Rattle.reg_entry.specs.Ranges.{ranges_inside}
use Rattle.op_feed.specs.EntryChanges.{dels}
use Rattle.board.specs.Noted.{all_noted}
use Rattle.board.proofs.operations.Operations.note_dropped.Given as goal

abbrev pub invariant-loop-met : goal.invariant-loop-met
invariant-loop-met l = record {
  noted : all_noted l.self (dels (flat_map cuts_of (ranges_inside l.met-iterator l.range)))
      ≡ all_noted l.initial.self (dels (flat_map cuts_of (ranges_inside l.initial.met-iterator l.range)));
  serial : l.self.serial + length (flat_map cuts_of (ranges_inside l.met-iterator l.range))
      ≡ l.initial.self.serial + length (flat_map cuts_of (ranges_inside l.initial.met-iterator l.range));
}
