use Rattle.std.proofs.Common.{◌≡◌, ◌+◌, length, map}
use Rattle.reg_entry.specs.declared.object.Object.TheVariants.{Cut}
use Rattle.board.specs.Noted.{all_noted}
use Rattle.board.proofs.operations.Operations.note_cuts.Given as goal

-- what is left to note, noted after what was, is all of it
abbrev pub invariant-loop-block : goal.invariant-loop-block
invariant-loop-block l = record {
  noted : all_noted l.self (map (λ o. (l.act, o)) (map (λ block. Cut block l.servers) l.block-iterator))
      ≡ all_noted l.initial.self (map (λ o. (l.act, o)) (map (λ block. Cut block l.servers) l.initial.block-iterator));
  serial : l.self.serial + length l.block-iterator ≡ l.initial.self.serial + length l.initial.block-iterator;
}
