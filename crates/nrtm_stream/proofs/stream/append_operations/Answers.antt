use Rattle.std.proofs.Common.{◌≡◌, ◌+◌, ◌<◌, ◌++◌, ℕ, List, sym, ap, ◌∙◌, append-nil, arith}
use Rattle.std.specs.List.{flat_map}
use Rattle.reg_entry.specs.Operations.{PlainBoard}
use Rattle.nrtm_stream.specs.Stream.{operation_text}
use Rattle.nrtm_stream.specs.Answer.{operations_between}
use Rattle.nrtm_stream.proofs.Kept.{none_left}
use Rattle.nrtm_stream.proofs.stream.append_operations.Goals as goal

-- none are left behind the last
ended : (b : PlainBoard) (source now all : List ℕ) (s last : ℕ) → last < s → now ++ flat_map (operation_text source) (operations_between b s last) ≡ all
    → now ≡ all
ended b source now all s last l e =
    sym (append-nil now) ∙ ap (λ ops. now ++ flat_map (operation_text source) ops) (sym (none_left s last b.kept l)) ∙ e

pub returns : goal.returns
returns c =
    ended c.args.board.now c.args.source.now _ _ c.loop-serial.serial c.args.last (let t = c.loop-serial-test.false in omega arith) c.loop-serial.invariant

pub returns-in_ok-append_kept : goal.returns-in_ok-append_kept
returns-in_ok-append_kept c =
    ended c.args.board.now c.args.source.now _ _ (c.loop-serial.serial + 1) c.args.last (omega arith) (c.in_ok-append_kept.ensures ∙ c.loop-serial.invariant)
