-- What is answered to an ask, by the operations that a board keeps.
use Rattle.std.specs.Prelude.{ℕ, ◌+◌, ◌==◌, Bool, not, ◌&&◌, nat_le, if◌then◌else◌, List, ◌++◌, filter, codes, decimal, Option, None, Some}
use Rattle.std.specs.Option.{is_some}
use Rattle.reg_entry.specs.Op.{PlainOp}
use Rattle.reg_entry.specs.Operations.{PlainBoard}
use Rattle.board.specs.declared.lens.Answer.{Answer}
use Rattle.board.specs.declared.lens.Media.TheVariants.{Plain}
use Rattle.op_feed.specs.ReachedBoard.{first_kept}
use Rattle.nrtm_stream.specs.declared.ask.Ask.{Ask}
use Rattle.nrtm_stream.specs.Stream.{capitals, stream_text, no_newer_text}

-- the last serial that is asked for, where the word stands for the register's last
abbrev pub last_asked : ℕ → Option ℕ → ℕ
last_asked serial None = serial
last_asked serial (Some last) = last

-- all behind the register's last operation is asked for, whatever that is
abbrev pub asks_for_newer : PlainBoard → Ask → Bool
asks_for_newer b ask = not (is_some ask.last) && ask.first == b.serial + 1

abbrev pub is_kept : PlainBoard → ℕ → Bool
is_kept b serial = nat_le (first_kept b) serial && nat_le serial b.serial

-- the first is at most the last, and both are kept
abbrev pub are_kept : PlainBoard → ℕ → ℕ → Bool
are_kept b first last = nat_le first last && is_kept b first && is_kept b last

abbrev pub is_between : ℕ → ℕ → PlainOp → Bool
is_between first last op = nat_le first op.serial && nat_le op.serial last

-- the kept operations from one serial to another
abbrev pub operations_between : PlainBoard → ℕ → ℕ → List PlainOp
operations_between b first last = filter (is_between first last) b.kept

-- two serials with `-` between them
abbrev pub serials_range : ℕ → ℕ → List ℕ
serials_range first last = decimal first ++ codes "-" ++ decimal last

-- what is answered where not all serials are kept
abbrev pub not_kept_text : PlainBoard → ℕ → ℕ → List ℕ
not_kept_text b first last =
    codes "%ERROR: serials " ++ serials_range first last ++ codes " are not inside " ++ serials_range (first_kept b) b.serial ++ codes "\n"

abbrev pub between_text : PlainBoard → List ℕ → ℕ → ℕ → List ℕ
between_text b source first last =
    if are_kept b first last then stream_text source first last (operations_between b first last) else not_kept_text b first last

-- the stream of what is asked for, or one line that says why there is none
abbrev pub stream_answer : PlainBoard → List ℕ → Ask → List ℕ
stream_answer b source ask =
    if asks_for_newer b ask then no_newer_text else between_text b source ask.first (last_asked b.serial ask.last)

-- the answer as plain text, under the registry's name
abbrev pub nrtm_answer : PlainBoard → Ask → List ℕ → Answer
nrtm_answer b ask registry = record {
  status = 200;
  media = Plain;
  body = stream_answer b (capitals registry) ask;
  entries = b.register.entries;
}
