use Rattle.std.proofs.Common.{◌≡◌, ◌+◌, Bool, take}
use Rattle.std.specs.List.{count_by}
use Rattle.page_dir.specs.Sorted.{Rises}
use Rattle.piece_book.specs.declared.free.key.FreeKey.{FreeKey}
use Rattle.piece_book.specs.Free.{free_keys, key_cmp, passing}
use Rattle.piece_book.proofs.free.keys.insert_all.Given as goal

abbrev pub invariant-loop-piece : goal.invariant-loop-piece
invariant-loop-piece l = record {
  rises : Rises key_cmp l.keys.pairs;
  counts : (passes : FreeKey → Bool) → passing passes l.keys.pairs ≡ passing passes l.fn.keys.pairs + count_by passes (free_keys (take l.piece-index l.pieces));
  room : l.keys.room ≡ l.fn.keys.room;
}
