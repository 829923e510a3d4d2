use Rattle.std.proofs.Common.{◌≡◌, ◌<◌, ◌∙◌, Bool, true, sym, subst, arith}
use Rattle.reg_entry.specs.Card.{is_available}
use Rattle.piece_book.specs.declared.free.key.FreeKey.{FreeKey}
use Rattle.piece_book.specs.Free.{is_key, key_of, passing}
use Rattle.piece_book.proofs.FreeChange.{counted_with, is_key_itself, keys_counted}
use Rattle.piece_book.proofs.free.keys.remove_all.Goals as goal

pub remove-requires-clause-there : goal.remove-requires-clause-there
remove-requires-clause-there c =
    let available : is_available c.piece-item.result.card.status ≡ true = sym c.is_available.ensures ∙ c.if-is_available.true in
    let key : FreeKey = key_of c.piece-item.result in
    let more = counted_with (is_key key) c.args.pieces.now c.loop-piece.piece-index c.piece-item.result c.loop-piece-test.true c.piece-item.is available (is_key_itself key) in
    let counts = c.loop-piece.invariant.counts (is_key key) in
    let least = c.requires.there key in
    let some : 0 < passing (is_key key) c.loop-piece.keys.pairs = omega arith in
    subst (λ (k : FreeKey). 0 < passing (is_key k) c.loop-piece.keys.pairs) (sym c.of.ensures) some

pub remove-requires-clause-room : goal.remove-requires-clause-room
remove-requires-clause-room c =
    let any : FreeKey → Bool = λ _. true in
    let counts = c.loop-piece.invariant.counts any in
    let now = keys_counted c.loop-piece.keys.pairs in
    let was = keys_counted c.args.keys.now.pairs in
    omega arith
