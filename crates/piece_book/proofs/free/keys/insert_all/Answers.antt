use Rattle.std.proofs.Common.{◌≡◌, ◌∙◌, Bool, true, refl, sym, subst, arith}
use Rattle.reg_entry.specs.Card.{is_available}
use Rattle.piece_book.specs.declared.free.key.FreeKey.{FreeKey}
use Rattle.piece_book.specs.Free.{free_keys, is_key, key_of, passing}
use Rattle.piece_book.proofs.FreePairs.{count_all}
use Rattle.piece_book.proofs.FreeChange.{counted_with, is_key_itself, keys_counted}
use Rattle.piece_book.proofs.free.keys.insert_all.Goals as goal

pub insert-requires-clause-new : goal.insert-requires-clause-new
insert-requires-clause-new c =
    let available : is_available c.piece-item.result.card.status ≡ true = sym c.is_available.ensures ∙ c.if-is_available.true in
    let key : FreeKey = key_of c.piece-item.result in
    let more = counted_with (is_key key) c.args.pieces.now c.loop-piece.piece-index c.piece-item.result c.loop-piece-test.true c.piece-item.is available (is_key_itself key) in
    let counts = c.loop-piece.invariant.counts (is_key key) in
    let most = c.requires.new key in
    let none : passing (is_key key) c.loop-piece.keys.pairs ≡ 0 = omega arith in
    subst (λ (k : FreeKey). passing (is_key k) c.loop-piece.keys.pairs ≡ 0) (sym c.of.ensures) none

pub insert-requires-clause-room : goal.insert-requires-clause-room
insert-requires-clause-room c =
    let available : is_available c.piece-item.result.card.status ≡ true = sym c.is_available.ensures ∙ c.if-is_available.true in
    let any : FreeKey → Bool = λ _. true in
    let more = counted_with any c.args.pieces.now c.loop-piece.piece-index c.piece-item.result c.loop-piece-test.true c.piece-item.is available refl in
    let counts = c.loop-piece.invariant.counts any in
    let now = keys_counted c.loop-piece.keys.pairs in
    let was = keys_counted c.args.keys.now.pairs in
    let all = count_all (free_keys c.args.pieces.now) in
    omega arith
