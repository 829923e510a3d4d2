use Rattle.std.proofs.Common.{◌≡◌, ℕ, List, ◌-◌, ap, arith, sym, subst, take, drop, length, true}
use Rattle.std.specs.Prelude.{IsTrue}
use Rattle.std.specs.List.{list_all}
use Rattle.std.proofs.lemmas.List.{length-drop, take_all}
use Rattle.reg_entry.specs.Handle.{is_handle, is_handle_byte}
use Rattle.holder_book.specs.HandleKey.{handle_key}
use Rattle.holder_book.proofs.HandleKeys.{AreHalves, halves, key_in_two}
use Rattle.holder_book.proofs.handle_key.handle_key.Goals as goal

parted : (bs handle : List ℕ) → bs ≡ handle → IsTrue (is_handle handle) → AreHalves bs (length bs - 12)
parted bs handle is form = halves bs (length bs - 12) (subst (λ hs. IsTrue (is_handle hs)) (sym is) form)

behind : (bs : List ℕ) (at : ℕ) → take (length bs - at) (drop at bs) ≡ drop at bs
behind bs at = let long = length-drop at bs in take_all (length bs - at) (drop at bs) (omega (arith, long))

pub half_key-high-requires-clause-alphabet : goal.half_key-high-requires-clause-alphabet
half_key-high-requires-clause-alphabet c = (parted c.bytes-bytes.result.now _ c.bytes-bytes.ensures.bytes c.bytes-bytes.ensures.form).high

pub half_key-low-requires-clause-alphabet : goal.half_key-low-requires-clause-alphabet
half_key-low-requires-clause-alphabet c =
    subst (λ bs. list_all is_handle_byte bs ≡ true) (sym (behind c.bytes-bytes.result.now (length c.bytes-bytes.result.now - 12)))
    (parted c.bytes-bytes.result.now _ c.bytes-bytes.ensures.bytes c.bytes-bytes.ensures.form).low

pub returns-clause-key : goal.returns-clause-key
returns-clause-key c =
    let whole = key_in_two (length c.bytes-bytes.result.now - 12) c.bytes-bytes.result.now (omega (arith, c.if-bytes-le12.false)) in
    let low = ap handle_key (behind c.bytes-bytes.result.now (length c.bytes-bytes.result.now - 12)) in
    let is = ap handle_key c.bytes-bytes.ensures.bytes in
    omega (arith, whole, low, is, c.half_key-low.ensures, c.half_key-high.ensures, c.from-2.ensures, c.from-3.ensures)
