-- The operations of a stream are some of all operations, one behind the other.
use Rattle.std.proofs.Common.{◌≡◌, ℕ, suc, ◌+◌, ◌-◌, ◌<◌, ◌≤◌, ◌&&◌, true, nat_le, List, [], ◌∷◌, take, drop, filter, length, sym, ap, ◌∙◌, inl, inr, arith}
use Rattle.std.proofs.lemmas.Bool.{cases_eq, cases_lt, cond-true, cond-false, and_parts, leb-true}
use Rattle.std.proofs.lemmas.List.{length-drop, drop-drop}
use Rattle.reg_entry.specs.Op.{PlainOp}
use Rattle.reg_entry.specs.Operations.{PlainBoard, last_of}
use Rattle.op_feed.specs.ReachedBoard.{first_kept, HaveSerialsFrom}
use Rattle.nrtm_stream.specs.Answer.{is_between, is_kept, are_kept, operations_between}
use Rattle.nrtm_stream.proofs.Kept.{inside, below, none_above, missing, none_left}

-- the first of the list is asked for
from_front : (k last : ℕ) (ops : List PlainOp) → HaveSerialsFrom k ops → k ≤ last + 1 → last < k + length ops
    → filter (is_between k last) ops ≡ take (last + 1 - k) ops
from_front k last [] h low high = ap (λ n. take n []) (let none : 0 ≡ last + 1 - k = omega (arith, high) in none)
from_front k last (op ∷ ops) h low high =
    elim (cases_lt last k) [
      | inl none ↦ none_left k last (op ∷ ops) none ∙ ap (λ n. take n (op ∷ ops)) (let zero_is : 0 ≡ last + 1 - k = omega (arith, none) in zero_is)
      | inr some ↦
          cond-true (is_between k last op) (op ∷ filter (is_between k last) ops) (filter (is_between k last) ops) (inside k last op.serial h.0 some)
          ∙ ap (λ xs. op ∷ xs)
          (missing k last ops (none_above k (k + 1) ops (omega arith) h.1) ∙ from_front (k + 1) last ops h.1 (omega (arith, some)) (omega (arith, high)))
          ∙ ap (λ n. take n (op ∷ ops)) (let one_more : suc (last + 1 - (k + 1)) ≡ last + 1 - k = omega (arith, some) in one_more)
    ]

between_is : (k first last : ℕ) (ops : List PlainOp) → HaveSerialsFrom k ops → k ≤ first → first ≤ last → last < k + length ops
    → filter (is_between first last) ops ≡ take (last + 1 - first) (drop (first - k) ops)
between_is k first last [] h low order high = absurd (omega (arith, low, order, high))
between_is k first last (op ∷ ops) h low order high =
    elim (cases_eq k first) [
      | inl here ↦
          ap (λ n. filter (is_between n last) (op ∷ ops)) (sym here)
          ∙ from_front k last (op ∷ ops) h (omega (arith, here, order)) high
          ∙ ap (λ n. take (last + 1 - n) (op ∷ ops)) here
          ∙ ap (λ n. take (last + 1 - first) (drop n (op ∷ ops))) (let none : 0 ≡ first - k = omega (arith, here) in none)
      | inr later ↦
          cond-false (is_between first last op) (op ∷ filter (is_between first last) ops) (filter (is_between first last) ops)
          (below first last op.serial (omega (arith, h.0, low, later)))
          ∙ between_is (k + 1) first last ops h.1 (omega (arith, low, later)) order (omega (arith, high))
          ∙ ap (λ n. take (last + 1 - first) (drop n (op ∷ ops))) (let one_more : suc (first - (k + 1)) ≡ first - k = omega (arith, low, later) in one_more)
    ]

pub streamed : (b : PlainBoard) (all : List PlainOp) (window first last : ℕ) → b.serial ≡ length all → b.kept ≡ last_of window all
    → HaveSerialsFrom (first_kept b) b.kept → are_kept b first last ≡ true
    → operations_between b first last ≡ take (last + 1 - first) (drop (first - 1) all)
streamed b all window first last count kept serials both =
    let gone : ℕ = length all - window in
    let (front, end) = and_parts (nat_le first last && is_kept b first) (is_kept b last) both in
    let (order, start) = and_parts (nat_le first last) (is_kept b first) front in
    let low : first_kept b ≤ first = leb-true _ _ (and_parts (nat_le (first_kept b) first) (nat_le first b.serial) start).0 in
    let high : last ≤ b.serial = leb-true _ _ (and_parts (nat_le (first_kept b) last) (nat_le last b.serial) end).1 in
    let ordered : first ≤ last = leb-true _ _ order in
    let left : length b.kept ≡ length all - gone = ap length kept ∙ length-drop gone all in
    let first_is : first_kept b ≡ gone + 1 = omega (arith, left, count) in
    between_is (first_kept b) first last b.kept serials low ordered (omega (arith, low, high, ordered, left, count))
    ∙ ap (λ xs. take (last + 1 - first) (drop (first - first_kept b) xs)) kept
    ∙ ap (take (last + 1 - first)) (drop-drop (first - first_kept b) gone all)
    ∙ ap (λ n. take (last + 1 - first) (drop n all)) (let e : gone + (first - first_kept b) ≡ first - 1 = omega (arith, first_is, low) in e)
