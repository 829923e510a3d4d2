-- The first entries of a list: they are legal where the list is, and their operations are the first of the list's.
use Rattle.std.proofs.Common.{◌≡◌, ℕ, zero, suc, ◌+◌, ◌≤◌, List, [], ◌∷◌, ◌++◌, length, take, refl, sym, ◌∙◌, ap, subst, length-append, arith}
use Rattle.std.proofs.lemmas.List.{length-take}
use Rattle.std.proofs.Math.Seq.{take-append-add}
use Rattle.reg_entry.specs.declared.rooms.Rooms.{Rooms}
use Rattle.reg_entry.specs.Entry.{PlainEntry}
use Rattle.reg_entry.specs.Op.{PlainOp}
use Rattle.reg_entry.specs.Register.{Register, after_entry, empty_register}
use Rattle.reg_entry.specs.Next.{IsLegalFrom}
use Rattle.reg_entry.specs.Operations.{changes_of, numbered, operations_from, operations_of}

-- ---- lists

shorter : {T : Type 0} (n : ℕ) (xs ys : List T) → take n ys ≡ xs → length xs ≤ length ys
shorter n xs ys e =
    let h : length xs ≡ length (take n ys) = ap length (sym e) in
    omega (arith, h, length-take n ys)

pub take_take : {T : Type 0} (j k : ℕ) (xs : List T) → j ≤ k → take j (take k xs) ≡ take j xs
take_take zero k xs h = refl
take_take (suc j) zero xs h = absurd (omega arith)
take_take (suc j) (suc k) [] h = refl
take_take (suc j) (suc k) (x ∷ xs) h = ap (λ r. x ∷ r) (take_take j k xs (omega arith))

-- ---- entries

pub legal_prefix : (r : Register) (es : List PlainEntry) (k : ℕ) → IsLegalFrom r es → IsLegalFrom r (take k es)
legal_prefix r es zero legal = tt
legal_prefix r [] (suc k) legal = tt
legal_prefix r (e ∷ es) (suc k) legal = (legal.0, legal_prefix (after_entry r e) es k legal.1)

-- the operations of the first entries are the first operations
first_from : (r : Register) (last : ℕ) (es : List PlainEntry) (k : ℕ)
    → take (length (operations_from r last (take k es))) (operations_from r last es) ≡ operations_from r last (take k es)
first_from r last es zero = refl
first_from r last [] (suc k) = refl
first_from r last (e ∷ es) (suc k) =
    let own : List PlainOp = numbered last (changes_of r e) in
    let behind : ℕ = last + length (changes_of r e) in
    let first : List PlainOp = operations_from (after_entry r e) behind (take k es) in
    let all : List PlainOp = operations_from (after_entry r e) behind es in
    ap (λ n. take n (own ++ all)) (length-append own first)
    ∙ take-append-add own all (length first)
    ∙ ap (λ x. own ++ x) (first_from (after_entry r e) behind es k)

pub first_operations : (rooms : Rooms) (es : List PlainEntry) (k : ℕ)
    → take (length (operations_of rooms (take k es))) (operations_of rooms es) ≡ operations_of rooms (take k es)
first_operations rooms es k = first_from (empty_register rooms) 0 es k

-- fewer entries have no more operations
pub serials_rise : (rooms : Rooms) (es : List PlainEntry) (j k : ℕ) → j ≤ k
    → length (operations_of rooms (take j es)) ≤ length (operations_of rooms (take k es))
serials_rise rooms es j k h =
    subst (λ x. length (operations_of rooms x) ≤ length (operations_of rooms (take k es))) (take_take j k es h)
    (shorter _ _ _ (first_operations rooms (take k es) j))

pub last_serial : (rooms : Rooms) (es : List PlainEntry) (k : ℕ) → length (operations_of rooms (take k es)) ≤ length (operations_of rooms es)
last_serial rooms es k = shorter _ _ _ (first_operations rooms es k)
