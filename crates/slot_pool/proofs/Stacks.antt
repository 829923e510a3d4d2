-- The stack of vacant slots while slots are taken and given back.
use Rattle.std.proofs.Common.{◌≡◌, ◌≢◌, ℕ, ◌+◌, ◌<◌, ◌≤◌, cond, List, [], ◌∷◌, ◌++◌, Option, Some, None, length, set, refl, ap, sym, ◌∙◌, arith, length-set, length-append, inl, inr, subst}
use Rattle.std.specs.List.{slice_get}
use Rattle.std.specs.Option.{is_none}
use Rattle.std.proofs.lemmas.Bool.{cases_eq}
use Rattle.std.proofs.lemmas.List.{append-nil}
use Rattle.std.proofs.lemmas.List.Sums.{sum_by_push, count_by-le-length}
use Rattle.std.proofs.lemmas.Option.{slice_get_within, slice_get_past}
use Rattle.slot_pool.specs.Stack.{times, vacancy, IsStack, IsPool}
use Rattle.slot_pool.proofs.Times.{times_push_same, times_push_other}
use Rattle.slot_pool.proofs.Places.{spare_set, slice_get-set_same, slice_get-set_other, slice_get-push_same, slice_get-push_other}

vacant_from_vacancy : {T : Type 0} (o : Option (Option T)) → 0 < vacancy o → o ≡ Some None
vacant_from_vacancy None h = absurd (omega arith)
vacant_from_vacancy (Some None) h = refl
vacant_from_vacancy (Some (Some v)) h = absurd (omega arith)

-- the last of the waiting slots is vacant
pub last_is_vacant : {T : Type 0} {cells : List (Option T)} {room : ℕ} (all waiting : List ℕ) (slot : ℕ)
    → all ≡ waiting ++ slot ∷ [] → IsStack cells all room → slice_get cells slot ≡ Some None
last_is_vacant {T} {cells} all waiting slot is s =
    let e : times slot all ≡ times slot waiting + 1 = ap (times slot) is ∙ times_push_same waiting slot in
    vacant_from_vacancy (slice_get cells slot) (omega (arith, s.each slot, e))

-- the stack and the cells after one write, where the count for each other slot stays
written_over : {T : Type 0} (cells : List (Option T)) (before after : List ℕ) (room slot : ℕ) (cell cell' : Option T)
    → IsStack cells before room → slice_get cells slot ≡ Some cell
    → times slot after ≡ vacancy (Some cell') → ((k : ℕ) → k ≢ slot → times k after ≡ times k before)
    → length after + cond (is_none cell) 1 0 ≡ length before + cond (is_none cell') 1 0
    → IsStack (set cells slot cell') after room
written_over cells before after room slot cell cell' s at here others count = record {
  each = λ k. elim (cases_eq k slot) [
    | inl e ↦ subst (λ j. times j after ≡ vacancy (slice_get (set cells slot cell') j)) (sym e)
        (here ∙ ap vacancy (sym (slice_get-set_same cells slot cell' (slice_get_within cells slot cell at))))
    | inr ne ↦ others k ne ∙ s.each k ∙ ap vacancy (sym (slice_get-set_other cells slot k cell' ne))
  ];
  count = let e = spare_set cells slot cell cell' at in omega (arith, s.count, e);
  within = omega (arith, length-set cells slot cell', s.within);
  fits = s.fits;
}

-- one slot off the stack, and a value at it
stack_taken : {T : Type 0} {cells : List (Option T)} {room : ℕ} (all waiting : List ℕ) (slot : ℕ) (v : T)
    → all ≡ waiting ++ slot ∷ [] → IsStack cells all room → IsStack (set cells slot (Some v)) waiting room
stack_taken {T} {cells} {room} all waiting slot v is s =
    let at = last_is_vacant all waiting slot is s in
    let e : times slot all ≡ times slot waiting + 1 = ap (times slot) is ∙ times_push_same waiting slot in
    written_over cells all waiting room slot None (Some v) s at
    (let g : vacancy (slice_get cells slot) ≡ 1 = ap vacancy at in omega (arith, e, s.each slot, g))
    (λ k ne. sym (ap (times k) is ∙ times_push_other waiting slot k ne))
    (omega (arith, ap length is, length-append waiting (slot ∷ [])))

-- one slot more on the stack, and no value at it
stack_given : {T : Type 0} {cells : List (Option T)} {waiting : List ℕ} {room : ℕ} (slot : ℕ) (v : T)
    → IsStack cells waiting room → slice_get cells slot ≡ Some (Some v) → IsStack (set cells slot None) (waiting ++ slot ∷ []) room
stack_given {T} {cells} {waiting} {room} slot v s at =
    written_over cells waiting (waiting ++ slot ∷ []) room slot (Some v) None s at
    (let e = times_push_same waiting slot in let g : vacancy (slice_get cells slot) ≡ 0 = ap vacancy at in omega (arith, e, g, s.each slot))
    (λ k ne. times_push_other waiting slot k ne)
    (omega (arith, length-append waiting (slot ∷ [])))

-- another value at a slot
stack_rewritten : {T : Type 0} {cells : List (Option T)} {waiting : List ℕ} {room : ℕ} (slot : ℕ) (v w : T)
    → IsStack cells waiting room → slice_get cells slot ≡ Some (Some v) → IsStack (set cells slot (Some w)) waiting room
stack_rewritten {T} {cells} {waiting} {room} slot v w s at =
    written_over cells waiting waiting room slot (Some v) (Some w) s at
    (let g : vacancy (slice_get cells slot) ≡ 0 = ap vacancy at in omega (arith, g, s.each slot))
    (λ k ne. refl)
    (omega arith)

-- where a slot is live, there is room for one slot more on the stack
pub stack_has_room : {T : Type 0} {cells : List (Option T)} {waiting : List ℕ} {room : ℕ} (slot : ℕ) (v : T)
    → IsStack cells waiting room → slice_get cells slot ≡ Some (Some v) → length waiting < room
stack_has_room {T} {cells} {waiting} {room} slot v s at =
    let e = spare_set cells slot (Some v) None at in
    let le = count_by-le-length is_none (set cells slot None) in
    omega (arith, e, le, length-set cells slot None, s.count, s.within)

-- a cell more, with a value
stack_begun : {T : Type 0} {cells : List (Option T)} {waiting : List ℕ} {room : ℕ} (v : T)
    → IsStack cells waiting room → length cells < room → IsStack (cells ++ Some v ∷ []) waiting room
stack_begun {T} {cells} {waiting} {room} v s below = record {
  each = λ k. elim (cases_eq k (length cells)) [
    | inl e ↦
        let here : slice_get cells k ≡ None = slice_get_past cells k (omega arith) in
        let there : slice_get (cells ++ Some v ∷ []) k ≡ Some (Some v) = ap (slice_get (cells ++ Some v ∷ [])) e ∙ slice_get-push_same cells (Some v) in
        s.each k ∙ ap vacancy here ∙ sym (ap vacancy there)
    | inr ne ↦ s.each k ∙ ap vacancy (sym (slice_get-push_other cells (Some v) k ne))
  ];
  count = let e = sum_by_push (λ (c : Option T). cond (is_none c) 1 0) cells (Some v) in omega (arith, e, s.count);
  within = omega (arith, length-append cells (Some v ∷ []));
  fits = s.fits;
}

-- ---- the same of a pool

pub pool_taken : {T : Type 0} {used : List (Option T)} {room a b b' : ℕ} (all waiting : List ℕ) (slot : ℕ) (v : T)
    → all ≡ waiting ++ slot ∷ [] → IsPool used all room a b → b ≤ b' → IsPool (set used slot (Some v)) waiting room a b'
pool_taken {T} {used} {room} all waiting slot v is p more = record {
  stack = stack_taken all waiting slot v is p.stack;
  cells_fit = p.cells_fit;
  slots_fit = omega (arith, p.slots_fit);
}

-- no slot waits, and a cell more is used
pub pool_begun : {T : Type 0} {used : List (Option T)} {room a b a' b' : ℕ} (waiting after : List ℕ) (v : T)
    → waiting ≡ after ++ [] → IsPool used waiting room a b → length used < room → a ≤ a' → b ≤ b' → IsPool (used ++ Some v ∷ []) after room a' b'
pool_begun {T} {used} {room} waiting after v is p below more more' = record {
  stack = subst (λ slots. IsStack (used ++ Some v ∷ []) slots room) (is ∙ append-nil after) (stack_begun v p.stack below);
  cells_fit = omega (arith, p.cells_fit);
  slots_fit = omega (arith, p.slots_fit);
}

pub pool_given : {T : Type 0} {used : List (Option T)} {waiting : List ℕ} {room a b b' : ℕ} (slot : ℕ) (v : T)
    → IsPool used waiting room a b → slice_get used slot ≡ Some (Some v) → b ≤ b' → IsPool (set used slot None) (waiting ++ slot ∷ []) room a b'
pool_given slot v p at more = record {
  stack = stack_given slot v p.stack at;
  cells_fit = p.cells_fit;
  slots_fit = omega (arith, p.slots_fit);
}

pub pool_rewritten : {T : Type 0} {used : List (Option T)} {waiting : List ℕ} {room a b : ℕ} (slot : ℕ) (v w : T)
    → IsPool used waiting room a b → slice_get used slot ≡ Some (Some v) → IsPool (set used slot (Some w)) waiting room a b
pool_rewritten slot v w p at = record {
  stack = stack_rewritten slot v w p.stack at;
  cells_fit = p.cells_fit;
  slots_fit = p.slots_fit;
}
