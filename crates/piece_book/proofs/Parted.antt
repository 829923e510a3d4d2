-- Parting a piece and making one of two are exchanges too.
use Rattle.std.proofs.Common.{◌≡◌, ℕ, ◌+◌, ◌-◌, ◌<◌, ◌≤◌, true, false, ◌==◌, nat_lt, nat_le, List, [], ◌∷◌, ◌++◌, Some, Contains, inl, inr, refl, sym, ◌∙◌, ap, subst, arith, append_assoc}
use Rattle.std.proofs.lemmas.Bool.{cases_Bool, cases_lt, lt-ltb, le-ltb, le-leb, lt-leb, eq-eqb, ne_eqb}
use Rattle.std.proofs.lemmas.Option.{none-some, same_Some}
use Rattle.std.specs.List.{flat_map}
use Rattle.num_range.specs.declared.space.Space.{Space}
use Rattle.num_range.specs.Range.{PlainRange}
use Rattle.reg_entry.specs.declared.piece.Piece.{Piece}
use Rattle.reg_entry.specs.Pieces.{piece_holds, piece_at, joined_pair, RisesFrom, AllPiecesOf}
use Rattle.reg_entry.specs.Reshaping.{split_piece, split_at_number, joined_at, CanJoinAt}
use Rattle.reg_entry.proofs.Holding.{holds_true, holds_from, not_held_above, piece_at-first, piece_at-rest, piece_at-below}
use Rattle.piece_book.specs.GivesWay.{ending_at, starting_at}
use Rattle.piece_book.specs.Exchange.{IsExchange}
use Rattle.piece_book.specs.Touched.{IsTouched}
use Rattle.piece_book.proofs.Exchanging.{contains_cases, rises_behind, rises_between, exchange_of, touched_of}

-- ---- the piece that holds a number

pub record IsHeld (ps : List Piece) (x : ℕ) (p : Piece) : Type 0 where
  pub front : List Piece
  pub back : List Piece
  pub parts : ps ≡ front ++ p ∷ back
  pub begins : p.range.first ≤ x
  pub ends : x ≤ p.range.last

pub held : (ps : List Piece) (x : ℕ) (p : Piece) → piece_at ps x ≡ Some p → IsHeld ps x p
held [] x p e = absurd (none-some p e)
held (q ∷ ps) x p e = elim (cases_Bool (piece_holds q x)) [
  | inl t ↦
      let same : q ≡ p = same_Some q p (sym (piece_at-first q ps x t) ∙ e) in
      let inside = holds_true q x t in
      let first : q.range.first ≡ p.range.first = ap (λ (y : Piece). y.range.first) same in
      let last : q.range.last ≡ p.range.last = ap (λ (y : Piece). y.range.last) same in
      record { front = []; back = ps; parts = ap (λ (y : Piece). y ∷ ps) same; begins = omega arith; ends = omega arith }
  | inr t ↦
      let rest = held ps x p (sym (piece_at-rest q ps x t) ∙ e) in
      record { front = q ∷ rest.front; back = rest.back; parts = ap (λ (xs : List Piece). q ∷ xs) rest.parts; begins = rest.begins; ends = rest.ends }
]

found_at : (low : ℕ) (front : List Piece) (p : Piece) (back : List Piece) (x : ℕ) → RisesFrom low (front ++ p ∷ back) → p.range.first ≤ x → x ≤ p.range.last
    → piece_at (front ++ p ∷ back) x ≡ Some p
found_at low [] p back x h begins ends = piece_at-first p back x (holds_from p x begins ends)
found_at low (q ∷ front) p back x h begins ends =
    let above = rises_behind (q.range.last + 1) front (p ∷ back) h.2 in
    piece_at-rest q (front ++ p ∷ back) x (not_held_above q x (omega (arith, above.0))) ∙ found_at (q.range.last + 1) front p back x h.2 begins ends

found_behind : (low : ℕ) (front : List Piece) (p : Piece) (back : List Piece) (x : ℕ) → RisesFrom low (front ++ p ∷ back) → p.range.last < x
    → piece_at (front ++ p ∷ back) x ≡ piece_at back x
found_behind low [] p back x h past = piece_at-rest p back x (not_held_above p x past)
found_behind low (q ∷ front) p back x h past =
    let above = rises_behind (q.range.last + 1) front (p ∷ back) h.2 in
    piece_at-rest q (front ++ p ∷ back) x (not_held_above q x (omega (arith, above.0, above.1))) ∙ found_behind (q.range.last + 1) front p back x h.2 past

-- ---- parting a piece

nothing_parted : (low : ℕ) (ps : List Piece) (at : ℕ) → RisesFrom low ps → at ≤ low → flat_map (split_piece at) ps ≡ ps
nothing_parted low [] at h l = refl
nothing_parted low (p ∷ ps) at h l =
    let t : nat_lt p.range.first at ≡ false = le-ltb p.range.first at (omega (arith, h.0)) in
    rw t (ap (λ (xs : List Piece). p ∷ xs) (nothing_parted (p.range.last + 1) ps at h.2 (omega (arith, h.0, h.1))))

parted : (low : ℕ) (front : List Piece) (p : Piece) (back : List Piece) (at : ℕ) → RisesFrom low (front ++ p ∷ back) → p.range.first < at → at ≤ p.range.last
    → split_at_number (front ++ p ∷ back) at ≡ front ++ (ending_at p (at - 1) ∷ starting_at p at ∷ back)
parted low [] p back at h l m =
    let t : nat_lt p.range.first at ≡ true = lt-ltb p.range.first at l in
    let u : nat_le at p.range.last ≡ true = le-leb at p.range.last m in
    rw (t, u) (ap (λ (xs : List Piece). ending_at p (at - 1) ∷ starting_at p at ∷ xs) (nothing_parted (p.range.last + 1) back at h.2 (omega arith)))
parted low (q ∷ front) p back at h l m =
    let above = rises_behind (q.range.last + 1) front (p ∷ back) h.2 in
    let u : nat_le at q.range.last ≡ false = lt-leb at q.range.last (omega (arith, above.0)) in
    elim (cases_Bool (nat_lt q.range.first at)) [
      | inl t ↦ rw (t, u) (ap (λ (xs : List Piece). q ∷ xs) (parted (q.range.last + 1) front p back at h.2 l m))
      | inr t ↦ rw t (ap (λ (xs : List Piece). q ∷ xs) (parted (q.range.last + 1) front p back at h.2 l m))
    ]

parts_apart : (p : Piece) (at : ℕ) (x : Piece) → p.range.first < at → at ≤ p.range.last → Contains (p ∷ []) x
    → Contains (ending_at p (at - 1) ∷ starting_at p at ∷ []) x → ⊥
parts_apart p at x l m goes comes = elim (contains_cases p [] x goes) [
  | inr none ↦ omega (arith, none.1)
  | inl same ↦ elim (contains_cases (ending_at p (at - 1)) (starting_at p at ∷ []) x comes) [
    | inl low ↦ let last : p.range.last ≡ at - 1 = ap (λ (y : Piece). y.range.last) (same ∙ sym low) in omega arith
    | inr rest ↦ elim (contains_cases (starting_at p at) [] x rest) [
      | inl high ↦ let first : p.range.first ≡ at = ap (λ (y : Piece). y.range.first) (same ∙ sym high) in omega arith
      | inr none ↦ omega (arith, none.1)
    ]
  ]
]

pub split_is : (ps : List Piece) (at : ℕ) (p : Piece) → RisesFrom 0 ps → RisesFrom 0 (split_at_number ps at) → piece_at ps at ≡ Some p → p.range.first < at
    → IsExchange (p ∷ []) (ending_at p (at - 1) ∷ starting_at p at ∷ []) ps (split_at_number ps at)
    × IsTouched ps (split_at_number ps at) (p ∷ []) (ending_at p (at - 1) ∷ starting_at p at ∷ [])
split_is ps at p h k found l =
    let here = held ps at p found in
    let rises : RisesFrom 0 (here.front ++ p ∷ here.back) = subst (λ (xs : List Piece). RisesFrom 0 xs) here.parts h in
    let after = ap (λ (xs : List Piece). split_at_number xs at) here.parts ∙ parted 0 here.front p here.back at rises l here.ends in
    let behind = rises_behind 0 here.front (p ∷ here.back) rises in (
      exchange_of ps (split_at_number ps at) here.front (p ∷ []) (starting_at p at ∷ []) here.back (ending_at p (at - 1)) here.parts after k (omega arith, behind.1, behind.2),
      touched_of ps (split_at_number ps at) here.front (p ∷ []) (ending_at p (at - 1) ∷ starting_at p at ∷ []) here.back here.parts after h k
          (λ x goes comes. parts_apart p at x l here.ends goes comes),
    )

-- ---- making one of two

joined_behind : (low : ℕ) (front : List Piece) (p q : Piece) (back : List Piece) (at : ℕ) → RisesFrom low (front ++ p ∷ q ∷ back) → q.range.first ≡ at
    → joined_at (front ++ p ∷ q ∷ back) at ≡ front ++ joined_pair p q ∷ back
joined_behind low [] p q back at h e = let t : (q.range.first == at) ≡ true = eq-eqb q.range.first at e in rw t refl
joined_behind low (x ∷ []) p q back at h e =
    let t : (p.range.first == at) ≡ false = ne_eqb p.range.first at (λ f. omega (arith, h.2.1, h.2.2.0)) in
    rw t (ap (λ (xs : List Piece). x ∷ xs) (joined_behind (x.range.last + 1) [] p q back at h.2 e))
joined_behind low (x ∷ y ∷ front) p q back at h e =
    let above = rises_behind (y.range.last + 1) (front ++ p ∷ []) (q ∷ back)
    (subst (λ (xs : List Piece). RisesFrom (y.range.last + 1) xs) (sym (append_assoc front (p ∷ []) (q ∷ back))) h.2.2) in
    let t : (y.range.first == at) ≡ false = ne_eqb y.range.first at (λ f. omega (arith, h.2.1, above.0)) in
    rw t (ap (λ (xs : List Piece). x ∷ xs) (joined_behind (x.range.last + 1) (y ∷ front) p q back at h.2 e))

pair_apart : (p q x : Piece) → RisesFrom 0 (p ∷ q ∷ []) → Contains (p ∷ q ∷ []) x → Contains (joined_pair p q ∷ []) x → ⊥
pair_apart p q x h goes comes = elim (contains_cases (joined_pair p q) [] x comes) [
  | inr none ↦ omega (arith, none.1)
  | inl pair ↦ elim (contains_cases p (q ∷ []) x goes) [
    | inl same ↦ let last : p.range.last ≡ q.range.last = ap (λ (y : Piece). y.range.last) (same ∙ sym pair) in omega (arith, h.2.0, h.2.1)
    | inr rest ↦ elim (contains_cases q [] x rest) [
      | inl same ↦ let first : q.range.first ≡ p.range.first = ap (λ (y : Piece). y.range.first) (same ∙ sym pair) in omega (arith, h.1, h.2.0)
      | inr none ↦ omega (arith, none.1)
    ]
  ]
]

-- the piece that begins at the number stands right behind the piece that holds the number before
next_held : (low : ℕ) (back : List Piece) (at : ℕ) (q : Piece) → RisesFrom low back → at ≤ low → piece_at back at ≡ Some q → (rest : List Piece) × (back ≡ q ∷ rest)
next_held low [] at q h l found = absurd (none-some q found)
next_held low (b ∷ back) at q h l found = elim (cases_Bool (piece_holds b at)) [
  | inl t ↦ (back, ap (λ (y : Piece). y ∷ back) (same_Some b q (sym (piece_at-first b back at t) ∙ found)))
  | inr t ↦
      let none = piece_at-below (b.range.last + 1) back at h.2 (omega (arith, h.0, h.1)) in
      absurd (none-some q (sym none ∙ sym (piece_at-rest b back at t) ∙ found))
]

pub join_is : (ps : List Piece) (at : ℕ) (can : CanJoinAt ps at) → RisesFrom 0 ps → RisesFrom 0 (joined_at ps at)
    → IsExchange (can.left ∷ can.right ∷ []) (joined_pair can.left can.right ∷ []) ps (joined_at ps at)
    × IsTouched ps (joined_at ps at) (can.left ∷ can.right ∷ []) (joined_pair can.left can.right ∷ [])
join_is ps at can h k =
    let p : Piece = can.left in
    let q : Piece = can.right in
    let positive = can.positive in
    let begins : q.range.first ≡ at = can.begins in
    let here = held ps (at - 1) p can.holds_before in
    let rises : RisesFrom 0 (here.front ++ p ∷ here.back) = subst (λ (xs : List Piece). RisesFrom 0 xs) here.parts h in
    let found : piece_at (here.front ++ p ∷ here.back) at ≡ Some q = ap (λ (xs : List Piece). piece_at xs at) (sym here.parts) ∙ can.holds_at in
    let ends : p.range.last < at = elim (cases_lt p.range.last at) [
      | inl below ↦ below
      | inr over ↦
          let same : p ≡ q = same_Some p q (sym (found_at 0 here.front p here.back at rises (omega (arith, here.begins)) over) ∙ found) in
          let first : p.range.first ≡ q.range.first = ap (λ (y : Piece). y.range.first) same in
          absurd (omega (arith, here.begins))
    ] in
    let behind = rises_behind 0 here.front (p ∷ here.back) rises in
    let next = next_held (p.range.last + 1) here.back at q behind.2 (omega (arith, here.ends)) (sym (found_behind 0 here.front p here.back at rises ends) ∙ found) in
    let was : ps ≡ here.front ++ p ∷ q ∷ next.0 = here.parts ∙ ap (λ (xs : List Piece). here.front ++ p ∷ xs) next.1 in
    let two : RisesFrom 0 (here.front ++ p ∷ q ∷ next.0) = subst (λ (xs : List Piece). RisesFrom 0 xs) was h in
    let after = ap (λ (xs : List Piece). joined_at xs at) was ∙ joined_behind 0 here.front p q next.0 at two begins in
    let run = rises_behind 0 here.front (p ∷ q ∷ next.0) two in (
      exchange_of ps (joined_at ps at) here.front (p ∷ q ∷ []) [] next.0 (joined_pair p q) was after k (omega arith, run.1, run.2),
      touched_of ps (joined_at ps at) here.front (p ∷ q ∷ []) (joined_pair p q ∷ []) next.0 was after h k
          (λ x goes comes. pair_apart p q x (rises_between ps here.front (p ∷ q ∷ []) next.0 h was) goes comes),
    )

-- ---- what the code builds

pub record IsChangedBy (ps new gone come : List Piece) : Type 0 where
  pub exchange : IsExchange gone come ps new
  pub touched : IsTouched ps new gone come

pub split_done : (ps gone come : List Piece) (at : ℕ) (p : Piece) (low high : PlainRange) (s : Space) (first last : ℕ) → RisesFrom 0 ps → RisesFrom 0 (split_at_number ps at)
    → piece_at ps at ≡ Some p → p.range.first < at → s ≡ p.range.space → first ≡ p.range.first → last ≡ p.range.last
    → low ≡ record { space = s; first = first; last = at - 1 } → high ≡ record { space = s; first = at; last = last }
    → gone ≡ p ∷ [] → come ≡ record { range = low; card = p.card } ∷ record { range = high; card = p.card } ∷ []
    → IsChangedBy ps (split_at_number ps at) gone come
split_done ps gone come at p low high s first last h k found l es ef el e_low e_high e_gone e_come =
    let low_is : record { range = low; card = p.card } ≡ ending_at p (at - 1) =
    ap (λ (q : PlainRange). let x : Piece = record { range = q; card = p.card } in x) e_low
    ∙ ap (λ (y : Space). let x : Piece = record { range = record { space = y; first = first; last = at - 1 }; card = p.card } in x) es
    ∙ ap (λ (n : ℕ). let x : Piece = record { range = record { space = p.range.space; first = n; last = at - 1 }; card = p.card } in x) ef in
    let high_is : record { range = high; card = p.card } ≡ starting_at p at =
    ap (λ (q : PlainRange). let x : Piece = record { range = q; card = p.card } in x) e_high
    ∙ ap (λ (y : Space). let x : Piece = record { range = record { space = y; first = at; last = last }; card = p.card } in x) es
    ∙ ap (λ (n : ℕ). let x : Piece = record { range = record { space = p.range.space; first = at; last = n }; card = p.card } in x) el in
    let come_is : come ≡ ending_at p (at - 1) ∷ starting_at p at ∷ [] =
    e_come
    ∙ ap (λ (x : Piece). x ∷ record { range = high; card = p.card } ∷ []) low_is
    ∙ ap (λ (x : Piece). ending_at p (at - 1) ∷ x ∷ []) high_is in
    let done = split_is ps at p h k found l in
    subst (λ (xs : List Piece). IsChangedBy ps (split_at_number ps at) xs come) (sym e_gone)
    (subst (λ (xs : List Piece). IsChangedBy ps (split_at_number ps at) (p ∷ []) xs) (sym come_is) (record { exchange = done.0; touched = done.1 }))

pub join_done : (ps gone come : List Piece) (at : ℕ) (can : CanJoinAt ps at) (p q : Piece) (pair : PlainRange) (s : Space) (first last : ℕ)
    → RisesFrom 0 ps → RisesFrom 0 (joined_at ps at) → can.left ≡ p → can.right ≡ q → s ≡ p.range.space → first ≡ p.range.first → last ≡ q.range.last
    → pair ≡ record { space = s; first = first; last = last } → gone ≡ p ∷ q ∷ [] → come ≡ record { range = pair; card = p.card } ∷ []
    → IsChangedBy ps (joined_at ps at) gone come
join_done ps gone come at can p q pair s first last h k ep eq es ef el e_pair e_gone e_come =
    let come_is : come ≡ joined_pair p q ∷ [] =
    e_come
    ∙ ap (λ (x : PlainRange). let y : Piece = record { range = x; card = p.card } in y ∷ []) e_pair
    ∙ ap (λ (x : Space). let y : Piece = record { range = record { space = x; first = first; last = last }; card = p.card } in y ∷ []) es
    ∙ ap (λ (n : ℕ). let y : Piece = record { range = record { space = p.range.space; first = n; last = last }; card = p.card } in y ∷ []) ef
    ∙ ap (λ (n : ℕ). let y : Piece = record { range = record { space = p.range.space; first = p.range.first; last = n }; card = p.card } in y ∷ []) el in
    let gone_is : gone ≡ can.left ∷ can.right ∷ [] = e_gone ∙ ap (λ (x : Piece). x ∷ q ∷ []) (sym ep) ∙ ap (λ (x : Piece). can.left ∷ x ∷ []) (sym eq) in
    let pair_is : come ≡ joined_pair can.left can.right ∷ [] = come_is ∙ ap (λ (x : Piece). joined_pair x q ∷ []) (sym ep) ∙ ap (λ (x : Piece). joined_pair can.left x ∷ []) (sym eq) in
    let done = join_is ps at can h k in
    subst (λ (xs : List Piece). IsChangedBy ps (joined_at ps at) xs come) (sym gone_is)
    (subst (λ (xs : List Piece). IsChangedBy ps (joined_at ps at) (can.left ∷ can.right ∷ []) xs) (sym pair_is) (record { exchange = done.0; touched = done.1 }))

-- the two pieces lie in order
pub pair_ordered : (ps : List Piece) (at : ℕ) (can : CanJoinAt ps at) → can.left.range.first ≤ can.right.range.last
pair_ordered ps at can =
    let below = held ps (at - 1) can.left can.holds_before in
    let above = held ps at can.right can.holds_at in
    omega (arith, below.begins, above.ends)

pub piece_space : (space : Space) (ps : List Piece) (x : ℕ) (p : Piece) → AllPiecesOf space ps → piece_at ps x ≡ Some p → p.range.space ≡ space
piece_space space [] x p h e = absurd (none-some p e)
piece_space space (q ∷ ps) x p h e = elim (cases_Bool (piece_holds q x)) [
  | inl t ↦ subst (λ (y : Piece). y.range.space ≡ space) (same_Some q p (sym (piece_at-first q ps x t) ∙ e)) h.0.of_space
  | inr t ↦ piece_space space ps x p h.1 (sym (piece_at-rest q ps x t) ∙ e)
]
