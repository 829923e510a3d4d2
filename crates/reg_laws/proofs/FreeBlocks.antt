-- The test of a free block agrees with what a free block is, and the least number outside the pool is the least.
use Rattle.std.proofs.Common.{◌≡◌, ℕ, ◌+◌, ◌-◌, ◌%◌, ◌<◌, ◌≤◌, ◌↔◌, true, false, ◌&&◌, ◌==◌, nat_le, inl, inr, List, [], ◌∷◌, Option, None, Some, refl, sym, ◌∙◌, ap, subst, arith}
use Rattle.std.specs.Option.{is_some}
use Rattle.std.specs.List.{list_any}
use Rattle.std.proofs.lemmas.Bool.{cond_both, cond-true, cond-false, cases_Bool, cases_lt, both_ways, and_parts, and_from, or_cases, or_left, or_right, leb-true, leb-false, le-leb, eqb-true, eq-eqb, false≢true}
use Rattle.num_range.specs.declared.space.Space.{Space}
use Rattle.num_range.specs.Space.{top_of}
use Rattle.num_range.specs.Range.{PlainRange}
use Rattle.reg_entry.specs.declared.piece.Piece.{Piece}
use Rattle.reg_entry.specs.Card.{is_available}
use Rattle.reg_entry.specs.Pieces.{piece_holds, piece_at, RisesFrom, IsSettledAfter, IsSettled, ArePieces}
use Rattle.reg_entry.specs.Blocks.{is_free, alignment, IsFreeBlock}
use Rattle.reg_entry.specs.Decision.{least_missing}
use Rattle.reg_entry.specs.Next.{has_free, is_free_block}
use Rattle.reg_entry.proofs.Holding.{holds_true, holds_from, piece_at-first, piece_at-rest, piece_at-below, not_held_above}
use Rattle.reg_entry.proofs.LeastBlock.{free_cases, free_in_first, free_in_rest, free_from, run_ends_in_piece}
use Rattle.reg_laws.specs.Missing.{IsLeastMissing}

-- ---- free blocks

free_within : (ps : List Piece) (first last n : ℕ) → list_any (has_free first last) ps ≡ true → first ≤ n → n ≤ last → is_free ps n ≡ true
free_within [] first last n e h k = absurd (false≢true e)
free_within (p ∷ ps) first last n e h k =
    elim (or_cases (has_free first last p) (list_any (has_free first last) ps) e) [
      | inl t ↦
          let a = and_parts (is_available p.card.status && piece_holds p first) (piece_holds p last) t in
          let b = and_parts (is_available p.card.status) (piece_holds p first) a.0 in
          let f = holds_true p first b.1 in
          let l = holds_true p last a.1 in
          free_in_first p ps n b.0 (omega arith) (omega arith)
      | inr rest ↦ free_in_rest p ps n (free_within ps first last n rest h k)
    ]

settled_tail : (p : Piece) (ps : List Piece) → IsSettledAfter p ps → IsSettled ps
settled_tail p [] h = tt
settled_tail p (q ∷ qs) h = h.1

run_in_one : (low : ℕ) (ps : List Piece) (first last : ℕ) → RisesFrom low ps → IsSettled ps → first ≤ last
    → ((n : ℕ) → first ≤ n → n ≤ last → is_free ps n ≡ true) → list_any (has_free first last) ps ≡ true
run_in_one low [] first last rises settled order free = free first (omega arith) order
run_in_one low (p ∷ ps) first last rises settled order free =
    elim (free_cases p ps first (free first (omega arith) order)) [
      | inl here ↦
          let ends : last ≤ p.range.last = run_ends_in_piece p ps first last rises.2 settled here.0 rises.1 here.2 free in
          let begins : p.range.first ≤ first = here.1 in
          let inside : first ≤ p.range.last = here.2 in
          or_left (has_free first last p) (list_any (has_free first last) ps)
          (and_from (is_available p.card.status && piece_holds p first) (piece_holds p last)
          (and_from (is_available p.card.status) (piece_holds p first) here.0 (holds_from p first begins inside)) (holds_from p last (omega arith) ends))
      | inr rest ↦
          let above : p.range.last + 1 ≤ first = free_from (p.range.last + 1) ps first rises.2 rest in
          or_right (has_free first last p) (list_any (has_free first last) ps)
          (run_in_one (p.range.last + 1) ps first last rises.2 (settled_tail p ps settled) order
          (λ n h k. elim (free_cases p ps n (free n h k)) [ inl here ↦ absurd (past n h here.2 above) | inr later ↦ later ]))
    ]
  where
    past : (n : ℕ) → first ≤ n → n ≤ p.range.last → p.range.last + 1 ≤ first → ⊥
    past n h k above = omega arith

pub free_block_is_free : (space : Space) (ps : List Piece) (size start : ℕ) → ArePieces space ps
    → (is_free_block ps space size start ≡ true) ↔ IsFreeBlock ps space size start
free_block_is_free space ps size start h =
    let aligned = start % alignment space size == 0 in
    let within = nat_le (start + (size - 1)) (top_of space) in
    let any = list_any (has_free start (start + (size - 1))) ps in (
      λ e.
          let a = and_parts (aligned && within) any e in
          let b = and_parts aligned within a.0 in
          record {
            aligned = eqb-true (start % alignment space size) 0 b.0;
            within = leb-true (start + (size - 1)) (top_of space) b.1;
            free = λ n k l. free_within ps start (start + (size - 1)) n a.1 k l;
          },
      λ block.
          and_from (aligned && within) any
          (and_from aligned within (eq-eqb (start % alignment space size) 0 block.aligned) (le-leb (start + (size - 1)) (top_of space) block.within))
          (run_in_one 0 ps start (start + (size - 1)) h.rises h.settled (omega arith) block.free),
    )

-- ---- numbers outside the pool

missing_from : (low : ℕ) (ps : List Piece) (x last : ℕ) → RisesFrom low ps → IsLeastMissing ps x last (least_missing ps x last)
missing_from low [] x last rises =
    cond_both (nat_le x last) (Some x) None (IsLeastMissing [] x last)
    (λ t. (omega arith, leb-true x last t, refl, λ y h k. absurd (let no : ⊥ = omega arith in no)))
    (λ f. λ y h k. absurd (let past : last < x = leb-false x last f in let no : ⊥ = omega arith in no))
missing_from low (p ∷ ps) x last rises =
    elim (cases_Bool (piece_holds p x)) [
      | inl t ↦
          subst (IsLeastMissing (p ∷ ps) x last) (ap (λ y. least_missing ps y last) (sym (cond-true (piece_holds p x) (p.range.last + 1) x t)))
          (held p ps x last (holds_true p x t) (least_missing ps (p.range.last + 1) last) (missing_from (p.range.last + 1) ps (p.range.last + 1) last rises.2))
      | inr f ↦
          subst (IsLeastMissing (p ∷ ps) x last) (ap (λ y. least_missing ps y last) (sym (cond-false (piece_holds p x) (p.range.last + 1) x f)))
          (elim (cases_lt p.range.last x) [
            | inl past ↦ above p ps x last past (least_missing ps x last) (missing_from (p.range.last + 1) ps x last rises.2)
            | inr upto ↦ below low p ps x last rises f upto (least_missing ps x last) (missing_from (p.range.last + 1) ps x last rises.2)
          ])
    ]
  where
    in_first : (p : Piece) (ps : List Piece) (y : ℕ) → p.range.first ≤ y → y ≤ p.range.last → is_some (piece_at (p ∷ ps) y) ≡ true
    in_first p ps y h k = ap is_some (piece_at-first p ps y (holds_from p y h k))

    in_rest : (p : Piece) (ps : List Piece) (y : ℕ) → p.range.last < y → piece_at (p ∷ ps) y ≡ piece_at ps y
    in_rest p ps y h = piece_at-rest p ps y (not_held_above p y h)

    held : (p : Piece) (ps : List Piece) (x last : ℕ) → (p.range.first ≤ x) × (x ≤ p.range.last) → (o : Option ℕ)
        → IsLeastMissing ps (p.range.last + 1) last o → IsLeastMissing (p ∷ ps) x last o
    held p ps x last inside None h = λ y k l. elim (cases_lt p.range.last y) [
      | inl past ↦ ap is_some (in_rest p ps y past) ∙ h y (omega arith) l
      | inr upto ↦ in_first p ps y (let i = inside.0 in omega arith) upto
    ]
    held p ps x last inside (Some n) h = (
      (let i = inside.1 in let j = h.0 in omega arith),
      h.1,
      in_rest p ps n (let j = h.0 in omega arith) ∙ h.2,
      λ y k l. elim (cases_lt p.range.last y) [
        | inl past ↦ ap is_some (in_rest p ps y past) ∙ h.3 y (omega arith) l
        | inr upto ↦ in_first p ps y (let i = inside.0 in omega arith) upto
      ],
    )

    above : (p : Piece) (ps : List Piece) (x last : ℕ) → p.range.last < x → (o : Option ℕ) → IsLeastMissing ps x last o → IsLeastMissing (p ∷ ps) x last o
    above p ps x last past None h = λ y k l. ap is_some (in_rest p ps y (omega arith)) ∙ h y k l
    above p ps x last past (Some n) h =
        (h.0, h.1, in_rest p ps n (let j = h.0 in omega arith) ∙ h.2, λ y k l. ap is_some (in_rest p ps y (omega arith)) ∙ h.3 y k l)

    no_piece : (low : ℕ) (p : Piece) (ps : List Piece) (x : ℕ) → RisesFrom low (p ∷ ps) → x ≤ p.range.last → is_some (piece_at ps x) ≡ true → ⊥
    no_piece low p ps x rises upto some =
        both_ways (is_some (piece_at ps x)) (ap is_some (piece_at-below (p.range.last + 1) ps x rises.2 (omega arith))) some

    below : (low : ℕ) (p : Piece) (ps : List Piece) (x last : ℕ) → RisesFrom low (p ∷ ps) → piece_holds p x ≡ false → x ≤ p.range.last → (o : Option ℕ)
        → IsLeastMissing ps x last o → IsLeastMissing (p ∷ ps) x last o
    below low p ps x last rises f upto None h = λ y k l.
        absurd (no_piece low p ps x rises upto (h x (omega arith) (omega arith)))
    below low p ps x last rises f upto (Some n) h =
        let first : x ≡ n = elim (cases_lt x n) [
          | inl lt ↦ absurd (no_piece low p ps x rises upto (h.3 x (omega arith) lt))
          | inr ge ↦ let j = h.0 in omega arith
        ] in (
          h.0,
          h.1,
          ap (piece_at (p ∷ ps)) (sym first) ∙ piece_at-rest p ps x f ∙ piece_at-below (p.range.last + 1) ps x rises.2 (omega arith),
          λ y k l. absurd (let no : ⊥ = omega arith in no),
        )

pub missing_is_least : (space : Space) (ps : List Piece) (r : PlainRange) → ArePieces space ps
    → IsLeastMissing ps r.first r.last (least_missing ps r.first r.last)
missing_is_least space ps r h = missing_from 0 ps r.first r.last h.rises
