-- How many pieces there are once one was split before a number.
use Rattle.std.proofs.Common.{◌≡◌, ℕ, suc, ◌+◌, ◌<◌, ◌≤◌, true, false, ◌&&◌, nat_lt, nat_le, cond, List, [], ◌∷◌, length, Option, None, Some, Bool, refl, sym, ◌∙◌, ap, inl, inr, arith, length-append, add-zero}
use Rattle.std.proofs.lemmas.Bool.{cases_Bool, cond-true, cond-false, and_parts, true≢false, leb-true, le-leb, ltb-true, lt-ltb, le-ltb}
use Rattle.std.proofs.lemmas.Option.{none-some}
use Rattle.num_range.specs.declared.space.Space.{Space}
use Rattle.num_range.specs.declared.space.Space.TheVariants.{Asn, Ipv4, Ipv6}
use Rattle.reg_entry.specs.declared.piece.Piece.{Piece}
use Rattle.reg_entry.specs.Pieces.{piece_holds, piece_at, RisesFrom}
use Rattle.num_range.specs.Number.{PlainNumber}
use Rattle.reg_entry.specs.Partition.{Partition, pieces_in, with_pieces, piece_count, IsPartition}
use Rattle.reg_entry.specs.Reshaping.{holds_past_first, split_piece, split_at_number}
use Rattle.reg_entry.proofs.Holding.{holds_true, holds_from, piece_at-first, piece_at-rest, piece_at-below}

-- a split adds a piece where the number isn't the first of the one that holds it
abbrev pub added_by_split : Option Piece → ℕ → ℕ
added_by_split None at = 0
added_by_split (Some p) at = cond (nat_lt p.range.first at) 1 0

one_or_two : (p : Piece) (at : ℕ) → length (split_piece at p) ≡ 1 + cond (holds_past_first p at) 1 0
one_or_two p at =
    elim (cases_Bool (holds_past_first p at)) [
      | inl t ↦ rw t refl
      | inr f ↦ rw f refl
    ]

pub length_split : (low : ℕ) (ps : List Piece) (at : ℕ) (o : Option Piece) → RisesFrom low ps → piece_at ps at ≡ o
    → length (split_at_number ps at) ≡ length ps + added_by_split o at
length_split low [] at None rises e = refl
length_split low [] at (Some p) rises e = absurd (none-some p e)
length_split low (q ∷ qs) at o rises e =
    let parts : length (split_at_number (q ∷ qs) at) ≡ length (split_piece at q) + length (split_at_number qs at) =
    length-append (split_piece at q) (split_at_number qs at) in
    let first : length (split_piece at q) ≡ 1 + cond (holds_past_first q at) 1 0 = one_or_two q at in
    elim (cases_Bool (piece_holds q at)) [
      | inl t ↦
          let h = holds_true q at t in
          let begins : q.range.first ≤ at = h.0 in
          let ends : at ≤ q.range.last = h.1 in
          let is : o ≡ Some q = sym e ∙ piece_at-first q qs at t in
          let rest : length (split_at_number qs at) ≡ length qs + 0 =
          length_split (q.range.last + 1) qs at None rises.2 (piece_at-below (q.range.last + 1) qs at rises.2 (omega arith)) in
          let whole : (nat_lt q.range.first at && nat_le at q.range.last) ≡ nat_lt q.range.first at = and_true (nat_lt q.range.first at) (nat_le at q.range.last) (le-leb at q.range.last ends) in
          rw is (add_up (length (split_at_number (q ∷ qs) at)) (length (split_piece at q)) (length (split_at_number qs at)) (cond (holds_past_first q at) 1 0)
          (cond (nat_lt q.range.first at) 1 0) (length qs) parts first rest (ap (λ (b : Bool). cond b 1 0) whole))
      | inr f ↦
          let rest : length (split_at_number qs at) ≡ length qs + added_by_split o at =
          length_split (q.range.last + 1) qs at o rises.2 (sym (piece_at-rest q qs at f) ∙ e) in
          let none : holds_past_first q at ≡ false = not_past q at f in
          unsplit (length (split_at_number (q ∷ qs) at)) (length (split_piece at q)) (length (split_at_number qs at)) (cond (holds_past_first q at) 1 0)
          (added_by_split o at) (length qs) parts first rest (ap (λ (b : Bool). cond b 1 0) none)
    ]
  where
    and_true : (a b : Bool) → b ≡ true → (a && b) ≡ a
    and_true true b e = e
    and_true false b e = refl

    not_past : (q : Piece) (at : ℕ) → piece_holds q at ≡ false → holds_past_first q at ≡ false
    not_past q at f =
        elim (cases_Bool (holds_past_first q at)) [
          | inr g ↦ g
          | inl t ↦
              let both = and_parts (nat_lt q.range.first at) (nat_le at q.range.last) t in
              let begins : q.range.first < at = ltb-true q.range.first at both.0 in
              let ends : at ≤ q.range.last = leb-true at q.range.last both.1 in
              absurd (true≢false (sym (holds_from q at (omega arith) ends) ∙ f))
        ]

    add_up : (whole first rest c d n : ℕ) → whole ≡ first + rest → first ≡ 1 + c → rest ≡ n + 0 → c ≡ d → whole ≡ suc n + d
    add_up whole first rest c d n p f r e = omega arith

    unsplit : (whole first rest c d n : ℕ) → whole ≡ first + rest → first ≡ 1 + c → rest ≡ n + d → c ≡ 0 → whole ≡ suc n + d
    unsplit whole first rest c d n p f r e = omega arith

count_in : (pool : Partition) (s : Space) (ps : List Piece) (n : ℕ) → length ps ≡ length (pieces_in pool s) + n
    → piece_count (with_pieces pool s ps) ≡ piece_count pool + n
count_in pool Asn ps n e = omega arith
count_in pool Ipv4 ps n e = omega arith
count_in pool Ipv6 ps n e = omega arith

-- how many pieces there are in all
pub count_split : (pool : Partition) (at : PlainNumber) (o : Option Piece) → IsPartition pool → o ≡ piece_at (pieces_in pool at.space) at.value
    → piece_count (with_pieces pool at.space (split_at_number (pieces_in pool at.space) at.value)) ≡ piece_count pool + added_by_split o at.value
count_split pool at o valid e =
    count_in pool at.space (split_at_number (pieces_in pool at.space) at.value) (added_by_split o at.value)
    (length_split 0 (pieces_in pool at.space) at.value o (valid.each at.space).rises (sym e))

pub split_adds : (pool : Partition) (at : PlainNumber) (p : Piece) → IsPartition pool → piece_at (pieces_in pool at.space) at.value ≡ Some p
    → p.range.first < at.value
    → piece_count (with_pieces pool at.space (split_at_number (pieces_in pool at.space) at.value)) ≡ piece_count pool + 1
split_adds pool at p valid e lt =
    count_split pool at (Some p) valid (sym e) ∙ ap (λ n. piece_count pool + n) (cond-true (nat_lt p.range.first at.value) 1 0 (lt-ltb p.range.first at.value lt))

pub split_at_first : (pool : Partition) (at : PlainNumber) (p : Piece) → IsPartition pool → piece_at (pieces_in pool at.space) at.value ≡ Some p
    → at.value ≤ p.range.first
    → piece_count (with_pieces pool at.space (split_at_number (pieces_in pool at.space) at.value)) ≡ piece_count pool
split_at_first pool at p valid e le =
    count_split pool at (Some p) valid (sym e)
    ∙ ap (λ n. piece_count pool + n) (cond-false (nat_lt p.range.first at.value) 1 0 (le-ltb p.range.first at.value le))
    ∙ add-zero (piece_count pool)

pub split_outside : (pool : Partition) (at : PlainNumber) → IsPartition pool → piece_at (pieces_in pool at.space) at.value ≡ None
    → piece_count (with_pieces pool at.space (split_at_number (pieces_in pool at.space) at.value)) ≡ piece_count pool
split_outside pool at valid e = count_split pool at None valid (sym e) ∙ add-zero (piece_count pool)
