-- The block that is taken is the least free one.
use Rattle.std.proofs.Common.{◌≡◌, ℕ, ◌+◌, ◌-◌, ◌*◌, ◌/◌, ◌%◌, ◌<◌, ◌≤◌, true, false, ◌&&◌, ◌==◌, nat_le, ◌⊎◌, inl, inr, List, [], ◌∷◌, Option, None, Some, arith}
use Rattle.std.proofs.Math.Nat.{mul-mod_left}
use Rattle.std.proofs.lemmas.Nat.{div-add-mod', mod_below, div_below, mul-le}
use Rattle.std.proofs.lemmas.Bool.{cond_both, and_parts, and_from, or_cases, or_left, or_right, le-leb, leb-true, eq-eqb, both_ways, false≢true, cases_lt}
use Rattle.num_range.specs.declared.space.Space.{Space}
use Rattle.num_range.specs.declared.space.Space.TheVariants.{Asn, Ipv4, Ipv6}
use Rattle.num_range.specs.Space.{top_of}
use Rattle.reg_entry.specs.declared.piece.Piece.{Piece}
use Rattle.reg_entry.specs.Card.{is_available}
use Rattle.reg_entry.specs.Pieces.{piece_holds, can_join, RisesFrom, IsSettledAfter, IsSettled, AllPiecesOf, ArePieces}
use Rattle.reg_entry.specs.Blocks.{is_free, alignment, IsFreeBlock, IsLeastBlock, rounded_up, least_block}
use Rattle.reg_entry.proofs.Holding.{holds_true, holds_from}

-- ---- rounding up

pub rounded_up_no_less : (n multiple : ℕ) → 0 < multiple → n ≤ rounded_up n multiple
rounded_up_no_less n multiple h =
    let sum : ℕ = n + (multiple - 1) in
    let parts : sum / multiple * multiple + sum % multiple ≡ sum = div-add-mod' sum multiple in
    let rest : sum % multiple < multiple = mod_below sum multiple h in
    omega arith

pub rounded_up_is_multiple : (n multiple : ℕ) → rounded_up n multiple % multiple ≡ 0
rounded_up_is_multiple n multiple = mul-mod_left ((n + (multiple - 1)) / multiple) multiple

-- no multiple that is no less than n is below it
pub rounded_up_is_least : (n multiple m : ℕ) → 0 < multiple → n ≤ m → m % multiple ≡ 0 → rounded_up n multiple ≤ m
rounded_up_is_least n multiple m h le e =
    let sum : ℕ = n + (multiple - 1) in
    let whole : m / multiple * multiple + m % multiple ≡ m = div-add-mod' m multiple in
    let below : sum / multiple < m / multiple + 1 = div_below sum multiple (m / multiple + 1) h (omega arith) in
    let products : sum / multiple * multiple ≤ m / multiple * multiple = mul-le (sum / multiple) multiple (m / multiple) multiple (omega arith) (omega arith) in
    omega arith

pub alignment_pos : (space : Space) (size : ℕ) → 0 < size → 0 < alignment space size
alignment_pos Asn size h = omega arith
alignment_pos Ipv4 size h = h
alignment_pos Ipv6 size h = h

-- ---- free numbers

-- a number that is free lies in the first piece, which is available, or is free in the others
pub free_cases : (p : Piece) (ps : List Piece) (n : ℕ) → is_free (p ∷ ps) n ≡ true
    → ((is_available p.card.status ≡ true) × (p.range.first ≤ n) × (n ≤ p.range.last)) ⊎ (is_free ps n ≡ true)
free_cases p ps n h =
    elim (or_cases (is_available p.card.status && piece_holds p n) (is_free ps n) h) [
      | inl e ↦
          let both = and_parts (is_available p.card.status) (piece_holds p n) e in
          let inside = holds_true p n both.1 in
          inl (both.0, inside.0, inside.1)
      | inr e ↦ inr e
    ]

pub free_in_first : (p : Piece) (ps : List Piece) (n : ℕ) → is_available p.card.status ≡ true → p.range.first ≤ n → n ≤ p.range.last
    → is_free (p ∷ ps) n ≡ true
free_in_first p ps n e h k =
    or_left (is_available p.card.status && piece_holds p n) (is_free ps n) (and_from (is_available p.card.status) (piece_holds p n) e (holds_from p n h k))

pub free_in_rest : (p : Piece) (ps : List Piece) (n : ℕ) → is_free ps n ≡ true → is_free (p ∷ ps) n ≡ true
free_in_rest p ps n e = or_right (is_available p.card.status && piece_holds p n) (is_free ps n) e

-- no number below all pieces is free
pub free_from : (low : ℕ) (ps : List Piece) (n : ℕ) → RisesFrom low ps → is_free ps n ≡ true → low ≤ n
free_from low [] n rises h = absurd (false≢true h)
free_from low (p ∷ ps) n rises h =
    elim (free_cases p ps n h) [
      | inl inside ↦ omega arith
      | inr e ↦ let above : p.range.last + 1 ≤ n = free_from (p.range.last + 1) ps n rises.2 e in omega arith
    ]

-- the number after an available piece isn't free
pub not_free_after : (p : Piece) (ps : List Piece) → RisesFrom (p.range.last + 1) ps → IsSettledAfter p ps
    → is_available p.card.status ≡ true → is_free ps (p.range.last + 1) ≡ true → ⊥
not_free_after p [] rises settled e h = false≢true h
not_free_after p (q ∷ qs) rises settled e h =
    elim (free_cases q qs (p.range.last + 1) h) [
      | inl inside ↦
          let touch : p.range.last + 1 ≡ q.range.first = omega arith in
          let one : ((p.range.last + 1 == q.range.first) && is_available p.card.status) ≡ true =
          and_from (p.range.last + 1 == q.range.first) (is_available p.card.status) (eq-eqb (p.range.last + 1) q.range.first touch) e in
          both_ways (can_join p q) settled.0
          (and_from ((p.range.last + 1 == q.range.first) && is_available p.card.status) (is_available q.card.status) one inside.0)
      | inr further ↦
          let above : q.range.last + 1 ≤ p.range.last + 1 = free_from (q.range.last + 1) qs (p.range.last + 1) rises.2 further in
          absurd (omega arith)
    ]

-- a run of free numbers that begins in a piece ends in it
pub run_ends_in_piece : (p : Piece) (ps : List Piece) (start last : ℕ) → RisesFrom (p.range.last + 1) ps → IsSettledAfter p ps
    → is_available p.card.status ≡ true → p.range.first ≤ p.range.last → start ≤ p.range.last
    → ((n : ℕ) → start ≤ n → n ≤ last → is_free (p ∷ ps) n ≡ true) → last ≤ p.range.last
run_ends_in_piece p ps start last rises settled e order h free =
    elim (cases_lt p.range.last last) [
      | inl lt ↦
          elim (free_cases p ps (p.range.last + 1) (free (p.range.last + 1) (omega arith) (omega arith))) [
            | inl inside ↦ absurd (omega arith)
            | inr further ↦ absurd (not_free_after p ps rises settled e further)
          ]
      | inr le ↦ le
    ]

-- ---- blocks

-- a free block of pieces whose first has no room for it is one of the others
pub free_in_others : (p : Piece) (ps : List Piece) (space : Space) (size start : ℕ) → 0 < size
    → RisesFrom (p.range.last + 1) ps → IsSettledAfter p ps → p.range.first ≤ p.range.last
    → (is_available p.card.status && nat_le (rounded_up p.range.first (alignment space size) + (size - 1)) p.range.last) ≡ false
    → IsFreeBlock (p ∷ ps) space size start → IsFreeBlock ps space size start
free_in_others p ps space size start pos rises settled order full block =
    let after : p.range.last < start =
    elim (free_cases p ps start (block.free start (omega arith) (omega arith))) [
      | inl inside ↦
          let multiple : ℕ = alignment space size in
          let rounded : ℕ = rounded_up p.range.first multiple in
          let ends : start + (size - 1) ≤ p.range.last =
          run_ends_in_piece p ps start (start + (size - 1)) rises settled inside.0 order inside.2 block.free in
          let least : rounded ≤ start = rounded_up_is_least p.range.first multiple start (alignment_pos space size pos) inside.1 block.aligned in
          let fits : rounded + (size - 1) ≤ p.range.last = omega arith in
          absurd (both_ways (is_available p.card.status && nat_le (rounded + (size - 1)) p.range.last) full
          (and_from (is_available p.card.status) (nat_le (rounded + (size - 1)) p.range.last) inside.0 (le-leb (rounded + (size - 1)) p.range.last fits)))
      | inr e ↦ let above : p.range.last + 1 ≤ start = free_from (p.range.last + 1) ps start rises e in omega arith
    ] in
    record {
      aligned = block.aligned;
      within = block.within;
      free = λ n h k. elim (free_cases p ps n (block.free n h k)) [ inl inside ↦ absurd (omega arith) | inr e ↦ e ];
    }

pub free_with_first : (p : Piece) (ps : List Piece) (space : Space) (size start : ℕ) → IsFreeBlock ps space size start
    → IsFreeBlock (p ∷ ps) space size start
free_with_first p ps space size start block = record {
  aligned = block.aligned;
  within = block.within;
  free = λ n h k. free_in_rest p ps n (block.free n h k);
}

-- the first aligned number of an available piece with room starts a free block
pub free_at_rounded : (p : Piece) (ps : List Piece) (space : Space) (size : ℕ) → 0 < size → p.range.last ≤ top_of space
    → is_available p.card.status ≡ true → rounded_up p.range.first (alignment space size) + (size - 1) ≤ p.range.last
    → IsFreeBlock (p ∷ ps) space size (rounded_up p.range.first (alignment space size))
free_at_rounded p ps space size pos top e fits =
    let multiple : ℕ = alignment space size in
    let rounded : ℕ = rounded_up p.range.first multiple in
    let no_less : p.range.first ≤ rounded = rounded_up_no_less p.range.first multiple (alignment_pos space size pos) in
    let goes : rounded + (size - 1) ≤ p.range.last = fits in
    record {
      aligned = rounded_up_is_multiple p.range.first multiple;
      within = omega arith;
      free = λ n h k. free_in_first p ps n e (omega arith) (omega arith);
    }

-- what is the least block of some pieces is that of others with the same free blocks
pub least_of_same : (ps qs : List Piece) (space : Space) (size : ℕ)
    → ((start : ℕ) → IsFreeBlock ps space size start → IsFreeBlock qs space size start)
    → ((start : ℕ) → IsFreeBlock qs space size start → IsFreeBlock ps space size start)
    → (least : Option ℕ) → IsLeastBlock ps space size least → IsLeastBlock qs space size least
least_of_same ps qs space size there back None h = λ start block. h start (back start block)
least_of_same ps qs space size there back (Some least) h = (there least h.0, λ start block. h.1 start (back start block))

settled_rest : (p : Piece) (ps : List Piece) → IsSettledAfter p ps → IsSettled ps
settled_rest p [] h = tt
settled_rest p (q ∷ qs) h = h.1

least_block_from : (low : ℕ) (space : Space) (ps : List Piece) (size : ℕ) → 0 < size → RisesFrom low ps → IsSettled ps → AllPiecesOf space ps
    → IsLeastBlock ps space size (least_block ps space size)
least_block_from low space [] size pos rises settled each = λ start block. false≢true (block.free start (omega arith) (omega arith))
least_block_from low space (p ∷ ps) size pos rises settled each =
    let multiple : ℕ = alignment space size in
    let rounded : ℕ = rounded_up p.range.first multiple in
    cond_both (is_available p.card.status && nat_le (rounded + (size - 1)) p.range.last) (Some rounded) (least_block ps space size)
    (IsLeastBlock (p ∷ ps) space size)
    (λ e.
    let both = and_parts (is_available p.card.status) (nat_le (rounded + (size - 1)) p.range.last) e in
    let fits : rounded + (size - 1) ≤ p.range.last = leb-true (rounded + (size - 1)) p.range.last both.1 in (
      free_at_rounded p ps space size pos each.0.within both.0 fits,
      λ start block.
          rounded_up_is_least p.range.first multiple start (alignment_pos space size pos)
          (free_from p.range.first (p ∷ ps) start (omega arith, rises.1, rises.2) (block.free start (omega arith) (omega arith)))
          block.aligned,
    ))
    (λ e.
    least_of_same ps (p ∷ ps) space size (free_with_first p ps space size)
    (λ start block. free_in_others p ps space size start pos rises.2 settled rises.1 e block)
    (least_block ps space size)
    (least_block_from (p.range.last + 1) space ps size pos rises.2 (settled_rest p ps settled) each.1))

pub least_block_is_least : (space : Space) (ps : List Piece) (size : ℕ) → ArePieces space ps → 0 < size
    → IsLeastBlock ps space size (least_block ps space size)
least_block_is_least space ps size h pos = least_block_from 0 space ps size pos h.rises h.settled h.each
