-- How many numbers the pieces have whose cards pass a test that no available card passes, and how painting, splitting and
-- joining change that.
use Rattle.std.proofs.Common.{◌≡◌, ℕ, ◌+◌, ◌-◌, ◌^◌, ◌<◌, ◌≤◌, Bool, true, false, max, cond, ◌&&◌, nat_lt, ◌⊎◌, inl, inr, List, [], ◌∷◌, ◌++◌, filter, Option, None, Some, refl, ap, sym, ◌∙◌, subst, arith}
use Rattle.std.specs.Option.{option_map, option_map_or}
use Rattle.std.specs.List.{flat_map}
use Rattle.std.proofs.lemmas.Bool.{cond_both, cases_Bool, cases_lt, both_ways}
use Rattle.std.proofs.lemmas.Option.{none-some, same_Some}
use Rattle.num_range.specs.declared.space.Space.{Space}
use Rattle.num_range.specs.declared.space.Space.TheVariants.{Asn, Ipv4, Ipv6}
use Rattle.num_range.specs.Range.{PlainRange, IsRange, size_of}
use Rattle.reg_entry.specs.declared.card.Card.{Card}
use Rattle.reg_entry.specs.declared.piece.Piece.{Piece}
use Rattle.reg_entry.specs.declared.request.Request.{Request}
use Rattle.reg_entry.specs.declared.request.Request.TheVariants.{Split, Join}
use Rattle.reg_entry.specs.Entry.{PlainEntry}
use Rattle.reg_entry.specs.Card.{is_available}
use Rattle.reg_entry.specs.Pieces.{piece_holds, piece_at, first_met, size_sum, part_below, part_above, can_join, joined_pair, joined_after, joined, laid, RisesFrom, IsPieceOf, AllPiecesOf, ArePieces, IsLeastTaken}
use Rattle.reg_entry.specs.Partition.{Partition, pieces_in, with_pieces, IsPartition}
use Rattle.reg_entry.specs.Ranges.{same_space}
use Rattle.reg_entry.specs.Reshaping.{holds_past_first, split_at_number, joined_at_after, joined_at}
use Rattle.reg_entry.specs.Register.{Register, register_pieces, card_of, reshaped, painted, pool_after, after_entry}
use Rattle.reg_entry.specs.Covers.{first_number}
use Rattle.reg_entry.specs.Decision.{first_of, early_rules}
use Rattle.reg_entry.specs.Next.{IsNextEntry}
use Rattle.reg_entry.proofs.Holding.{holds_from, piece_at-first, piece_at-rest, piece_at-below}
use Rattle.reg_entry.proofs.Joining.{can_join_true}
use Rattle.reg_entry.proofs.Laying.{kept_below, kept_above, painted_parts}
use Rattle.reg_entry.proofs.Sizes.{size_sum-append, size_sum-kept, common_size, common_sum, common_sum_unmet, common_sum_above}
use Rattle.reg_entry.proofs.Overlaps.{overlap_is_least}
use Rattle.reg_entry.specs.Reshaping.{CanJoinAt}
use Rattle.reg_laws.proofs.Sameness.{same_space-true}
use Rattle.reg_laws.proofs.NextFacts.{next_facts, IsInPiece}
use Rattle.reg_laws.proofs.Painted.{pieces_in-with, with_pieces_has, piece_is_of}
use Rattle.reg_entry.proofs.Reshaped.{left_part, right_part, past_first, join_cases, join_first, join_rest}
use Rattle.reg_laws.proofs.Conserving.{can_be_joined}
use Rattle.reg_laws.proofs.Paints.{next_painting}

-- ---- sums

-- no available card passes
abbrev pub IsOfTaken : (Card → Bool) → Type 0
IsOfTaken test = (c : Card) → is_available c.status ≡ true → test c ≡ false

-- so many, where the test passes
abbrev pub share : Bool → ℕ → ℕ
share b n = cond b n 0

abbrev pub share_sum : (Card → Bool) → List Piece → ℕ
share_sum test [] = 0
share_sum test (p ∷ ps) = share (test p.card) (size_of p.range) + share_sum test ps

pub share_sum-filter : (test : Card → Bool) (ps : List Piece) → size_sum (filter (λ p. test p.card) ps) ≡ share_sum test ps
share_sum-filter test [] = refl
share_sum-filter test (p ∷ ps) =
    first (test p.card) p (filter (λ q. test q.card) ps) ∙ ap (λ n. share (test p.card) (size_of p.range) + n) (share_sum-filter test ps)
  where
    first : (b : Bool) (p : Piece) (qs : List Piece) → size_sum (cond b (p ∷ qs) qs) ≡ share b (size_of p.range) + size_sum qs
    first true p qs = refl
    first false p qs = omega arith

share_sum-append : (test : Card → Bool) (ps qs : List Piece) → share_sum test (ps ++ qs) ≡ share_sum test ps + share_sum test qs
share_sum-append test [] qs = omega arith
share_sum-append test (p ∷ ps) qs =
    let rest : share_sum test (ps ++ qs) ≡ share_sum test ps + share_sum test qs = share_sum-append test ps qs in omega arith

share_at_most : (b : Bool) (n : ℕ) → share b n ≤ n
share_at_most true n = omega arith
share_at_most false n = omega arith

-- ---- what is kept, and what is in common with the range

abbrev pub common_shares : (Card → Bool) → PlainRange → List Piece → ℕ
common_shares test r [] = 0
common_shares test r (p ∷ ps) = share (test p.card) (common_size r p) + common_shares test r ps

share_below : (test : Card → Bool) (r : PlainRange) (p : Piece) → share_sum test (part_below r p) ≡ share (test p.card) (size_sum (part_below r p))
share_below test r p =
    cond_both (nat_lt p.range.first r.first) (kept_below r p ∷ []) [] (λ xs. share_sum test xs ≡ share (test p.card) (size_sum xs))
    (λ e. one (test p.card) (size_of (kept_below r p).range))
    (λ e. none (test p.card))
  where
    one : (b : Bool) (n : ℕ) → share b n + 0 ≡ share b (n + 0)
    one true n = refl
    one false n = refl

    none : (b : Bool) → 0 ≡ share b 0
    none true = refl
    none false = refl

share_above : (test : Card → Bool) (r : PlainRange) (p : Piece) → share_sum test (part_above r p) ≡ share (test p.card) (size_sum (part_above r p))
share_above test r p =
    cond_both (nat_lt r.last p.range.last) (kept_above r p ∷ []) [] (λ xs. share_sum test xs ≡ share (test p.card) (size_sum xs))
    (λ e. one (test p.card) (size_of (kept_above r p).range))
    (λ e. none (test p.card))
  where
    one : (b : Bool) (n : ℕ) → share b n + 0 ≡ share b (n + 0)
    one true n = refl
    one false n = refl

    none : (b : Bool) → 0 ≡ share b 0
    none true = refl
    none false = refl

kept_of_one : (r : PlainRange) (p : Piece) → p.range.first ≤ p.range.last → r.first ≤ r.last
    → size_sum (part_below r p) + size_sum (part_above r p) + common_size r p ≡ size_of p.range
kept_of_one r p order h =
    no_more (size_sum (part_below r p)) (size_sum (part_below r p ++ [])) (size_sum (part_above r p)) (size_sum (part_above r p ++ [])) (common_size r p) (size_of p.range)
    (size_sum-append (part_below r p) []) (size_sum-append (part_above r p) [])
    (size_sum-kept p.range.first r (p ∷ []) (omega arith, order, tt) h)
  where
    no_more : (b x a y c n : ℕ) → x ≡ b + 0 → y ≡ a + 0 → x + y + (c + 0) ≡ n + 0 → b + a + c ≡ n
    no_more b x a y c n e f g = omega arith

share_kept : (low : ℕ) (test : Card → Bool) (r : PlainRange) (ps : List Piece) → RisesFrom low ps → r.first ≤ r.last
    → share_sum test (flat_map (part_below r) ps) + share_sum test (flat_map (part_above r) ps) + common_shares test r ps ≡ share_sum test ps
share_kept low test r [] rises h = omega arith
share_kept low test r (p ∷ ps) rises h =
    let below : List Piece = flat_map (part_below r) ps in
    let above : List Piece = flat_map (part_above r) ps in
    add_up (share_sum test (part_below r p ++ below)) (share_sum test (part_above r p ++ above)) (share_sum test (part_below r p)) (share_sum test below)
    (share_sum test (part_above r p)) (share_sum test above) (share (test p.card) (common_size r p)) (common_shares test r ps)
    (share (test p.card) (size_of p.range)) (share_sum test ps)
    (share_sum-append test (part_below r p) below) (share_sum-append test (part_above r p) above)
    (parts (test p.card) (share_sum test (part_below r p)) (size_sum (part_below r p)) (share_sum test (part_above r p)) (size_sum (part_above r p))
    (common_size r p) (size_of p.range) (share_below test r p) (share_above test r p) (kept_of_one r p rises.1 h))
    (share_kept (p.range.last + 1) test r ps rises.2 h)
  where
    parts : (t : Bool) (x b y a c n : ℕ) → x ≡ share t b → y ≡ share t a → b + a + c ≡ n → x + y + share t c ≡ share t n
    parts true x b y a c n e f g = omega arith
    parts false x b y a c n e f g = omega arith

    add_up : (x y b bs a as₁ c cs n ns : ℕ) → x ≡ b + bs → y ≡ a + as₁ → b + a + c ≡ n → bs + as₁ + cs ≡ ns → x + y + (c + cs) ≡ n + ns
    add_up x y b bs a as₁ c cs n ns e f g h = omega arith

common_at_most : (test : Card → Bool) (r : PlainRange) (ps : List Piece) → common_shares test r ps ≤ common_sum r ps
common_at_most test r [] = omega arith
common_at_most test r (p ∷ ps) =
    both (share (test p.card) (common_size r p)) (common_size r p) (common_shares test r ps) (common_sum r ps)
    (share_at_most (test p.card) (common_size r p)) (common_at_most test r ps)
  where
    both : (a b c d : ℕ) → a ≤ b → c ≤ d → a + c ≤ b + d
    both a b c d e f = omega arith

none_in_common : (test : Card → Bool) (r : PlainRange) (ps : List Piece) → common_sum r ps ≡ 0 → common_shares test r ps ≡ 0
none_in_common test r ps e = no_more (common_shares test r ps) (common_sum r ps) (common_at_most test r ps) e
  where
    no_more : (a b : ℕ) → a ≤ b → b ≡ 0 → a ≡ 0
    no_more a b e f = omega arith

-- the range lies inside one piece
common_inside : (low : ℕ) (test : Card → Bool) (r : PlainRange) (ps : List Piece) (p : Piece) → RisesFrom low ps → r.first ≤ r.last
    → piece_at ps r.first ≡ Some p → p.range.first ≤ r.first → r.last ≤ p.range.last → common_shares test r ps ≡ share (test p.card) (size_of r)
common_inside low test r [] p rises order e first last = absurd (none-some p e)
common_inside low test r (q ∷ qs) p rises order e first last =
    elim (cases_Bool (piece_holds q r.first)) [
      | inl t ↦
          let same : p ≡ q = sym (same_Some q p (sym (piece_at-first q qs r.first t) ∙ e)) in
          let l : r.last ≤ q.range.last = subst (λ x. r.last ≤ x.range.last) same last in
          let f : q.range.first ≤ r.first = subst (λ x. x.range.first ≤ r.first) same first in
          let whole : common_size r q ≡ size_of r = omega arith in
          let none : common_shares test r qs ≡ 0 = none_in_common test r qs (common_sum_above (q.range.last + 1) r qs rises.2 (omega arith)) in
          this_one (test q.card) (common_size r q) (size_of r) (common_shares test r qs) whole none
          ∙ ap (λ x. share (test x.card) (size_of r)) (sym same)
      | inr f ↦
          let rest : piece_at qs r.first ≡ Some p = sym (piece_at-rest q qs r.first f) ∙ e in
          let past : q.range.last < r.first = elim (cases_lt q.range.last r.first) [
            | inl lt ↦ lt
            | inr ge ↦ absurd (elim (cases_lt r.first q.range.first) [
              | inl before ↦
                  let order₁ : q.range.first ≤ q.range.last = rises.1 in
                  none-some p (sym (piece_at-below (q.range.last + 1) qs r.first rises.2 (omega arith)) ∙ rest)
              | inr from ↦ both_ways (piece_holds q r.first) f (holds_from q r.first from ge)
            ])
          ] in
          let none : common_size r q ≡ 0 = omega arith in
          later (test q.card) (common_size r q) (common_shares test r qs) none ∙ common_inside (q.range.last + 1) test r qs p rises.2 order rest first last
    ]
  where
    this_one : (b : Bool) (m n k : ℕ) → m ≡ n → k ≡ 0 → share b m + k ≡ share b n
    this_one true m n k e f = omega arith
    this_one false m n k e f = omega arith

    later : (b : Bool) (m k : ℕ) → m ≡ 0 → share b m + k ≡ k
    later true m k e = omega arith
    later false m k e = omega arith

-- the numbers that the range has in common with the pieces, where one card is that of all of them or none has one
abbrev pub share_of : (Card → Bool) → ℕ → Option Card → ℕ
share_of test n card = option_map_or (λ c. share (test c) n) card 0

common_is : (test : Card → Bool) (pool : Partition) (r : PlainRange) → IsPartition pool → IsRange r
    → (first_met (pieces_in pool r.space) r ≡ None) ⊎ IsInPiece pool r
    → common_shares test r (pieces_in pool r.space) ≡ share_of test (size_of r) (card_of pool (first_number r))
common_is test pool r h range (inl none) =
    let ps : List Piece = pieces_in pool r.space in
    let free : IsLeastTaken ps r None = subst (IsLeastTaken ps r) (ap (option_map (λ p. max r.first p.range.first)) none) (overlap_is_least r.space ps r (h.each r.space) range) in
    none_in_common test r ps (common_sum_unmet r ps none)
    ∙ sym (ap (λ o. share_of test (size_of r) (option_map (λ p. p.card) o)) (free r.first (omega arith) range.0))
common_is test pool r h range (inr inside) =
    let ps : List Piece = pieces_in pool r.space in
    let all = h.each r.space in
    let is = piece_is_of r.space ps r.first inside.piece all.each inside.holds_first in
    common_inside 0 test r ps inside.piece all.rises range.0 inside.holds_first is.1 inside.last
    ∙ sym (ap (λ o. share_of test (size_of r) (option_map (λ p. p.card) o)) inside.holds_first)

-- ---- painting

share_of_available : (test : Card → Bool) (c : Card) (n : ℕ) → IsOfTaken test → is_available c.status ≡ true → share (test c) n ≡ 0
share_of_available test c n taken e = ap (λ b. share b n) (taken c e)

share_joined_after : (test : Card → Bool) (p : Piece) (qs : List Piece) → IsOfTaken test → share_sum test (joined_after p qs) ≡ share_sum test (p ∷ qs)
share_joined_after test p [] taken = refl
share_joined_after test p (q ∷ qs) taken =
    cond_both (can_join p q) (joined_after (joined_pair p q) qs) (p ∷ joined_after q qs) (λ xs. share_sum test xs ≡ share_sum test (p ∷ q ∷ qs))
    (λ e.
    let both = can_join_true p q e in
    three (share (test p.card) (size_of (joined_pair p q).range)) (share (test p.card) (size_of p.range)) (share (test q.card) (size_of q.range))
    (share_sum test qs) (share_sum test (joined_after (joined_pair p q) qs))
    (share_of_available test p.card (size_of (joined_pair p q).range) taken both.1)
    (share_of_available test p.card (size_of p.range) taken both.1)
    (share_of_available test q.card (size_of q.range) taken both.2)
    (share_joined_after test (joined_pair p q) qs taken))
    (λ e. ap (λ n. share (test p.card) (size_of p.range) + n) (share_joined_after test q qs taken))
  where
    three : (pq a b n s : ℕ) → pq ≡ 0 → a ≡ 0 → b ≡ 0 → s ≡ pq + n → s ≡ a + (b + n)
    three pq a b n s e f g h = omega arith

share_joined : (test : Card → Bool) (ps : List Piece) → IsOfTaken test → share_sum test (joined ps) ≡ share_sum test ps
share_joined test [] taken = refl
share_joined test (p ∷ ps) taken = share_joined_after test p ps taken

-- what the range took from the pieces, and what the card gives
share_laid : (test : Card → Bool) (ps : List Piece) (r : PlainRange) (c : Card) → IsOfTaken test → RisesFrom 0 ps → r.first ≤ r.last
    → share_sum test (laid ps r c) + common_shares test r ps ≡ share_sum test ps + share (test c) (size_of r)
share_laid test ps r c taken rises order =
    let new : Piece = record { range = r; card = c } in
    let below : List Piece = flat_map (part_below r) ps in
    let above : List Piece = flat_map (part_above r) ps in
    add_up (share_sum test (laid ps r c)) (share_sum test (painted_parts ps r c)) (share_sum test below) (share_sum test above) (common_shares test r ps)
    (share (test c) (size_of r)) (share_sum test ps)
    (share_joined test (painted_parts ps r c) taken)
    (share_sum-append test below (new ∷ above))
    (share_kept 0 test r ps rises order)
  where
    add_up : (laid parts b a c n s : ℕ) → laid ≡ parts → parts ≡ b + (n + a) → b + a + c ≡ s → laid + c ≡ s + n
    add_up laid parts b a c n s e f g = omega arith

-- ---- splitting and joining

share_split : (test : Card → Bool) (low : ℕ) (ps : List Piece) (at : ℕ) → RisesFrom low ps → share_sum test (split_at_number ps at) ≡ share_sum test ps
share_split test low [] at rises = refl
share_split test low (p ∷ ps) at rises =
    let rest : share_sum test (split_at_number ps at) ≡ share_sum test ps = share_split test (p.range.last + 1) ps at rises.2 in
    cond_both (holds_past_first p at) (left_part p at ∷ right_part p at ∷ []) (p ∷ []) (λ xs. share_sum test (xs ++ split_at_number ps at) ≡ share_sum test (p ∷ ps))
    (λ e.
    let inside = past_first p at e in
    halves (test p.card) (size_of (left_part p at).range) (size_of (right_part p at).range) (size_of p.range) (share_sum test (split_at_number ps at)) (share_sum test ps)
    (omega arith) rest)
    (λ e. ap (λ n. share (test p.card) (size_of p.range) + n) rest)
  where
    halves : (b : Bool) (m k n s t : ℕ) → m + k ≡ n → s ≡ t → share b m + (share b k + s) ≡ share b n + t
    halves true m k n s t e f = omega arith
    halves false m k n s t e f = omega arith

share_join : (test : Card → Bool) (low : ℕ) (p : Piece) (qs : List Piece) (at : ℕ) → RisesFrom low (p ∷ qs) → CanJoinAt (p ∷ qs) at
    → share_sum test (joined_at_after p qs at) ≡ share_sum test (p ∷ qs)
share_join test low p [] at rises can = refl
share_join test low p (q ∷ qs) at rises can =
    elim (join_cases low p q qs at rises can) [
      | inl m ↦
          let touches : p.range.last + 1 ≡ at = m.touches in
          let begins : q.range.first ≡ at = m.begins in
          let order : p.range.first ≤ p.range.last = rises.1 in
          let next : q.range.first ≤ q.range.last = rises.2.1 in
          ap (share_sum test) (join_first p q qs at m.begins)
          ∙ halves (test p.card) (size_of (joined_pair p q).range) (size_of p.range) (size_of q.range) (share_sum test qs) (omega arith)
          ∙ ap (λ c. share (test p.card) (size_of p.range) + (share (test c) (size_of q.range) + share_sum test qs)) m.one_card
      | inr n ↦
          ap (share_sum test) (join_rest p q qs at n.0)
          ∙ ap (λ k. share (test p.card) (size_of p.range) + k) (share_join test (p.range.last + 1) q qs at rises.2 n.1)
    ]
  where
    halves : (b : Bool) (n m k s : ℕ) → n ≡ m + k → share b n + s ≡ share b m + (share b k + s)
    halves true n m k s e = omega arith
    halves false n m k s e = omega arith

share_joined_at : (test : Card → Bool) (ps : List Piece) (at : ℕ) → RisesFrom 0 ps → CanJoinAt ps at → share_sum test (joined_at ps at) ≡ share_sum test ps
share_joined_at test [] at rises can = refl
share_joined_at test (p ∷ ps) at rises can = share_join test 0 p ps at rises can

share_reshaped : (test : Card → Bool) (r : Register) (request : Request) (space : Space) → IsPartition r.pool → first_of (early_rules r request) ≡ None
    → share_sum test (pieces_in (reshaped request r.pool) space) ≡ share_sum test (pieces_in r.pool space)
share_reshaped test r (Split at) space h early =
    let ps : List Piece = pieces_in r.pool at.space in
    with_pieces_has (λ t qs. share_sum test qs ≡ share_sum test (pieces_in r.pool t)) r.pool at.space space (split_at_number ps at.value)
    (share_split test 0 ps at.value (h.each at.space).rises) refl
share_reshaped test r (Join at) space h early =
    let ps : List Piece = pieces_in r.pool at.space in
    with_pieces_has (λ t qs. share_sum test qs ≡ share_sum test (pieces_in r.pool t)) r.pool at.space space (joined_at ps at.value)
    (share_joined_at test ps at.value (h.each at.space).rises (can_be_joined r at early)) refl
share_reshaped test r request space h early = refl

-- ---- the next entry

-- the numbers of a space that the test passes by the card, if the numbers of the range have it
abbrev pub share_by_card : (Card → Bool) → Space → PlainRange → Card → ℕ
share_by_card test space range c = share (same_space range.space space && test c) (size_of range)

abbrev pub share_by : (Card → Bool) → Space → PlainRange → Option Card → ℕ
share_by test space range card = option_map_or (share_by_card test space range) card 0

-- in one space, and in another
in_this : (b : Bool) (test : Card → Bool) (n : ℕ) (o : Option Card) (c : Card) (new old : List Piece)
    → share_sum test new + share_of test n o ≡ share_sum test old + share (test c) n
    → share_sum test (cond b new old) + option_map_or (λ d. share (b && test d) n) o 0 ≡ share_sum test old + share (b && test c) n
in_this true test n o c new old h = h
in_this false test n None c new old h = refl
in_this false test n (Some d) c new old h = refl

in_other : (b : Bool) (test : Card → Bool) (n : ℕ) (o : Option Card) (c : Card) (new old : List Piece) → b ≡ false
    → share_sum test (cond b new old) + option_map_or (λ d. share (b && test d) n) o 0 ≡ share_sum test old + share (b && test c) n
in_other true test n o c new old h = absurd (both_ways true h refl)
in_other false test n None c new old h = refl
in_other false test n (Some d) c new old h = refl

share_with : (test : Card → Bool) (pool : Partition) (range : PlainRange) (c : Card) (space : Space) (o : Option Card) (new : List Piece)
    → share_sum test new + share_of test (size_of range) o ≡ share_sum test (pieces_in pool range.space) + share (test c) (size_of range)
    → share_sum test (pieces_in (with_pieces pool range.space new) space) + share_by test space range o
    ≡ share_sum test (pieces_in pool space) + share_by_card test space range c
share_with test pool range c space o new h =
    ap (λ qs. share_sum test qs + share_by test space range o) (pieces_in-with pool range.space space new)
    ∙ elim (cases_Bool (same_space range.space space)) [
      | inl t ↦
          subst (λ s. share_sum test (cond (same_space range.space s) new (pieces_in pool s)) + share_by test s range o
          ≡ share_sum test (pieces_in pool s) + share_by_card test s range c)
          (same_space-true range.space space t)
          (in_this (same_space range.space range.space) test (size_of range) o c new (pieces_in pool range.space) h)
      | inr f ↦ in_other (same_space range.space space) test (size_of range) o c new (pieces_in pool space) f
    ]

abbrev pub register_share : (Card → Bool) → Register → Space → ℕ
register_share test r space = share_sum test (register_pieces r space)

pub share_painted : (test : Card → Bool) (r : Register) (e : PlainEntry) (range : PlainRange) (c : Card) (space : Space) → IsOfTaken test
    → IsPartition r.pool → IsNextEntry r e → e.cover ≡ Some range → e.card ≡ Some c
    → register_share test (after_entry r e) space + share_by test space range (card_of r.pool (first_number range))
    ≡ register_share test r space + share_by_card test space range c
share_painted test r e range c space taken h next cover card =
    let is = next_painting r e c h next card in
    let same : is.range ≡ range = same_Some is.range range (sym is.covers ∙ cover) in
    let valid : IsRange range = subst IsRange same is.valid in
    let place : (first_met (pieces_in r.pool range.space) range ≡ None) ⊎ IsInPiece r.pool range =
    subst (λ s. (first_met (pieces_in r.pool s.space) s ≡ None) ⊎ IsInPiece r.pool s) same is.place in
    let ps : List Piece = pieces_in r.pool range.space in
    let after : pool_after e.request e.cover e.card r.pool ≡ with_pieces r.pool range.space (laid ps range c) =
    ap (λ x. painted x e.card (reshaped e.request r.pool)) cover ∙ ap (λ y. painted (Some range) y (reshaped e.request r.pool)) card
    ∙ ap (painted (Some range) (Some c)) is.alone in
    ap (λ pool. share_sum test (pieces_in pool space) + share_by test space range (card_of r.pool (first_number range))) after
    ∙ share_with test r.pool range c space (card_of r.pool (first_number range)) (laid ps range c)
    (ap (λ n. share_sum test (laid ps range c) + n) (sym (common_is test r.pool range h valid place))
    ∙ share_laid test ps range c taken (h.each range.space).rises valid.0)

pub share_unpainted : (test : Card → Bool) (r : Register) (e : PlainEntry) (space : Space) → IsPartition r.pool → IsNextEntry r e → e.card ≡ None
    → register_share test (after_entry r e) space ≡ register_share test r space
share_unpainted test r e space h next card =
    ap (λ y. share_sum test (pieces_in (painted e.cover y (reshaped e.request r.pool)) space)) card
    ∙ ap (λ pool. share_sum test (pieces_in pool space)) (nothing e.cover (reshaped e.request r.pool))
    ∙ share_reshaped test r e.request space h (next_facts r e next).early
  where
    nothing : (cover : Option PlainRange) (pool : Partition) → painted cover None pool ≡ pool
    nothing None pool = refl
    nothing (Some range) pool = refl

-- what the range takes is there
pub share_there : (test : Card → Bool) (r : Register) (e : PlainEntry) (range : PlainRange) (c : Card) (space : Space) → IsPartition r.pool
    → IsNextEntry r e → e.cover ≡ Some range → e.card ≡ Some c
    → share_by test space range (card_of r.pool (first_number range)) ≤ register_share test r space
share_there test r e range c space h next cover card =
    let is = next_painting r e c h next card in
    let same : is.range ≡ range = same_Some is.range range (sym is.covers ∙ cover) in
    let valid : IsRange range = subst IsRange same is.valid in
    let place : (first_met (pieces_in r.pool range.space) range ≡ None) ⊎ IsInPiece r.pool range =
    subst (λ s. (first_met (pieces_in r.pool s.space) s ≡ None) ⊎ IsInPiece r.pool s) same is.place in
    let ps : List Piece = pieces_in r.pool range.space in
    let o : Option Card = card_of r.pool (first_number range) in
    let part : share_of test (size_of range) o ≤ share_sum test ps =
    within (share_sum test (flat_map (part_below range) ps)) (share_sum test (flat_map (part_above range) ps)) (common_shares test range ps) (share_of test (size_of range) o)
    (share_sum test ps) (share_kept 0 test range ps (h.each range.space).rises valid.0) (common_is test r.pool range h valid place) in
    elim (cases_Bool (same_space range.space space)) [
      | inl t ↦
          subst (λ s. share_by test s range o ≤ share_sum test (pieces_in r.pool s)) (same_space-true range.space space t)
          (part_of_this (same_space range.space range.space) test (size_of range) o (share_sum test ps) part)
      | inr f ↦ none_of_other (same_space range.space space) test (size_of range) o (share_sum test (pieces_in r.pool space)) f
    ]
  where
    within : (b a c d s : ℕ) → b + a + c ≡ s → c ≡ d → d ≤ s
    within b a c d s e f = omega arith

    part_of_this : (b : Bool) (test : Card → Bool) (n : ℕ) (o : Option Card) (s : ℕ) → share_of test n o ≤ s → option_map_or (λ d. share (b && test d) n) o 0 ≤ s
    part_of_this true test n o s h = h
    part_of_this false test n None s h = omega arith
    part_of_this false test n (Some d) s h = omega arith

    none_of_other : (b : Bool) (test : Card → Bool) (n : ℕ) (o : Option Card) (s : ℕ) → b ≡ false → option_map_or (λ d. share (b && test d) n) o 0 ≤ s
    none_of_other true test n o s h = absurd (both_ways true h refl)
    none_of_other false test n None s h = omega arith
    none_of_other false test n (Some d) s h = omega arith

-- ---- bounds

share_within : (test : Card → Bool) (ps : List Piece) → share_sum test ps ≤ size_sum ps
share_within test [] = omega arith
share_within test (p ∷ ps) =
    both (share (test p.card) (size_of p.range)) (size_of p.range) (share_sum test ps) (size_sum ps) (share_at_most (test p.card) (size_of p.range)) (share_within test ps)
  where
    both : (a b c d : ℕ) → a ≤ b → c ≤ d → a + c ≤ b + d
    both a b c d e f = omega arith

-- the pieces of a space lie below 2 ^ 126: those of IPv6 are global unicast
last_below : (space : Space) (p : Piece) → IsPieceOf space p → p.range.last < 2 ^ 126
last_below Asn p h = let top : p.range.last ≤ 2 ^ 32 - 1 = h.within in omega arith
last_below Ipv4 p h = let top : p.range.last ≤ 2 ^ 32 - 1 = h.within in omega arith
last_below Ipv6 p h = (h.pooled h.of_space).1

size_below : (space : Space) (low : ℕ) (ps : List Piece) → RisesFrom low ps → low ≤ 2 ^ 126 → AllPiecesOf space ps → size_sum ps + low ≤ 2 ^ 126
size_below space low [] rises l h = omega arith
size_below space low (p ∷ ps) rises l h =
    let last : p.range.last < 2 ^ 126 = last_below space p h.0 in
    let rest : size_sum ps + (p.range.last + 1) ≤ 2 ^ 126 = size_below space (p.range.last + 1) ps rises.2 (omega arith) h.1 in
    omega arith

pub share_below_top : (test : Card → Bool) (space : Space) (ps : List Piece) → ArePieces space ps → share_sum test ps < 2 ^ 127
share_below_top test space ps h =
    through (share_sum test ps) (size_sum ps) (share_within test ps) (size_below space 0 ps h.rises (omega arith) h.each)
  where
    through : (a b : ℕ) → a ≤ b → b + 0 ≤ 2 ^ 126 → a < 2 ^ 127
    through a b e f = omega arith

-- a stricter test passes no more
pub share_part : (strict test : Card → Bool) (ps : List Piece) → ((c : Card) → strict c ≡ true → test c ≡ true) → share_sum strict ps ≤ share_sum test ps
share_part strict test [] h = omega arith
share_part strict test (p ∷ ps) h =
    both (strict p.card) (test p.card) (size_of p.range) (share_sum strict ps) (share_sum test ps) (h p.card) (share_part strict test ps h)
  where
    both : (a b : Bool) (n c d : ℕ) → (a ≡ true → b ≡ true) → c ≤ d → share a n + c ≤ share b n + d
    both true true n c d h k = omega arith
    both true false n c d h k = absurd (both_ways false refl (h refl))
    both false b n c d h k = omega arith

abbrev pub AllPieces : (Piece → Type 0) → List Piece → Type 0
AllPieces P [] = Unit {0}
AllPieces P (p ∷ ps) = P p × AllPieces P ps

-- a test that no piece passes
pub share_of_none : (test : Card → Bool) (ps : List Piece) → AllPieces (λ p. test p.card ≡ false) ps → share_sum test ps ≡ 0
share_of_none test [] h = refl
share_of_none test (p ∷ ps) h = none (test p.card) (size_of p.range) (share_sum test ps) h.0 (share_of_none test ps h.1)
  where
    none : (b : Bool) (n s : ℕ) → b ≡ false → s ≡ 0 → share b n + s ≡ 0
    none true n s e f = absurd (both_ways true e refl)
    none false n s e f = omega arith
