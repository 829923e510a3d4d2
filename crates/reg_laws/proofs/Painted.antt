-- What an entry's cover and card make of the pool.
use Rattle.std.proofs.Common.{◌≡◌, ℕ, ◌+◌, ◌<◌, ◌≤◌, Bool, true, false, cond, ◌&&◌, ◌||◌, nat_le, inl, inr, List, [], ◌∷◌, Option, None, Some, refl, sym, ◌∙◌, ap, subst, arith}
use Rattle.std.specs.Option.{is_some, option_or, option_map}
use Rattle.std.proofs.lemmas.Bool.{cond_both, cond-true, cond-false, cases_Bool, cases_lt, both_ways, lt-leb, leb-true, and_right, and_parts}
use Rattle.std.proofs.lemmas.Option.{none-some, same_Some}
use Rattle.num_range.specs.declared.space.Space.{Space}
use Rattle.num_range.specs.declared.space.Space.TheVariants.{Asn, Ipv4, Ipv6}
use Rattle.num_range.specs.Space.{top_of}
use Rattle.num_range.specs.Number.{PlainNumber}
use Rattle.num_range.specs.Range.{PlainRange, IsRange, size_of}
use Rattle.reg_entry.specs.declared.card.Card.{Card}
use Rattle.reg_entry.specs.declared.piece.Piece.{Piece}
use Rattle.reg_entry.specs.declared.request.Request.{Request}
use Rattle.reg_entry.specs.Pieces.{piece_holds, piece_meets, piece_at, card_at, first_met, overlap, size_sum, laid, RisesFrom, IsPoolRange, IsCard, IsPieceOf, AllPiecesOf, ArePieces}
use Rattle.reg_entry.specs.Partition.{Partition, pieces_in, with_pieces, IsPartition}
use Rattle.num_range.specs.Space.{same_space}
use Rattle.num_range.specs.Range.{range_holds}
use Rattle.reg_entry.specs.Entries.{covers, received_range, size_within}
use Rattle.reg_entry.specs.Register.{card_of, reshaped, painted, pool_after}
use Rattle.reg_entry.proofs.Holding.{holds_true, holds_from, piece_at-below}
use Rattle.reg_entry.proofs.Laying.{laid_keeps}
use Rattle.reg_entry.proofs.Lookups.{card_at-laid}
use Rattle.reg_entry.proofs.Sizes.{size_sum-received, size_sum-repainted}
use Rattle.reg_entry.proofs.Overlaps.{meets_from}
use Rattle.reg_laws.proofs.Sameness.{same_space-true}
use Rattle.reg_laws.proofs.NextFacts.{IsInPiece}

-- ---- other pieces in a space

pub pieces_in-with : (pool : Partition) (s t : Space) (ps : List Piece) → pieces_in (with_pieces pool s ps) t ≡ cond (same_space s t) ps (pieces_in pool t)
pieces_in-with pool Asn Asn ps = refl
pieces_in-with pool Asn Ipv4 ps = refl
pieces_in-with pool Asn Ipv6 ps = refl
pieces_in-with pool Ipv4 Asn ps = refl
pieces_in-with pool Ipv4 Ipv4 ps = refl
pieces_in-with pool Ipv4 Ipv6 ps = refl
pieces_in-with pool Ipv6 Asn ps = refl
pieces_in-with pool Ipv6 Ipv4 ps = refl
pieces_in-with pool Ipv6 Ipv6 ps = refl

-- what holds of each space's pieces holds still where it holds of the new ones
pub with_pieces_has : (P : Space → List Piece → Type 0) (pool : Partition) (s t : Space) (ps : List Piece) → P s ps → P t (pieces_in pool t)
    → P t (pieces_in (with_pieces pool s ps) t)
with_pieces_has P pool s t ps new old =
    subst (P t) (sym (pieces_in-with pool s t ps))
    (cond_both (same_space s t) ps (pieces_in pool t) (P t) (λ e. subst (λ u. P u ps) (same_space-true s t e) new) (λ e. old))

pub with_pieces_keeps : (pool : Partition) (s : Space) (ps : List Piece) → IsPartition pool → ArePieces s ps → IsPartition (with_pieces pool s ps)
with_pieces_keeps pool s ps h new = record { each = λ t. with_pieces_has ArePieces pool s t ps new (h.each t) }

-- ---- the three facts

-- the pool after an entry is one, its cards are the painted one over the old ones, and its numbers the old and the received
-- ones: how many they are, and which
pub record IsConserved (pool : Partition) (request : Request) (cover : Option PlainRange) (card : Option Card) : Type 0 where
  pub partition : IsPartition (pool_after request cover card pool)
  pub cards : (n : PlainNumber) → card_of (pool_after request cover card pool) n ≡ option_or (cond (covers cover n) card None) (card_of pool n)
  pub sizes : (space : Space) → size_sum (pieces_in (pool_after request cover card pool) space)
      ≡ size_within space (received_range request) + size_sum (pieces_in pool space)
  pub pooled : (n : PlainNumber) → is_some (option_or (cond (covers cover n) card None) (card_of pool n))
      ≡ covers (received_range request) n || is_some (card_of pool n)

pub no_card : (b : Bool) (o : Option Card) → o ≡ option_or (cond b None None) o
no_card true o = refl
no_card false o = refl

zero_more : (n : ℕ) → n ≡ 0 + n
zero_more n = omega arith

-- nothing was received: the old numbers are all
old_sizes : (pool : Partition) (request : Request) (space : Space) → received_range request ≡ None
    → size_sum (pieces_in pool space) ≡ size_within space (received_range request) + size_sum (pieces_in pool space)
old_sizes pool request space nothing =
    zero_more (size_sum (pieces_in pool space)) ∙ ap (λ o. size_within space o + size_sum (pieces_in pool space)) (sym nothing)

-- nothing was received and nothing painted outside the pool: its numbers are the old ones
old_pool : (pool : Partition) (request : Request) (o : Option Card) (n : PlainNumber) → received_range request ≡ None
    → is_some o ≡ is_some (card_of pool n) → is_some o ≡ covers (received_range request) n || is_some (card_of pool n)
old_pool pool request o n nothing same = same ∙ ap (λ r. covers r n || is_some (card_of pool n)) (sym nothing)

pub unchanged : (pool : Partition) (request : Request) (cover : Option PlainRange) → IsPartition pool
    → pool_after request cover None pool ≡ pool → received_range request ≡ None → IsConserved pool request cover None
unchanged pool request cover h same nothing =
    record {
      partition = subst IsPartition (sym same) h;
      cards = λ n. ap (λ q. card_of q n) same ∙ no_card (covers cover n) (card_of pool n);
      sizes = λ space. ap (λ q. size_sum (pieces_in q space)) same ∙ old_sizes pool request space nothing;
      pooled = λ n. old_pool pool request _ n nothing (ap is_some (sym (no_card (covers cover n) (card_of pool n))));
    }

-- pieces of one space changed, with the same cards and as many numbers
pub rearranged : (pool : Partition) (request : Request) (cover : Option PlainRange) (s : Space) (ps : List Piece) → IsPartition pool
    → pool_after request cover None pool ≡ with_pieces pool s ps → received_range request ≡ None → ArePieces s ps
    → ((x : ℕ) → card_at ps x ≡ card_at (pieces_in pool s) x) → size_sum ps ≡ size_sum (pieces_in pool s)
    → IsConserved pool request cover None
rearranged pool request cover s ps h same nothing new cards sizes =
    record {
      partition = subst IsPartition (sym same) (with_pieces_keeps pool s ps h new);
      cards = λ n.
          ap (λ q. card_of q n) same
          ∙ with_pieces_has (λ t qs. card_at qs n.value ≡ card_at (pieces_in pool t) n.value) pool s n.space ps (cards n.value) refl
          ∙ no_card (covers cover n) (card_of pool n);
      sizes = λ space.
          ap (λ q. size_sum (pieces_in q space)) same
          ∙ with_pieces_has (λ t qs. size_sum qs ≡ size_sum (pieces_in pool t)) pool s space ps sizes refl
          ∙ old_sizes pool request space nothing;
      pooled = λ n. old_pool pool request _ n nothing (ap is_some (sym (no_card (covers cover n) (card_of pool n))));
    }

-- ---- painting

-- in the painted space the look-up is that of the painted pieces
painted_card : (pool : Partition) (r : PlainRange) (c : Card) (n : PlainNumber) → ArePieces r.space (pieces_in pool r.space) → IsRange r → IsCard c
    → card_of (with_pieces pool r.space (laid (pieces_in pool r.space) r c)) n
    ≡ option_or (cond (same_space r.space n.space && nat_le r.first n.value && nat_le n.value r.last) (Some c) None) (card_of pool n)
painted_card pool r c n h range card =
    ap (λ qs. card_at qs n.value) (pieces_in-with pool r.space n.space (laid (pieces_in pool r.space) r c))
    ∙ elim (cases_Bool (same_space r.space n.space)) [
      | inl t ↦
          ap (λ qs. card_at qs n.value) (cond-true (same_space r.space n.space) (laid (pieces_in pool r.space) r c) (pieces_in pool n.space) t)
          ∙ card_at-laid r.space (pieces_in pool r.space) r c n.value h range card
          ∙ ap (λ s. cond (nat_le r.first n.value && nat_le n.value r.last) (Some c) (card_at (pieces_in pool s) n.value)) (same_space-true r.space n.space t)
          ∙ over (nat_le r.first n.value && nat_le n.value r.last) c (card_of pool n)
          ∙ ap (λ b. option_or (cond (b && nat_le r.first n.value && nat_le n.value r.last) (Some c) None) (card_of pool n)) (sym t)
      | inr f ↦
          ap (λ qs. card_at qs n.value) (cond-false (same_space r.space n.space) (laid (pieces_in pool r.space) r c) (pieces_in pool n.space) f)
          ∙ ap (λ b. option_or (cond (b && nat_le r.first n.value && nat_le n.value r.last) (Some c) None) (card_of pool n)) (sym f)
    ]
  where
    over : (b : Bool) (d : Card) (o : Option Card) → cond b (Some d) o ≡ option_or (cond b (Some d) None) o
    over true d o = refl
    over false d o = refl

-- the numbers of the painted space are those of the painted pieces
pub painted_conserves : (pool : Partition) (request : Request) (r : PlainRange) (c : Card) → IsPartition pool → reshaped request pool ≡ pool
    → IsRange r → IsPoolRange r → IsCard c
    → ((space : Space) → size_sum (pieces_in (with_pieces pool r.space (laid (pieces_in pool r.space) r c)) space)
    ≡ size_within space (received_range request) + size_sum (pieces_in pool space))
    → ((n : PlainNumber) → is_some (option_or (cond (covers (Some r) n) (Some c) None) (card_of pool n))
    ≡ covers (received_range request) n || is_some (card_of pool n))
    → IsConserved pool request (Some r) (Some c)
painted_conserves pool request r c h still range pooled card sizes numbers =
    let new : Partition = with_pieces pool r.space (laid (pieces_in pool r.space) r c) in
    let same : pool_after request (Some r) (Some c) pool ≡ new = ap (painted (Some r) (Some c)) still in
    record {
      partition = subst IsPartition (sym same) (with_pieces_keeps pool r.space (laid (pieces_in pool r.space) r c) h
          (laid_keeps r.space (pieces_in pool r.space) r c (h.each r.space) refl range pooled card));
      cards = λ n. ap (λ q. card_of q n) same ∙ painted_card pool r c n (h.each r.space) range card;
      sizes = λ space. ap (λ q. size_sum (pieces_in q space)) same ∙ sizes space;
      pooled = numbers;
    }

-- ---- painting inside a piece

pub piece_is_of : (space : Space) (ps : List Piece) (x : ℕ) (p : Piece) → AllPiecesOf space ps → piece_at ps x ≡ Some p
    → IsPieceOf space p × (p.range.first ≤ x) × (x ≤ p.range.last)
piece_is_of space [] x p each e = absurd (none-some p e)
piece_is_of space (q ∷ qs) x p each e =
    elim (cases_Bool (piece_holds q x)) [
      | inl t ↦
          let same : q ≡ p = same_Some q p (sym (cond-true (piece_holds q x) (Some q) (piece_at qs x) t) ∙ e) in
          subst (λ y. IsPieceOf space y × (y.range.first ≤ x) × (x ≤ y.range.last)) same
          (let inside = holds_true q x t in (each.0, inside.0, inside.1))
      | inr f ↦ piece_is_of space qs x p each.1 (sym (cond-false (piece_holds q x) (Some q) (piece_at qs x) f) ∙ e)
    ]

-- the piece that holds a range's first number, and its last, is the first that meets the range
pub met_first : (low : ℕ) (ps : List Piece) (r : PlainRange) (p : Piece) → RisesFrom low ps → piece_at ps r.first ≡ Some p → r.first ≤ r.last
    → first_met ps r ≡ Some p
met_first low [] r p rises e order = absurd (none-some p e)
met_first low (q ∷ qs) r p rises e order =
    elim (cases_Bool (piece_holds q r.first)) [
      | inl t ↦
          let inside = holds_true q r.first t in
          cond-true (piece_meets r q) (Some q) (first_met qs r) (meets_from r q (omega arith) inside.1)
          ∙ sym (cond-true (piece_holds q r.first) (Some q) (piece_at qs r.first) t) ∙ e
      | inr f ↦
          let rest : piece_at qs r.first ≡ Some p = sym (cond-false (piece_holds q r.first) (Some q) (piece_at qs r.first) f) ∙ e in
          let past : q.range.last < r.first = elim (cases_lt q.range.last r.first) [
            | inl lt ↦ lt
            | inr ge ↦ absurd (elim (cases_lt r.first q.range.first) [
              | inl before ↦
                  let order₁ : q.range.first ≤ q.range.last = rises.1 in
                  none-some p (sym (piece_at-below (q.range.last + 1) qs r.first rises.2 (omega arith)) ∙ rest)
              | inr from ↦ both_ways (piece_holds q r.first) f (holds_from q r.first from ge)
            ])
          ] in
          cond-false (piece_meets r q) (Some q) (first_met qs r) (and_right (nat_le q.range.first r.last) (nat_le r.first q.range.last) (lt-leb r.first q.range.last past))
          ∙ met_first (q.range.last + 1) qs r p rises.2 rest order
    ]

-- the piece that holds a number holds each that lies above it, up to its last
held_through : (low : ℕ) (ps : List Piece) (x y : ℕ) (p : Piece) → RisesFrom low ps → piece_at ps x ≡ Some p → x ≤ y → y ≤ p.range.last
    → piece_at ps y ≡ Some p
held_through low [] x y p rises e h k = absurd (none-some p e)
held_through low (q ∷ qs) x y p rises e h k =
    elim (cases_Bool (piece_holds q x)) [
      | inl t ↦
          let same : q ≡ p = same_Some q p (sym (cond-true (piece_holds q x) (Some q) (piece_at qs x) t) ∙ e) in
          let inside = holds_true q x t in
          let last : q.range.last ≡ p.range.last = ap (λ z. z.range.last) same in
          cond-true (piece_holds q y) (Some q) (piece_at qs y) (holds_from q y (omega arith) (omega arith)) ∙ ap Some same
      | inr f ↦
          let rest : piece_at qs x ≡ Some p = sym (cond-false (piece_holds q x) (Some q) (piece_at qs x) f) ∙ e in
          let above : q.range.last < x = elim (cases_lt q.range.last x) [
            | inl lt ↦ lt
            | inr ge ↦ absurd (elim (cases_lt x q.range.first) [
              | inl before ↦
                  let order : q.range.first ≤ q.range.last = rises.1 in
                  none-some p (sym (piece_at-below (q.range.last + 1) qs x rises.2 (omega arith)) ∙ rest)
              | inr from ↦ both_ways (piece_holds q x) f (holds_from q x from ge)
            ])
          ] in
          cond-false (piece_holds q y) (Some q) (piece_at qs y) (and_right (nat_le q.range.first y) (nat_le y q.range.last) (lt-leb y q.range.last (omega arith)))
          ∙ held_through (q.range.last + 1) qs x y p rises.2 rest h k
    ]

-- each number of a range inside a piece is in the pool
in_pool : (pool : Partition) (r : PlainRange) (n : PlainNumber) → IsPartition pool → IsInPiece pool r → range_holds r n ≡ true
    → is_some (card_of pool n) ≡ true
in_pool pool r n h inside e =
    let outer = and_parts (same_space r.space n.space && nat_le r.first n.value) (nat_le n.value r.last) e in
    let inner = and_parts (same_space r.space n.space) (nat_le r.first n.value) outer.0 in
    let above : r.first ≤ n.value = leb-true r.first n.value inner.1 in
    let below : n.value ≤ r.last = leb-true n.value r.last outer.1 in
    let last : r.last ≤ inside.piece.range.last = inside.last in
    subst (λ s. is_some (card_at (pieces_in pool s) n.value) ≡ true) (same_space-true r.space n.space inner.0)
    (ap (λ o. is_some (option_map (λ p. p.card) o))
    (held_through 0 (pieces_in pool r.space) r.first n.value inside.piece (h.each r.space).rises inside.holds_first above (omega arith)))

painted_in_pool : (pool : Partition) (r : PlainRange) (c : Card) (n : PlainNumber) → IsPartition pool → IsInPiece pool r
    → is_some (option_or (cond (range_holds r n) (Some c) None) (card_of pool n)) ≡ is_some (card_of pool n)
painted_in_pool pool r c n h inside =
    elim (cases_Bool (range_holds r n)) [
      | inl t ↦ ap (λ o. is_some (option_or o (card_of pool n))) (cond-true (range_holds r n) (Some c) None t) ∙ sym (in_pool pool r n h inside t)
      | inr f ↦ ap (λ o. is_some (option_or o (card_of pool n))) (cond-false (range_holds r n) (Some c) None f)
    ]

pub painted_inside : (pool : Partition) (request : Request) (r : PlainRange) (c : Card) → IsPartition pool → reshaped request pool ≡ pool
    → received_range request ≡ None → IsInPiece pool r → IsCard c → IsConserved pool request (Some r) (Some c)
painted_inside pool request r c h still nothing inside card =
    let ps : List Piece = pieces_in pool r.space in
    let all = h.each r.space in
    let is = piece_is_of r.space ps r.first inside.piece all.each inside.holds_first in
    let last : r.last ≤ inside.piece.range.last = inside.last in
    let order : r.first ≤ r.last = inside.order in
    let top : inside.piece.range.last ≤ top_of r.space = is.0.within in
    let range : IsRange r = (order, omega arith) in
    let pooled : IsPoolRange r = λ six. let b = is.0.pooled (is.0.of_space ∙ six) in (omega arith, omega arith) in
    let met : first_met ps r ≡ Some inside.piece = met_first 0 ps r inside.piece all.rises inside.holds_first order in
    painted_conserves pool request r c h still range pooled card
    (λ space.
    with_pieces_has (λ t qs. size_sum qs ≡ size_sum (pieces_in pool t)) pool r.space space (laid ps r c)
    (size_sum-repainted r.space ps r c inside.piece all range met is.1 last) refl
    ∙ old_sizes pool request space nothing)
    (λ n. old_pool pool request _ n nothing (painted_in_pool pool r c n h inside))

-- ---- receiving

received_sizes : (pool : Partition) (r : PlainRange) (c : Card) (space : Space)
    → size_sum (laid (pieces_in pool r.space) r c) ≡ size_sum (pieces_in pool r.space) + size_of r
    → size_sum (pieces_in (with_pieces pool r.space (laid (pieces_in pool r.space) r c)) space) ≡ size_within space (Some r) + size_sum (pieces_in pool space)
received_sizes pool r c space e =
    ap size_sum (pieces_in-with pool r.space space (laid (pieces_in pool r.space) r c))
    ∙ elim (cases_Bool (same_space r.space space)) [
      | inl t ↦
          ap size_sum (cond-true (same_space r.space space) (laid (pieces_in pool r.space) r c) (pieces_in pool space) t)
          ∙ e
          ∙ ap (λ s. size_sum (pieces_in pool s) + size_of r) (same_space-true r.space space t)
          ∙ turned (size_sum (pieces_in pool space)) (size_of r)
          ∙ ap (λ n. n + size_sum (pieces_in pool space)) (sym (cond-true (same_space r.space space) (size_of r) 0 t))
      | inr f ↦
          ap size_sum (cond-false (same_space r.space space) (laid (pieces_in pool r.space) r c) (pieces_in pool space) f)
          ∙ zero_more (size_sum (pieces_in pool space))
          ∙ ap (λ n. n + size_sum (pieces_in pool space)) (sym (cond-false (same_space r.space space) (size_of r) 0 f))
    ]
  where
    turned : (a b : ℕ) → a + b ≡ b + a
    turned a b = omega arith

pub received_conserves : (pool : Partition) (request : Request) (r : PlainRange) (c : Card) → IsPartition pool → reshaped request pool ≡ pool
    → received_range request ≡ Some r → IsRange r → IsPoolRange r → IsCard c → overlap (pieces_in pool r.space) r ≡ None
    → IsConserved pool request (Some r) (Some c)
received_conserves pool request r c h still is range pooled card free =
    painted_conserves pool request r c h still range pooled card
    (λ space.
    received_sizes pool r c space (size_sum-received r.space (pieces_in pool r.space) r c (h.each r.space) range free)
    ∙ ap (λ o. size_within space o + size_sum (pieces_in pool space)) (sym is))
    (λ n. came (range_holds r n) (card_of pool n) ∙ ap (λ o. covers o n || is_some (card_of pool n)) (sym is))
  where
    came : (b : Bool) (o : Option Card) → is_some (option_or (cond b (Some c) None) o) ≡ b || is_some o
    came true o = refl
    came false o = refl
