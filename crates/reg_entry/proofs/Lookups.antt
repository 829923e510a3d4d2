-- Painting gives the card to each number of the range, and leaves every other number's card.
use Rattle.std.proofs.Common.{◌≡◌, ℕ, ◌+◌, ◌-◌, ◌<◌, ◌≤◌, min, max, Bool, true, false, cond, ◌&&◌, nat_lt, nat_le, inl, inr, List, [], ◌∷◌, ◌++◌, Option, None, Some, refl, ap, sym, ◌∙◌, arith}
use Rattle.std.specs.List.{flat_map, find}
use Rattle.std.specs.Option.{option_map}
use Rattle.std.proofs.lemmas.Bool.{cond_both, cond-true, cond-false, cases_lt, ltb-true, ltb-false, le-leb, lt-leb}
use Rattle.num_range.specs.declared.space.Space.{Space}
use Rattle.num_range.specs.Range.{PlainRange, IsRange}
use Rattle.reg_entry.specs.declared.card.Card.{Card}
use Rattle.reg_entry.specs.declared.piece.Piece.{Piece}
use Rattle.reg_entry.specs.Pieces.{piece_holds, card_at, part_below, part_above, can_join, joined_pair, joined_after, joined, laid, RisesFrom, IsCard, AllPiecesOf, ArePieces}
use Rattle.reg_entry.proofs.Holding.{within_from, below_false, above_false, not_held_below, not_held_above}
use Rattle.reg_entry.proofs.Joining.{can_join_true}
use Rattle.reg_entry.proofs.Laying.{kept_below, kept_above, painted_parts, painted_parts_rise}

card_if : (b : Bool) (p : Piece) (o : Option Piece) → option_map (λ q. q.card) (cond b (Some p) o) ≡ cond b (Some p.card) (option_map (λ q. q.card) o)
card_if b p o =
    elim b as (λ v. option_map (λ q. q.card) (cond v (Some p) o) ≡ cond v (Some p.card) (option_map (λ q. q.card) o)) [ true ↦ refl | false ↦ refl ]

-- the look-up goes down the list
pub card_at-cons : (p : Piece) (ps : List Piece) (x : ℕ) → card_at (p ∷ ps) x ≡ cond (piece_holds p x) (Some p.card) (card_at ps x)
card_at-cons p ps x = card_if (piece_holds p x) p (find (λ q. piece_holds q x) ps)

pub card_at-first : (p : Piece) (ps : List Piece) (x : ℕ) → piece_holds p x ≡ true → card_at (p ∷ ps) x ≡ Some p.card
card_at-first p ps x e = card_at-cons p ps x ∙ cond-true (piece_holds p x) (Some p.card) (card_at ps x) e

pub card_at-rest : (p : Piece) (ps : List Piece) (x : ℕ) → piece_holds p x ≡ false → card_at (p ∷ ps) x ≡ card_at ps x
card_at-rest p ps x e = card_at-cons p ps x ∙ cond-false (piece_holds p x) (Some p.card) (card_at ps x) e

-- pieces with one card that hold the value alike, before lists in which the look-up is alike
pub card_at-alike : (p q : Piece) (ps qs : List Piece) (x : ℕ) → p.card ≡ q.card → piece_holds p x ≡ piece_holds q x → card_at ps x ≡ card_at qs x
    → card_at (p ∷ ps) x ≡ card_at (q ∷ qs) x
card_at-alike p q ps qs x same held rest =
    card_at-cons p ps x
    ∙ ap (λ b. cond b (Some p.card) (card_at ps x)) held
    ∙ ap (λ c. cond (piece_holds q x) (Some c) (card_at ps x)) same
    ∙ ap (λ o. cond (piece_holds q x) (Some q.card) o) rest
    ∙ sym (card_at-cons q qs x)

-- ---- what is kept of the pieces

kept_below_holds : (first last start x : ℕ) → x < start → (nat_le first x && nat_le x (min last (start - 1))) ≡ (nat_le first x && nat_le x last)
kept_below_holds first last start x h =
    ap (λ b. nat_le first x && b) (elim (cases_lt last x) [
      | inl lt ↦ lt-leb x (min last (start - 1)) (omega arith) ∙ sym (lt-leb x last lt)
      | inr le ↦ le-leb x (min last (start - 1)) (omega arith) ∙ sym (le-leb x last le)
    ])

kept_above_holds : (first last end x : ℕ) → end < x → (nat_le (max first (end + 1)) x && nat_le x last) ≡ (nat_le first x && nat_le x last)
kept_above_holds first last end x h =
    ap (λ b. b && nat_le x last) (elim (cases_lt x first) [
      | inl lt ↦ lt-leb (max first (end + 1)) x (omega arith) ∙ sym (lt-leb first x lt)
      | inr le ↦ le-leb (max first (end + 1)) x (omega arith) ∙ sym (le-leb first x le)
    ])

-- below the range the look-up is as it was, where nothing behind holds the value
pub card_at-below : (r : PlainRange) (ps rest : List Piece) (x : ℕ) → x < r.first → card_at rest x ≡ None
    → card_at (flat_map (part_below r) ps ++ rest) x ≡ card_at ps x
card_at-below r [] rest x h none = none
card_at-below r (p ∷ ps) rest x h none =
    let after : card_at (flat_map (part_below r) ps ++ rest) x ≡ card_at ps x = card_at-below r ps rest x h none in
    cond_both (nat_lt p.range.first r.first) (kept_below r p ∷ []) [] (λ xs. card_at ((xs ++ flat_map (part_below r) ps) ++ rest) x ≡ card_at (p ∷ ps) x)
    (λ e. card_at-alike (kept_below r p) p (flat_map (part_below r) ps ++ rest) ps x refl (kept_below_holds p.range.first p.range.last r.first x h) after)
    (λ e.
    let le : r.first ≤ p.range.first = ltb-false p.range.first r.first e in
    after ∙ sym (card_at-rest p ps x (not_held_below p x (omega arith))))

-- from the range on nothing that is kept below it is looked up
pub card_at-past_below : (r : PlainRange) (ps rest : List Piece) (x : ℕ) → r.first ≤ x
    → card_at (flat_map (part_below r) ps ++ rest) x ≡ card_at rest x
card_at-past_below r [] rest x h = refl
card_at-past_below r (p ∷ ps) rest x h =
    let after : card_at (flat_map (part_below r) ps ++ rest) x ≡ card_at rest x = card_at-past_below r ps rest x h in
    cond_both (nat_lt p.range.first r.first) (kept_below r p ∷ []) [] (λ xs. card_at ((xs ++ flat_map (part_below r) ps) ++ rest) x ≡ card_at rest x)
    (λ e.
    let lt : p.range.first < r.first = ltb-true p.range.first r.first e in
    card_at-rest (kept_below r p) (flat_map (part_below r) ps ++ rest) x (not_held_above (kept_below r p) x (omega arith)) ∙ after)
    (λ e. after)

-- above the range the look-up is as it was
pub card_at-above : (r : PlainRange) (ps : List Piece) (x : ℕ) → r.last < x → card_at (flat_map (part_above r) ps) x ≡ card_at ps x
card_at-above r [] x h = refl
card_at-above r (p ∷ ps) x h =
    let after : card_at (flat_map (part_above r) ps) x ≡ card_at ps x = card_at-above r ps x h in
    cond_both (nat_lt r.last p.range.last) (kept_above r p ∷ []) [] (λ xs. card_at (xs ++ flat_map (part_above r) ps) x ≡ card_at (p ∷ ps) x)
    (λ e. card_at-alike (kept_above r p) p (flat_map (part_above r) ps) ps x refl (kept_above_holds p.range.first p.range.last r.last x h) after)
    (λ e.
    let le : p.range.last ≤ r.last = ltb-false r.last p.range.last e in
    after ∙ sym (card_at-rest p ps x (not_held_above p x (omega arith))))

-- up to the range's last number nothing that is kept above it is looked up
pub card_at-before_above : (r : PlainRange) (ps : List Piece) (x : ℕ) → x ≤ r.last → card_at (flat_map (part_above r) ps) x ≡ None
card_at-before_above r [] x h = refl
card_at-before_above r (p ∷ ps) x h =
    let after : card_at (flat_map (part_above r) ps) x ≡ None = card_at-before_above r ps x h in
    cond_both (nat_lt r.last p.range.last) (kept_above r p ∷ []) [] (λ xs. card_at (xs ++ flat_map (part_above r) ps) x ≡ None)
    (λ e. card_at-rest (kept_above r p) (flat_map (part_above r) ps) x (not_held_below (kept_above r p) x (omega arith)) ∙ after)
    (λ e. after)

-- the look-up before the joining
pub card_at-painted_parts : (ps : List Piece) (r : PlainRange) (c : Card) (x : ℕ) → r.first ≤ r.last
    → card_at (painted_parts ps r c) x ≡ cond (nat_le r.first x && nat_le x r.last) (Some c) (card_at ps x)
card_at-painted_parts ps r c x order =
    let new : Piece = record { range = r; card = c } in
    let above : List Piece = flat_map (part_above r) ps in
    elim (cases_lt x r.first) [
      | inl lt ↦
          card_at-below r ps (new ∷ above) x lt (card_at-rest new above x (not_held_below new x lt) ∙ card_at-before_above r ps x (omega arith))
          ∙ sym (cond-false (nat_le r.first x && nat_le x r.last) (Some c) (card_at ps x) (below_false r.first x r.last lt))
      | inr ge ↦
          card_at-past_below r ps (new ∷ above) x ge
          ∙ elim (cases_lt r.last x) [
            | inl past ↦
                card_at-rest new above x (not_held_above new x past)
                ∙ card_at-above r ps x past
                ∙ sym (cond-false (nat_le r.first x && nat_le x r.last) (Some c) (card_at ps x) (above_false r.first x r.last past))
            | inr le ↦
                card_at-first new above x (within_from r.first x r.last ge le)
                ∙ sym (cond-true (nat_le r.first x && nat_le x r.last) (Some c) (card_at ps x) (within_from r.first x r.last ge le))
          ]
    ]

-- ---- the available cards are plain, and so those of two pieces that are joined are one

abbrev pub AllCards : List Piece → Type 0
AllCards [] = Unit {0}
AllCards (p ∷ ps) = IsCard p.card × AllCards ps

pub all_cards_of_pieces : (space : Space) (ps : List Piece) → AllPiecesOf space ps → AllCards ps
all_cards_of_pieces space [] h = tt
all_cards_of_pieces space (p ∷ ps) h = (h.0.plain, all_cards_of_pieces space ps h.1)

all_cards_below : (r : PlainRange) (ps rest : List Piece) → AllCards ps → AllCards rest → AllCards (flat_map (part_below r) ps ++ rest)
all_cards_below r [] rest h k = k
all_cards_below r (p ∷ ps) rest h k =
    cond_both (nat_lt p.range.first r.first) (kept_below r p ∷ []) [] (λ xs. AllCards ((xs ++ flat_map (part_below r) ps) ++ rest))
    (λ e. (h.0, all_cards_below r ps rest h.1 k))
    (λ e. all_cards_below r ps rest h.1 k)

all_cards_above : (r : PlainRange) (ps : List Piece) → AllCards ps → AllCards (flat_map (part_above r) ps)
all_cards_above r [] h = tt
all_cards_above r (p ∷ ps) h =
    cond_both (nat_lt r.last p.range.last) (kept_above r p ∷ []) [] (λ xs. AllCards (xs ++ flat_map (part_above r) ps))
    (λ e. (h.0, all_cards_above r ps h.1))
    (λ e. all_cards_above r ps h.1)

pub all_cards_of_painted_parts : (ps : List Piece) (r : PlainRange) (c : Card) → AllCards ps → IsCard c → AllCards (painted_parts ps r c)
all_cards_of_painted_parts ps r c h card =
    all_cards_below r ps (record { range = r; card = c } ∷ flat_map (part_above r) ps) h (card, all_cards_above r ps h)

-- ---- joining

within_either : {A : Type 0} (a b c d x : ℕ) (u o : A) → a ≤ b → b + 1 ≡ c → c ≤ d
    → cond (nat_le a x && nat_le x d) u o ≡ cond (nat_le a x && nat_le x b) u (cond (nat_le c x && nat_le x d) u o)
within_either a b c d x u o h e k =
    elim (cases_lt b x) [
      | inl past ↦
          ap (λ t. cond (t && nat_le x d) u o) (le-leb a x (omega arith) ∙ sym (le-leb c x (omega arith)))
          ∙ sym (cond-false (nat_le a x && nat_le x b) u (cond (nat_le c x && nat_le x d) u o) (above_false a x b past))
      | inr le ↦
          ap (λ t. cond (nat_le a x && t) u o) (le-leb x d (omega arith) ∙ sym (le-leb x b le))
          ∙ ap (λ v. cond (nat_le a x && nat_le x b) u v) (sym (cond-false (nat_le c x && nat_le x d) u o (below_false c x d (omega arith))))
    ]

pub card_at-joined_pair : (p q : Piece) (qs : List Piece) (x : ℕ) → can_join p q ≡ true → p.range.first ≤ p.range.last
    → q.range.first ≤ q.range.last → IsCard p.card → IsCard q.card
    → card_at (joined_pair p q ∷ qs) x ≡ card_at (p ∷ q ∷ qs) x
card_at-joined_pair p q qs x e hp hq cp cq =
    let both = can_join_true p q e in
    let same : p.card ≡ q.card = cp both.1 ∙ sym (cq both.2) in
    card_at-cons (joined_pair p q) qs x
    ∙ within_either p.range.first p.range.last q.range.first q.range.last x (Some p.card) (card_at qs x) hp both.0 hq
    ∙ ap (λ c. cond (piece_holds p x) (Some p.card) (cond (piece_holds q x) (Some c) (card_at qs x))) same
    ∙ ap (λ o. cond (piece_holds p x) (Some p.card) o) (sym (card_at-cons q qs x))
    ∙ sym (card_at-cons p (q ∷ qs) x)

pub card_at-joined_after : (low : ℕ) (p : Piece) (qs : List Piece) (x : ℕ) → RisesFrom low (p ∷ qs) → AllCards (p ∷ qs)
    → card_at (joined_after p qs) x ≡ card_at (p ∷ qs) x
card_at-joined_after low p [] x rises cards = refl
card_at-joined_after low p (q ∷ qs) x rises cards =
    cond_both (can_join p q) (joined_after (joined_pair p q) qs) (p ∷ joined_after q qs) (λ xs. card_at xs x ≡ card_at (p ∷ q ∷ qs) x)
    (λ e.
    let both = can_join_true p q e in
    card_at-joined_after low (joined_pair p q) qs x (rises.0, omega arith, rises.2.2) (cards.0, cards.1.1)
    ∙ card_at-joined_pair p q qs x e rises.1 rises.2.1 cards.0 cards.1.0)
    (λ e.
    card_at-alike p p (joined_after q qs) (q ∷ qs) x refl refl (card_at-joined_after (p.range.last + 1) q qs x rises.2 cards.1))

pub card_at-joined : (low : ℕ) (ps : List Piece) (x : ℕ) → RisesFrom low ps → AllCards ps → card_at (joined ps) x ≡ card_at ps x
card_at-joined low [] x rises cards = refl
card_at-joined low (p ∷ ps) x rises cards = card_at-joined_after low p ps x rises cards

pub card_at-laid : (space : Space) (ps : List Piece) (r : PlainRange) (c : Card) (x : ℕ) → ArePieces space ps → IsRange r → IsCard c
    → card_at (laid ps r c) x ≡ cond (nat_le r.first x && nat_le x r.last) (Some c) (card_at ps x)
card_at-laid space ps r c x h range card =
    card_at-joined 0 (painted_parts ps r c) x (painted_parts_rise ps r c h.rises range.0)
    (all_cards_of_painted_parts ps r c (all_cards_of_pieces space ps h.each) card)
    ∙ card_at-painted_parts ps r c x range.0
