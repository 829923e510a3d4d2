-- The addresses that may be drawn, and the pieces that have them.
use Rattle.std.proofs.Common.{◌≡◌, ℕ, ◌+◌, ◌*◌, ◌%◌, ◌^◌, ◌≤◌, true, false, List, [], ◌∷◌, Option, None, Some, refl, sym, ap, subst, ◌∙◌, inl, inr, arith}
use Rattle.std.specs.Option.{is_some, option_map, option_or}
use Rattle.std.proofs.lemmas.Bool.{cases_Bool, cond-true, cond-false, and_parts, and_from, leb-true, le-leb}
use Rattle.num_range.specs.Number.{PlainNumber}
use Rattle.reg_entry.specs.declared.card.Card.{Card}
use Rattle.reg_entry.specs.declared.piece.Piece.{Piece}
use Rattle.reg_entry.specs.declared.entry.Reply.{Reply}
use Rattle.reg_entry.specs.declared.entry.Reply.TheVariants.{Accepted}
use Rattle.reg_entry.specs.Decision.{IfAccepted}
use Rattle.reg_entry.specs.Entries.{painted_card}
use Rattle.reg_entry.specs.Entry.{PlainEntry}
use Rattle.reg_entry.specs.Next.{IsNextEntry}
use Rattle.reg_entry.specs.Partition.{Partition}
use Rattle.reg_entry.specs.Pieces.{card_at, piece_at, piece_holds}
use Rattle.reg_entry.specs.Register.{Register, after_entry, card_of}
use Rattle.reg_entry.specs.Whole.{IsWholeRegister}
use Rattle.load_gen.specs.Draw.{drawn_address, rest}
use Rattle.load_run.specs.Drawable.{HasAllDrawn}

-- a number keeps a card where it has one
pub some_stays : (new old : Option Card) → is_some old ≡ true → is_some (option_or new old) ≡ true
some_stays None old h = h
some_stays (Some c) old h = refl

-- so the next entry takes no address away
pub stays_drawn : ((r : Register) (e : PlainEntry) (n : PlainNumber) → IsWholeRegister r → IsNextEntry r e
    → card_of (after_entry r e).pool n ≡ option_or (painted_card e n) (card_of r.pool n))
    → (r new : Register) (reply : Reply) (e : PlainEntry) → reply ≡ Accepted e → IsWholeRegister r → IfAccepted reply (IsNextEntry r)
    → new ≡ after_entry r e → HasAllDrawn r.pool → HasAllDrawn new.pool
stays_drawn cards r new reply e accepted whole next is drawn d =
    let may : IsNextEntry r e = subst (λ x. IfAccepted x (IsNextEntry r)) accepted next in
    ap (λ (s : Register). is_some (card_of s.pool (drawn_address d))) is
    ∙ ap is_some (cards r e (drawn_address d) whole may)
    ∙ some_stays (painted_card e (drawn_address d)) (card_of r.pool (drawn_address d)) (drawn d)

-- where a piece that holds one value holds another, both have a card
found_too : (ps : List Piece) (x y : ℕ) (p : Piece) → piece_at ps x ≡ Some p → piece_holds p y ≡ true → is_some (card_at ps y) ≡ true
found_too [] x y p found holds = absurd (cc)
found_too (q ∷ qs) x y p found holds = elim (cases_Bool (piece_holds q y)) [
  | inl t ↦ ap (λ (o : Option Piece). is_some (option_map (λ (r : Piece). r.card) o)) (cond-true (piece_holds q y) (Some q) (piece_at qs y) t)
  | inr f ↦ ap (λ (o : Option Piece). is_some (option_map (λ (r : Piece). r.card) o)) (cond-false (piece_holds q y) (Some q) (piece_at qs y) f)
      ∙ elim (cases_Bool (piece_holds q x)) [
        | inl t ↦ (let is : Some q ≡ Some p = sym (cond-true (piece_holds q x) (Some q) (piece_at qs x) t) ∙ found in
            let same : q ≡ p = cc in
            let wrong : false ≡ true = sym f ∙ ap (λ (r : Piece). piece_holds r y) same ∙ holds in
            absurd (cc))
        | inr g ↦ found_too qs x y p (sym (cond-false (piece_holds q x) (Some q) (piece_at qs x) g) ∙ found) holds
      ]
]

first_holds : (ps : List Piece) (x : ℕ) (p : Piece) → piece_at ps x ≡ Some p → p.range.first ≤ x
first_holds [] x p found = absurd (cc)
first_holds (q ∷ qs) x p found = elim (cases_Bool (piece_holds q x)) [
  | inl t ↦ (let is : Some q ≡ Some p = sym (cond-true (piece_holds q x) (Some q) (piece_at qs x) t) ∙ found in
      let same : q ≡ p = cc in
      let begins : q.range.first ≡ p.range.first = ap (λ (r : Piece). r.range.first) same in
      let low = leb-true q.range.first x (and_parts _ _ t).0 in
      omega (arith, begins, low))
  | inr g ↦ first_holds qs x p (sym (cond-false (piece_holds q x) (Some q) (piece_at qs x) g) ∙ found)
]

-- a piece from the first of the addresses to the last has them all
pub all_drawn : (pool : Partition) (p : Piece) → piece_at pool.ipv4 167772160 ≡ Some p → 168034303 ≤ p.range.last → HasAllDrawn pool
all_drawn pool p found long d =
    let low = first_holds pool.ipv4 167772160 p found in
    let at : ℕ = 10 * 2 ^ 24 + rest d % 2 ^ 18 in
    let above : 167772160 ≤ at = omega arith in
    let below : at ≤ 168034303 = omega arith in
    found_too pool.ipv4 167772160 at p found
    (and_from _ _ (le-leb p.range.first at (omega (arith, low, above))) (le-leb at p.range.last (omega (arith, below, long))))
