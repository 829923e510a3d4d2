-- What each holder holds, and how the next entry changes it.
use Rattle.std.proofs.Common.{◌≡◌, ℕ, ◌+◌, ◌^◌, ◌<◌, ◌≤◌, true, false, nat_eq, List, [], ◌∷◌, None, Some, length, refl, sym, ◌∙◌, ap, subst, arith}
use Rattle.std.specs.Option.{option_eq}
use Rattle.std.proofs.lemmas.Bool.{and_parts, and_from, and_left, both_ways, eqb-true, false_from_ne_true}
use Rattle.num_range.specs.declared.space.Space.{Space}
use Rattle.num_range.specs.Range.{PlainRange}
use Rattle.reg_entry.specs.declared.card.Card.{Card}
use Rattle.reg_entry.specs.declared.card.Status.{Status}
use Rattle.reg_entry.specs.declared.card.Status.TheVariants.{Available, Reserved, Quarantine, Allocated, Assigned}
use Rattle.reg_entry.specs.declared.piece.Piece.{Piece}
use Rattle.reg_entry.specs.Entry.{PlainEntry}
use Rattle.reg_entry.specs.Card.{same_status, is_available, is_delegated}
use Rattle.reg_entry.specs.Covers.{first_number}
use Rattle.reg_entry.specs.Register.{Register, register_pieces, after_entry, card_of}
use Rattle.reg_entry.specs.Sums.{held, allocated}
use Rattle.reg_entry.specs.Next.{IsNextEntry}
use Rattle.reg_entry.specs.Whole.{IsKnownHolder, IsCardIn, HaveCardsIn, IsWholeRegister}
use Rattle.reg_entry.specs.Holdings.{gives_held, gives_allocated, held_by_card, allocated_by_card, held_by, allocated_by}
use Rattle.reg_laws.proofs.Sameness.{same_status-true, option_eq-true}
use Rattle.reg_laws.proofs.Shares.{IsOfTaken, AllPieces, register_share, share_sum-filter, share_painted, share_unpainted, share_there, share_below_top, share_part, share_of_none}

-- ---- the two tests

delegated_is_taken : (s : Status) → is_available s ≡ true → is_delegated s ≡ false
delegated_is_taken Available e = refl
delegated_is_taken Reserved e = refl
delegated_is_taken Quarantine e = refl
delegated_is_taken Allocated e = absurd (both_ways false refl e)
delegated_is_taken Assigned e = absurd (both_ways false refl e)

allocated_is_taken : (s : Status) → is_available s ≡ true → same_status s Allocated ≡ false
allocated_is_taken Available e = refl
allocated_is_taken Reserved e = refl
allocated_is_taken Quarantine e = refl
allocated_is_taken Allocated e = absurd (both_ways false refl e)
allocated_is_taken Assigned e = refl

held_of_taken : (holder : ℕ) → IsOfTaken (gives_held holder)
held_of_taken holder c e = and_left (is_delegated c.status) (option_eq nat_eq c.holder (Some holder)) (delegated_is_taken c.status e)

allocated_of_taken : (holder : ℕ) → IsOfTaken (gives_allocated holder)
allocated_of_taken holder c e = and_left (same_status c.status Allocated) (option_eq nat_eq c.holder (Some holder)) (allocated_is_taken c.status e)

held_is : (r : Register) (holder : ℕ) (space : Space) → held r holder space ≡ register_share (gives_held holder) r space
held_is r holder space = share_sum-filter (gives_held holder) (register_pieces r space)

allocated_is : (r : Register) (holder : ℕ) (space : Space) → allocated r holder space ≡ register_share (gives_allocated holder) r space
allocated_is r holder space = share_sum-filter (gives_allocated holder) (register_pieces r space)

moved : (a b c d x y : ℕ) → a ≡ x → b ≡ y → x + c ≡ y + d → a + c ≡ b + d
moved a b c d x y e f g = omega arith

-- ---- the next entry

pub next_held : (r : Register) (e : PlainEntry) (range : PlainRange) (c : Card) (holder : ℕ) (space : Space)
    → IsWholeRegister r → IsNextEntry r e → e.cover ≡ Some range → e.card ≡ Some c
    → held (after_entry r e) holder space + held_by holder space range (card_of r.pool (first_number range))
    ≡ held r holder space + held_by_card holder space range c
next_held r e range c holder space h next cover card =
    moved (held (after_entry r e) holder space) (held r holder space) (held_by holder space range (card_of r.pool (first_number range))) (held_by_card holder space range c)
    (register_share (gives_held holder) (after_entry r e) space) (register_share (gives_held holder) r space)
    (held_is (after_entry r e) holder space) (held_is r holder space)
    (share_painted (gives_held holder) r e range c space (held_of_taken holder) h.pieces next cover card)

pub next_allocated : (r : Register) (e : PlainEntry) (range : PlainRange) (c : Card) (holder : ℕ) (space : Space)
    → IsWholeRegister r → IsNextEntry r e → e.cover ≡ Some range → e.card ≡ Some c
    → allocated (after_entry r e) holder space + allocated_by holder space range (card_of r.pool (first_number range))
    ≡ allocated r holder space + allocated_by_card holder space range c
next_allocated r e range c holder space h next cover card =
    moved (allocated (after_entry r e) holder space) (allocated r holder space) (allocated_by holder space range (card_of r.pool (first_number range)))
    (allocated_by_card holder space range c)
    (register_share (gives_allocated holder) (after_entry r e) space) (register_share (gives_allocated holder) r space)
    (allocated_is (after_entry r e) holder space) (allocated_is r holder space)
    (share_painted (gives_allocated holder) r e range c space (allocated_of_taken holder) h.pieces next cover card)

pub same_held : (r : Register) (e : PlainEntry) (holder : ℕ) (space : Space) → IsWholeRegister r → IsNextEntry r e → e.card ≡ None
    → held (after_entry r e) holder space ≡ held r holder space
same_held r e holder space h next card =
    held_is (after_entry r e) holder space ∙ share_unpainted (gives_held holder) r e space h.pieces next card ∙ sym (held_is r holder space)

pub same_allocated : (r : Register) (e : PlainEntry) (holder : ℕ) (space : Space) → IsWholeRegister r → IsNextEntry r e → e.card ≡ None
    → allocated (after_entry r e) holder space ≡ allocated r holder space
same_allocated r e holder space h next card =
    allocated_is (after_entry r e) holder space ∙ share_unpainted (gives_allocated holder) r e space h.pieces next card ∙ sym (allocated_is r holder space)

pub takes_held : (r : Register) (e : PlainEntry) (range : PlainRange) (c : Card) (holder : ℕ) (space : Space)
    → IsWholeRegister r → IsNextEntry r e → e.cover ≡ Some range → e.card ≡ Some c
    → held_by holder space range (card_of r.pool (first_number range)) ≤ held r holder space
takes_held r e range c holder space h next cover card =
    subst (λ n. held_by holder space range (card_of r.pool (first_number range)) ≤ n) (sym (held_is r holder space))
    (share_there (gives_held holder) r e range c space h.pieces next cover card)

pub takes_allocated : (r : Register) (e : PlainEntry) (range : PlainRange) (c : Card) (holder : ℕ) (space : Space)
    → IsWholeRegister r → IsNextEntry r e → e.cover ≡ Some range → e.card ≡ Some c
    → allocated_by holder space range (card_of r.pool (first_number range)) ≤ allocated r holder space
takes_allocated r e range c holder space h next cover card =
    subst (λ n. allocated_by holder space range (card_of r.pool (first_number range)) ≤ n) (sym (allocated_is r holder space))
    (share_there (gives_allocated holder) r e range c space h.pieces next cover card)

-- ---- bounds

pub held_below : (r : Register) (holder : ℕ) (space : Space) → IsWholeRegister r → held r holder space < 2 ^ 127
held_below r holder space h =
    subst (λ n. n < 2 ^ 127) (sym (held_is r holder space)) (share_below_top (gives_held holder) space (register_pieces r space) (h.pieces.each space))

allocated_is_held : (holder : ℕ) (c : Card) → gives_allocated holder c ≡ true → gives_held holder c ≡ true
allocated_is_held holder c e =
    let parts = and_parts (same_status c.status Allocated) (option_eq nat_eq c.holder (Some holder)) e in
    and_from (is_delegated c.status) (option_eq nat_eq c.holder (Some holder)) (ap is_delegated (same_status-true c.status Allocated parts.0)) parts.1

pub allocated_within : (r : Register) (holder : ℕ) (space : Space) → allocated r holder space ≤ held r holder space
allocated_within r holder space =
    subst (λ n. n ≤ held r holder space) (sym (allocated_is r holder space))
    (subst (λ n. register_share (gives_allocated holder) r space ≤ n) (sym (held_is r holder space))
    (share_part (gives_allocated holder) (gives_held holder) (register_pieces r space) (allocated_is_held holder)))

is_another_s : (r : Register) (holder : ℕ) (c : Card) → length r.holders ≤ holder → IsCardIn r c → gives_held holder c ≡ false
is_another_s r holder c l h =
    false_from_ne_true (gives_held holder c) (λ e.
    let parts = and_parts (is_delegated c.status) (option_eq nat_eq c.holder (Some holder)) e in
    let is : c.holder ≡ Some holder = option_eq-true nat_eq (λ a b t. eqb-true a b t) c.holder (Some holder) parts.1 in
    let there : holder < length r.holders = subst (IsKnownHolder r) is (h.holder parts.0) in
    omega arith)

each_is_another_s : (r : Register) (holder : ℕ) (ps : List Piece) → length r.holders ≤ holder → HaveCardsIn r ps → AllPieces (λ p. gives_held holder p.card ≡ false) ps
each_is_another_s r holder [] l h = tt
each_is_another_s r holder (p ∷ ps) l h = (is_another_s r holder p.card l h.0, each_is_another_s r holder ps l h.1)

pub nobody_holds : (r : Register) (holder : ℕ) (space : Space) → IsWholeRegister r → length r.holders ≤ holder → held r holder space ≡ 0
nobody_holds r holder space h l =
    held_is r holder space ∙ share_of_none (gives_held holder) (register_pieces r space) (each_is_another_s r holder (register_pieces r space) l (h.cards space))
