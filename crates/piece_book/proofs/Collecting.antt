-- Collecting the pieces that give way, one by one.
use Rattle.std.proofs.Common.{◌≡◌, ℕ, ◌+◌, ◌<◌, ◌≤◌, suc, zero, true, false, List, [], ◌∷◌, ◌++◌, length, take, drop, Option, Some, unwrap_or, inl, inr, refl, sym, ◌∙◌, ap, subst, arith, append_assoc, length-append}
use Rattle.std.proofs.lemmas.Bool.{cond_both}
use Rattle.std.proofs.lemmas.List.{append-nil}
use Rattle.num_range.specs.Range.{PlainRange}
use Rattle.reg_entry.specs.declared.card.Status.{Status}
use Rattle.reg_entry.specs.declared.piece.Piece.{Piece}
use Rattle.reg_entry.specs.Pieces.{RisesFrom}
use Rattle.reg_entry.proofs.Joining.{rises_from_lower}
use Rattle.piece_book.specs.GivesWay.{gives_way, giving_way, first_of, last_from, last_of}
use Rattle.piece_book.specs.Run.{IsRun}
use Rattle.piece_book.proofs.GivingWay.{LiesAbove, stays_cases, skip, keep, none_given, above_behind}

-- ---- one piece more

first_more : (ps : List Piece) (p : Piece) → first_of (ps ++ p ∷ []) ≡ Some (unwrap_or (first_of ps) p)
first_more [] p = refl
first_more (q ∷ ps) p = refl

last_more : (ps : List Piece) (p : Piece) → last_of (ps ++ p ∷ []) ≡ Some p
last_more [] p = refl
last_more (q ∷ ps) p = ap (λ (x : Piece). Some x) (from q ps)
  where
    from : (q : Piece) (ps : List Piece) → last_from q (ps ++ p ∷ []) ≡ p
    from q [] = refl
    from q (x ∷ ps) = from x ps

few_more : (ps : List Piece) (p : Piece) → take 3 (take 3 ps ++ p ∷ []) ≡ take 3 (ps ++ p ∷ [])
few_more [] p = refl
few_more (a ∷ []) p = refl
few_more (a ∷ b ∷ []) p = refl
few_more (a ∷ b ∷ c ∷ ps) p = refl

pub noted : (ps : List Piece) (p : Piece) (first last first' last' : Option Piece) (count count' : ℕ) (few few' : List Piece)
    → first' ≡ Some (unwrap_or first p) → last' ≡ Some p → count' ≡ count + 1 → few' ≡ take 3 (few ++ p ∷ [])
    → IsRun ps first last count few → IsRun (ps ++ p ∷ []) first' last' count' few'
noted ps p first last first' last' count count' few few' e f g k h = record {
  first_is = e ∙ ap (λ (o : Option Piece). Some (unwrap_or o p)) h.first_is ∙ sym (first_more ps p);
  last_is = f ∙ sym (last_more ps p);
  count_is = let more = length-append ps (p ∷ []) in omega (arith, h.count_is);
  few_is = k ∙ ap (λ (xs : List Piece). take 3 (xs ++ p ∷ [])) h.few_is ∙ few_more ps p;
}

-- ---- all of them

-- what was noted is a run, and with those of the pieces left that give way it is all of them
pub record IsCollected (r : PlainRange) (s : Status) (ps left : List Piece) (first last : Option Piece) (count : ℕ) (few : List Piece) : Type 0 where
  pub taken : List Piece
  pub whole : giving_way r s ps ≡ taken ++ giving_way r s left
  pub run : IsRun taken first last count few
  pub rises : RisesFrom 0 left

pub with_next : {r : PlainRange} {s : Status} {ps left rest : List Piece} {p : Piece} {first last : Option Piece} {count : ℕ} {few : List Piece} → left ≡ p ∷ rest
    → IsCollected r s ps left first last count few → IsCollected r s ps (p ∷ rest) first last count few
with_next {r} {s} {ps} {left} {rest} {p} {first} {last} {count} {few} e h = subst (λ (xs : List Piece). IsCollected r s ps xs first last count few) e h

pub fewer : (r : PlainRange) (s : Status) (ps : List Piece) → length (giving_way r s ps) ≤ length ps
fewer r s [] = omega arith
fewer r s (p ∷ ps) =
    let rest = fewer r s ps in
    cond_both (gives_way r s p) (p ∷ giving_way r s ps) (giving_way r s ps) (λ (xs : List Piece). length xs ≤ length (p ∷ ps)) (λ e. omega arith) (λ e. omega arith)

pub count_within : (r : PlainRange) (s : Status) (ps left : List Piece) (first last : Option Piece) (count : ℕ) (few : List Piece)
    → IsCollected r s ps left first last count few → count ≤ length ps
count_within r s ps left first last count few h =
    let all = ap (λ (xs : List Piece). length xs) h.whole in
    let more = length-append h.taken (giving_way r s left) in
    let most = fewer r s ps in
    omega (arith, h.run.count_is)

pub one_more : (r : PlainRange) (s : Status) (ps left : List Piece) (p : Piece) (first last first' last' : Option Piece) (count count' : ℕ) (few few' : List Piece)
    → IsCollected r s ps (p ∷ left) first last count few → gives_way r s p ≡ true
    → ((xs : List Piece) → IsRun xs first last count few → IsRun (xs ++ p ∷ []) first' last' count' few')
    → IsCollected r s ps left first' last' count' few'
one_more r s ps left p first last first' last' count count' few few' h e add = record {
  taken = h.taken ++ p ∷ [];
  whole = h.whole ∙ ap (λ (xs : List Piece). h.taken ++ xs) (keep r s p left e) ∙ sym (append_assoc h.taken (p ∷ []) (giving_way r s left));
  run = add h.taken h.run;
  rises = rises_from_lower 0 (p.range.last + 1) left (omega arith) h.rises.2;
}

pub one_past : (r : PlainRange) (s : Status) (ps left : List Piece) (p : Piece) (first last : Option Piece) (count : ℕ) (few : List Piece)
    → IsCollected r s ps (p ∷ left) first last count few → gives_way r s p ≡ false → IsCollected r s ps left first last count few
one_past r s ps left p first last count few h e = record {
  taken = h.taken;
  whole = h.whole ∙ ap (λ (xs : List Piece). h.taken ++ xs) (skip r s p left e);
  run = h.run;
  rises = rises_from_lower 0 (p.range.last + 1) left (omega arith) h.rises.2;
}

pub all_collected : (r : PlainRange) (s : Status) (ps : List Piece) (first last : Option Piece) (count : ℕ) (few : List Piece)
    → IsCollected r s ps [] first last count few → IsRun (giving_way r s ps) first last count few
all_collected r s ps first last count few h =
    subst (λ (xs : List Piece). IsRun xs first last count few) (sym (h.whole ∙ append-nil h.taken)) h.run

-- a piece above the range, where it stays, and all behind it stay
pub rest_above : (r : PlainRange) (s : Status) (ps left : List Piece) (p : Piece) (first last : Option Piece) (count : ℕ) (few : List Piece)
    → IsCollected r s ps (p ∷ left) first last count few → gives_way r s p ≡ false → r.first ≤ r.last → r.last < p.range.first
    → IsRun (giving_way r s ps) first last count few
rest_above r s ps left p first last count few h e ordered past =
    let above : LiesAbove r s p = elim (stays_cases r s p e) [
      | inl below ↦ absurd (omega (arith, h.rises.1))
      | inr over ↦ over
    ] in
    let none = none_given r s (p ∷ left) (above_behind 0 r s p left h.rises above) in
    subst (λ (xs : List Piece). IsRun xs first last count few)
    (sym (h.whole ∙ ap (λ (xs : List Piece). h.taken ++ xs) none ∙ append-nil h.taken)) h.run

rises_drop : (n : ℕ) (ps : List Piece) → RisesFrom 0 ps → RisesFrom 0 (drop n ps)
rises_drop zero ps h = h
rises_drop (suc n) [] h = tt
rises_drop (suc n) (p ∷ ps) h = rises_drop n ps (rises_from_lower 0 (p.range.last + 1) ps (omega arith) h.2)

-- none yet, where what stands before the pieces that are left stays
pub none_collected : (r : PlainRange) (s : Status) (ps left : List Piece) (n : ℕ) (first last : Option Piece) (count : ℕ) (few : List Piece)
    → left ≡ drop n ps → giving_way r s (drop n ps) ≡ giving_way r s ps → RisesFrom 0 ps → IsRun [] first last count few
    → IsCollected r s ps left first last count few
none_collected r s ps left n first last count few e same h run = record {
  taken = [];
  whole = sym same ∙ ap (λ (xs : List Piece). giving_way r s xs) (sym e);
  run = run;
  rises = subst (λ (xs : List Piece). RisesFrom 0 xs) (sym e) (rises_drop n ps h);
}
