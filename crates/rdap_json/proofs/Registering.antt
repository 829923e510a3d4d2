-- What is found in a whole register has a holder and a day.
use Rattle.std.proofs.Common.{◌≡◌, ℕ, zero, suc, ◌<◌, List, [], ◌∷◌, length, Option, None, Some, IfSome, slice_get, refl, sym, ◌∙◌, subst, arith}
use Rattle.std.specs.List.{Contains}
use Rattle.std.specs.Option.{IsSome, option_map, option_and_then}
use Rattle.std.proofs.lemmas.Option.{none-some, same_Some}
use Rattle.num_range.specs.Range.{PlainRange}
use Rattle.reg_entry.specs.declared.piece.Piece.{Piece}
use Rattle.reg_entry.specs.declared.sub_card.SubCard.{SubCard}
use Rattle.reg_entry.specs.declared.found.Found.{Found}
use Rattle.reg_entry.specs.declared.holder.Holder.{Holder}
use Rattle.reg_entry.specs.declared.found.Found.TheVariants.{Piece as ThePiece, Sub as TheSub}
use Rattle.reg_entry.specs.Register.{Register, register_pieces}
use Rattle.reg_entry.specs.Sums.{narrowest}
use Rattle.reg_entry.specs.Whole.{IsKnownHolder, IsCardIn, HaveCardsIn, IsSubIn, AreSubsIn, IsWholeRegister}
use Rattle.reg_laws.specs.Narrowest.{IsRound, IsNarrowest}
use Rattle.rdap_json.specs.RdapAnswer.{holder_in, facts_of, facts_round}
use Rattle.rdap_json.specs.Registered.{IsRegistered}

card_in : (r : Register) (ps : List Piece) (p : Piece) → HaveCardsIn r ps → Contains ps p → IsCardIn r p.card
card_in r [] p each (k, h, e) = absurd (omega arith)
card_in r (q ∷ ps) p each (zero, h, e) = subst (λ (x : Piece). IsCardIn r x.card) e each.0
card_in r (q ∷ ps) p each (suc k, h, e) = card_in r ps p each.1 (k, omega arith, e)

sub_in : (r : Register) (ss : List (PlainRange × SubCard)) (s : PlainRange × SubCard) → AreSubsIn r ss → Contains ss s → IsSubIn r s
sub_in r [] s each (k, h, e) = absurd (omega arith)
sub_in r (t ∷ ss) s each (zero, h, e) = subst (IsSubIn r) e each.0
sub_in r (t ∷ ss) s each (suc k, h, e) = sub_in r ss s each.1 (k, omega arith, e)

known : (r : Register) (o : Option ℕ) → IsKnownHolder r o → IfSome o (λ number. number < length r.holders)
known r None h = tt
known r (Some number) h = h

registered : (r : Register) (range : PlainRange) (f : Found) → IsWholeRegister r → IsRound r range f → IsRegistered r f
registered r range (ThePiece p) whole round =
    let card = card_in r (register_pieces r range.space) p (whole.cards range.space) round.0 in
    let dated = card.dated round.1 in
    let day = card.day in
    let days = whole.days in
    record { holder = known r p.card.holder (card.holder round.1); day = (dated, omega arith) }
registered r range (TheSub s card parent) whole round =
    let sub = sub_in r r.subs (s, card) whole.subs round.0 in
    let day = sub.day in
    let days = whole.days in
    record { holder = sub.holder; day = (day.0, omega arith) }

round_of : (r : Register) (range : PlainRange) (o : Option Found) (f : Found) → IsNarrowest r range o → o ≡ Some f → IsRound r range f
round_of r range None f narrow is = absurd (none-some f is)
round_of r range (Some g) f narrow is = subst (IsRound r range) (same_Some g f is) narrow.0

-- said of the result of a look-up
pub narrowest_registered : (r : Register) (range : PlainRange) (o : Option Found) (f : Found) → IsWholeRegister r
    → ((s : Register) (q : PlainRange) → IsNarrowest s q (narrowest s q)) → o ≡ narrowest r range → o ≡ Some f → IsRegistered r f
narrowest_registered r range o f whole least found is =
    registered r range f whole (round_of r range (narrowest r range) f (least r range) (sym found ∙ is))

-- ---- and so it is told

some_at : (hs : List (Holder × ℕ)) (n : ℕ) → n < length hs → IsSome (slice_get hs n)
some_at [] n h = absurd (omega arith)
some_at (m ∷ hs) zero h = refl
some_at (m ∷ hs) (suc n) h = some_at hs n (omega arith)

still_some : {A B : Type 0} (f : A → B) (o : Option A) → IsSome o → IsSome (option_map f o)
still_some f None h = h
still_some f (Some x) h = refl

holder_there : (r : Register) (o : Option ℕ) → IsKnownHolder r o → IsSome (option_and_then (slice_get r.holders) o)
holder_there r None h = absurd h
holder_there r (Some n) h = some_at r.holders n h

told : (r : Register) (range : PlainRange) (f : Found) → IsWholeRegister r → IsRound r range f → IsSome (option_map (facts_of f) (holder_in r.holders f))
told r range (ThePiece p) whole round =
    let card = card_in r (register_pieces r range.space) p (whole.cards range.space) round.0 in
    still_some (facts_of (ThePiece p)) _ (still_some (λ m. m.0) _ (holder_there r p.card.holder (card.holder round.1)))
told r range (TheSub s card parent) whole round =
    let sub = sub_in r r.subs (s, card) whole.subs round.0 in
    still_some (facts_of (TheSub s card parent)) _ (still_some (λ m. m.0) _ (holder_there r (Some card.holder) sub.holder))

told_where : (r : Register) (range : PlainRange) (o : Option Found) → IsWholeRegister r → IsNarrowest r range o → IsSome o
    → IsSome (option_and_then (λ f. option_map (facts_of f) (holder_in r.holders f)) o)
told_where r range None whole narrow h = h
told_where r range (Some f) whole narrow h = told r range f whole narrow.0

pub found_told : ((s : Register) (q : PlainRange) → IsNarrowest s q (narrowest s q)) → (r : Register) (range : PlainRange) → IsWholeRegister r
    → IsSome (narrowest r range) → IsSome (facts_round r range)
found_told least r range whole h = told_where r range (narrowest r range) whole (least r range) h
