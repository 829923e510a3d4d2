-- Loops over duties.
use Rattle.std.proofs.Common.{◌≡◌, true, List, [], ◌∷◌, ◌++◌, length, subst, sym, append-nil, refl}
use Rattle.std.proofs.lemmas.List.{nil_from_length}
use Rattle.std.specs.List.{AllZip, list_any}
use Rattle.door_face.specs.declared.outcome.Outcome.{Outcome}
use Rattle.door_face.specs.declared.outcome.Outcome.TheVariants.{Ended, Back}
use Rattle.door_face.specs.Duties.{is_back}

-- where none is left, what became of them is what became of all
pub all_ended : {A B : Type 0} (R : A → B → Type 0) (all rest : List A) (done : List B) → length rest ≡ 0
    → ((more : List B) → AllZip R rest more → AllZip R all (done ++ more)) → AllZip R all done
all_ended {A} R all rest done none inv =
    subst (λ os. AllZip R all os) (append-nil done) (inv [] (subst (λ (d : List A). AllZip R d []) (sym (nil_from_length rest none)) tt))

-- one more came back only where there is leave for it
pub back_on : {D : Type 0} (os : List (Outcome D)) (o : Outcome D) (P : Type 0) → (list_any is_back os ≡ true → P) → (is_back o ≡ true → P)
    → list_any is_back (os ++ o ∷ []) ≡ true → P
back_on [] (Ended x) P before here any = before any
back_on [] Back P before here any = here refl
back_on (Back ∷ os) o P before here any = before refl
back_on (Ended x ∷ os) o P before here any = back_on os o P before here any
