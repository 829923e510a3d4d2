-- Each piece has one of the five statuses.
use Rattle.std.proofs.Common.{◌≡◌, ℕ, ◌+◌, List, [], ◌∷◌, filter, cond, inl, inr, refl, sym, ◌∙◌, ap, arith}
use Rattle.std.proofs.lemmas.Bool.{cases_Bool, cond-true, cond-false}
use Rattle.num_range.specs.Range.{size_of}
use Rattle.reg_entry.specs.declared.card.Status.{Status}
use Rattle.reg_entry.specs.declared.card.Status.TheVariants.{Available, Reserved, Quarantine, Allocated, Assigned}
use Rattle.reg_entry.specs.declared.piece.Piece.{Piece}
use Rattle.reg_entry.specs.Card.{same_status}
use Rattle.reg_entry.specs.Pieces.{size_sum}
use Rattle.reg_entry.specs.Sums.{has_status, status_sum}

-- a piece counts for its status alone
pub status_sum-cons : (p : Piece) (ps : List Piece) (s : Status) → status_sum (p ∷ ps) s ≡ cond (has_status s p) (size_of p.range) 0 + status_sum ps s
status_sum-cons p ps s =
    elim (cases_Bool (has_status s p)) [
      | inl t ↦
          ap size_sum (cond-true (has_status s p) (p ∷ filter (has_status s) ps) (filter (has_status s) ps) t)
          ∙ ap (λ n. n + status_sum ps s) (sym (cond-true (has_status s p) (size_of p.range) 0 t))
      | inr f ↦
          let none : cond (has_status s p) (size_of p.range) 0 ≡ 0 = cond-false (has_status s p) (size_of p.range) 0 f in
          let rest : status_sum (p ∷ ps) s ≡ status_sum ps s =
          ap size_sum (cond-false (has_status s p) (p ∷ filter (has_status s) ps) (filter (has_status s) ps) f) in
          omega arith
    ]

abbrev counted : Status → Status → ℕ → ℕ
counted own s size = cond (same_status own s) size 0

one_status : (own : Status) (size a b c d e all : ℕ) → a + b + c + d + e ≡ all
    → (counted own Available size + a) + (counted own Reserved size + b) + (counted own Quarantine size + c) + (counted own Allocated size + d) + (counted own Assigned size + e)
    ≡ size + all
one_status Available size a b c d e all h = omega arith
one_status Reserved size a b c d e all h = omega arith
one_status Quarantine size a b c d e all h = omega arith
one_status Allocated size a b c d e all h = omega arith
one_status Assigned size a b c d e all h = omega arith

pub statuses_add_up : (ps : List Piece)
    → status_sum ps Available + status_sum ps Reserved + status_sum ps Quarantine + status_sum ps Allocated + status_sum ps Assigned ≡ size_sum ps
statuses_add_up [] = refl
statuses_add_up (p ∷ ps) =
    rw (status_sum-cons p ps Available, status_sum-cons p ps Reserved, status_sum-cons p ps Quarantine, status_sum-cons p ps Allocated, status_sum-cons p ps Assigned)
    (one_status p.card.status (size_of p.range) (status_sum ps Available) (status_sum ps Reserved) (status_sum ps Quarantine) (status_sum ps Allocated)
    (status_sum ps Assigned) (size_sum ps) (statuses_add_up ps))
