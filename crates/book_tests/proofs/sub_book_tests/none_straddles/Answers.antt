use Rattle.std.proofs.Common.{List, [], ◌∷◌, inl, inr, sym, ◌∙◌, subst}
use Rattle.std.proofs.lemmas.Bool.{cases_Bool, cond-true, cond-false, false≢true}
use Rattle.num_range.specs.Range.{PlainRange}
use Rattle.reg_entry.specs.Ranges.{ranges_meet}
use Rattle.sub_book.specs.Book.{NoneStraddles, ranges_meeting}
use Rattle.book_tests.proofs.sub_book_tests.none_straddles.Goals as goal

-- a range that doesn't meet can't straddle
of_those_met : {V : Type 0} (r : PlainRange) (ps : List (PlainRange × V)) → NoneStraddles (ranges_meeting ps r) r → NoneStraddles ps r
of_those_met r [] h = tt
of_those_met {V} r (p ∷ ps) h = elim (cases_Bool (ranges_meet p.0 r)) [
  | inl t ↦
      let met = subst (λ (xs : List (PlainRange × V)). NoneStraddles xs r) (cond-true (ranges_meet p.0 r) (p ∷ ranges_meeting ps r) (ranges_meeting ps r) t) h in
      (met.0, of_those_met r ps met.1)
  | inr f ↦
      let rest = subst (λ (xs : List (PlainRange × V)). NoneStraddles xs r) (cond-false (ranges_meet p.0 r) (p ∷ ranges_meeting ps r) (ranges_meeting ps r) f) h in
      (λ t. absurd (false≢true (sym f ∙ t)), of_those_met r ps rest)
]

pub loop-range-init : goal.loop-range-init
loop-range-init c = λ h.
    of_those_met c.args.r.now c.args.book.now.ranges
    (subst (λ xs. NoneStraddles xs c.args.r.now) (c.into_iter-range-iterator.ensures.into_iter_gives ∙ c.walk-range-items.ensures) h)
