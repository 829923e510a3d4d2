-- The labels of a name.
use Rattle.std.proofs.Common.{◌≡◌, ◌≢◌, ℕ, ◌==◌, false, List, [], ◌∷◌, ◌++◌, length, All, Option, None, Some, refl, sym, ap, ◌∙◌, arith, length-append, append_assoc, subst}
use Rattle.std.specs.Option.{option_map, option_and_then}
use Rattle.std.specs.List.{slice_split}
use Rattle.std.proofs.lemmas.Bool.Decides.{nat_tests}
use Rattle.std.proofs.lemmas.List.Elements.{All-weaker}
use Rattle.std.proofs.lemmas.List.Splits.{slice_split_none, slice_split_at}
use Rattle.num_range.specs.declared.space.Space.{Space}
use Rattle.mirror_core.specs.Keys.{label_of, labels_of}
use Rattle.mirror_core.specs.Rows.{HasNoFew}

abbrev pub parts : List ℕ → List (List ℕ)
parts text = slice_split (λ b. b == 46) text

no_dots : (text : List ℕ) → All (λ b. b ≢ 46) text → All (λ b. (b == 46) ≡ false) text
no_dots text h = All-weaker (λ b. b ≢ 46) (λ b. (b == 46) ≡ false) (λ b h. grind (arith, nat_tests)) text h

parted : (text front rest : List ℕ) → text ≡ front ++ 46 ∷ rest → All (λ b. b ≢ 46) front → parts text ≡ front ∷ parts rest
parted text front rest e none = ap parts e ∙ slice_split_at (λ b. b == 46) front 46 rest (no_dots front none) refl

whole : (text : List ℕ) → All (λ b. b ≢ 46) text → parts text ≡ text ∷ []
whole text none = slice_split_none (λ b. b == 46) text (no_dots text none)

-- the values of labels of which the first has this one
abbrev onto : Option ℕ → Option (List ℕ) → Option (List ℕ)
onto first rest = option_and_then (λ label. option_map (λ labels. label ∷ labels) rest) first

abbrev behind : List ℕ → Option (List ℕ) → Option (List ℕ)
behind done rest = option_map (λ labels. done ++ labels) rest

one_more : (done : List ℕ) (label : ℕ) (rest : Option (List ℕ)) → behind (done ++ label ∷ []) rest ≡ behind done (onto (Some label) rest)
one_more done label None = refl
one_more done label (Some labels) = ap Some (append_assoc done (label ∷ []) labels)

nothing : (done : List ℕ) (first : Option ℕ) (rest : Option (List ℕ)) → first ≡ None → HasNoFew 16 (behind done (onto first rest))
nothing done None rest e = tt
nothing done (Some label) rest e = absurd (cc)

too_many : (done : List ℕ) (first : Option ℕ) (rest : Option (List ℕ)) → length done ≡ 16 → HasNoFew 16 (behind done (onto first rest))
too_many done None rest full = tt
too_many done (Some label) None full = tt
too_many done (Some label) (Some labels) full = omega (arith, length-append done (label ∷ labels))

module _ (space : Space) (done text front rest : List ℕ) (all : Option (List ℕ)) (read : behind done (labels_of space (parts text)) ≡ all)
    (split : text ≡ front ++ 46 ∷ rest) (none : All (λ b. b ≢ 46) front) where
  here : behind done (onto (label_of space front) (labels_of space (parts rest))) ≡ all
  here = ap (λ (ps : List (List ℕ)). behind done (labels_of space ps)) (sym (parted text front rest split none)) ∙ read

  pub goes_on : (label : ℕ) → Some label ≡ label_of space front → behind (done ++ label ∷ []) (labels_of space (parts rest)) ≡ all
  goes_on label is = one_more done label (labels_of space (parts rest)) ∙ ap (λ (first : Option ℕ). behind done (onto first (labels_of space (parts rest)))) is ∙ here

  pub stops : None ≡ label_of space front → HasNoFew 16 all
  stops is = subst (HasNoFew 16) here (nothing done (label_of space front) (labels_of space (parts rest)) (sym is))

  pub overflows : length done ≡ 16 → HasNoFew 16 all
  overflows full = subst (HasNoFew 16) here (too_many done (label_of space front) (labels_of space (parts rest)) full)

module _ (space : Space) (done text : List ℕ) (all : Option (List ℕ)) (read : behind done (labels_of space (parts text)) ≡ all) (none : All (λ b. b ≢ 46) text) where
  last_here : behind done (onto (label_of space text) (Some [])) ≡ all
  last_here = ap (λ (ps : List (List ℕ)). behind done (labels_of space ps)) (sym (whole text none)) ∙ read

  pub ends : (label : ℕ) → Some label ≡ label_of space text → all ≡ Some (done ++ label ∷ [])
  ends label is = sym last_here ∙ ap (λ (first : Option ℕ). behind done (onto first (Some []))) (sym is)

  pub last_stops : None ≡ label_of space text → HasNoFew 16 all
  last_stops is = subst (HasNoFew 16) last_here (nothing done (label_of space text) (Some []) (sym is))

  pub last_overflows : length done ≡ 16 → HasNoFew 16 all
  last_overflows full = subst (HasNoFew 16) last_here (too_many done (label_of space text) (Some []) full)
