-- The lines of the cuts that lie in a zone, from the entries that have a number there.
use Rattle.std.proofs.Common.{◌≡◌, ℕ, Bool, true, false, cond, List, [], ◌∷◌, ◌++◌, map, filter, refl, sym, ap, ◌∙◌}
use Rattle.std.specs.List.{flat_map, AllByRecursion}
use Rattle.std.proofs.lemmas.Grind.{flat_map-append}
use Rattle.std.proofs.lemmas.List.Folds.{flat_map-map}
use Rattle.num_range.specs.Range.{PlainRange, lies_inside, ranges_meet}
use Rattle.num_range.specs.Cover.{reverse_cuts}
use Rattle.sub_book.specs.Book.{ranges_meeting}
use Rattle.reverse_zone.specs.declared.apex.Apex.{Apex}
use Rattle.reverse_zone.specs.Apex.{apex_range}
use Rattle.reverse_zone.specs.Part.{part_inside}
use Rattle.reverse_zone.specs.Zone.{cuts_in, cut_lines}
use Rattle.reverse_zone.proofs.Parts.{CutLaws, apex_wide, cuts_of_part, no_cuts_elsewhere}

abbrev pub entry_lines : Apex → PlainRange × List (List ℕ) → List ℕ
entry_lines apex s = flat_map cut_lines (cuts_in apex s)

pub met_pass : (a : PlainRange) (rs : List (PlainRange × List (List ℕ))) → AllByRecursion (λ p. ranges_meet p.0 a ≡ true) (ranges_meeting rs a)
met_pass a [] = tt
met_pass a (r ∷ rs) = here (ranges_meet r.0 a) refl (met_pass a rs)
  where
    here : (b : Bool) → ranges_meet r.0 a ≡ b → AllByRecursion (λ p. ranges_meet p.0 a ≡ true) (ranges_meeting rs a)
        → AllByRecursion (λ p. ranges_meet p.0 a ≡ true) (cond b (r ∷ ranges_meeting rs a) (ranges_meeting rs a))
    here true e h = (e, h)
    here false e h = h

lists_of_texts : {X Y : Type 0} (text : Y → List ℕ) (f : X → List Y) (xs : List X)
    → flat_map text (flat_map f xs) ≡ flat_map (λ x. flat_map text (f x)) xs
lists_of_texts text f [] = refl
lists_of_texts {X} {Y} text f (x ∷ xs) =
    flat_map-append text (f x) (flat_map f xs) ∙ ap (λ (us : List ℕ). flat_map text (f x) ++ us) (lists_of_texts text f xs)

module _ (laws : CutLaws) (apex : Apex) where
  pub lines_of_part : (r : PlainRange) (servers : List (List ℕ)) → ranges_meet r (apex_range apex) ≡ true
      → flat_map (λ c. cut_lines (c, servers)) (reverse_cuts (part_inside r (apex_range apex))) ≡ entry_lines apex (r, servers)
  lines_of_part r servers met =
      ap (flat_map (λ c. cut_lines (c, servers))) (cuts_of_part laws (apex_range apex) r (apex_wide apex) ((laws.meets r (apex_range apex)).0 met).0)
      ∙ sym (flat_map-map cut_lines (λ c. (c, servers)) (filter (λ c. lies_inside c (apex_range apex)) (reverse_cuts r)))

  no_lines : (s : PlainRange × List (List ℕ)) → ranges_meet s.0 (apex_range apex) ≡ false → entry_lines apex s ≡ []
  no_lines s apart =
      ap (λ (cs : List PlainRange). flat_map cut_lines (map (λ c. (c, s.1)) cs)) (no_cuts_elsewhere laws (apex_range apex) s.0 apart)

  lines_met : (rs : List (PlainRange × List (List ℕ))) → flat_map (entry_lines apex) (ranges_meeting rs (apex_range apex)) ≡ flat_map (entry_lines apex) rs
  lines_met [] = refl
  lines_met (r ∷ rs) = here (ranges_meet r.0 (apex_range apex)) refl (lines_met rs)
    where
      here : (b : Bool) → ranges_meet r.0 (apex_range apex) ≡ b
          → flat_map (entry_lines apex) (ranges_meeting rs (apex_range apex)) ≡ flat_map (entry_lines apex) rs
          → flat_map (entry_lines apex) (cond b (r ∷ ranges_meeting rs (apex_range apex)) (ranges_meeting rs (apex_range apex)))
          ≡ entry_lines apex r ++ flat_map (entry_lines apex) rs
      here true e h = ap (λ (us : List ℕ). entry_lines apex r ++ us) h
      here false e h = h ∙ ap (λ (us : List ℕ). us ++ flat_map (entry_lines apex) rs) (sym (no_lines r e))

  pub lines_of_met : (rs : List (PlainRange × List (List ℕ)))
      → flat_map (entry_lines apex) (ranges_meeting rs (apex_range apex)) ≡ flat_map cut_lines (flat_map (cuts_in apex) rs)
  lines_of_met rs = lines_met rs ∙ sym (lists_of_texts cut_lines (cuts_in apex) rs)
