-- Noting one operation more: what was noted still stands for the same operations.
use Rattle.std.proofs.Common.{◌≡◌, ℕ, zero, suc, ◌+◌, ◌-◌, ◌<◌, ◌≤◌, List, [], ◌∷◌, ◌++◌, Option, None, Some, drop, length, map, refl, ap, sym, ◌∙◌, subst, arith}
use Rattle.std.specs.List.{slice_get}
use Rattle.std.specs.Option.{option_map, option_map_or}
use Rattle.std.proofs.lemmas.List.{drop-map, length-append, length-drop, length-map, map-append}
use Rattle.std.proofs.lemmas.Option.{slice_get-map}
use Rattle.circular_buffer.proofs.Places.{slice_get-append_left, slice_get-drop, slice_get-last}
use Rattle.num_range.specs.Range.{PlainRange}
use Rattle.reg_entry.specs.declared.holder.Holder.{Holder}
use Rattle.reg_entry.specs.declared.object.Act.{Act}
use Rattle.reg_entry.specs.declared.object.Object.{Object}
use Rattle.reg_entry.specs.Objects.{org_of}
use Rattle.reg_entry.specs.Op.{PlainOp}
use Rattle.reg_entry.specs.Operations.{last_of, numbered}
use Rattle.op_feed.specs.declared.noted.Brief.{Brief}
use Rattle.op_feed.specs.declared.noted.Brief.TheVariants.{Block as BriefBlock, Sub as BriefSub, Org as BriefOrg, Cut as BriefCut}
use Rattle.op_feed.specs.declared.noted.Noted.{Noted}
use Rattle.op_feed.specs.Briefs.{CountUp, IsAmong, IsNextNumber, IsWindow, StandApart, change_noted, cut_number, cut_of, kept_of, next_number, no_object, object_of, org_number}

-- ---- numbers of operations

abbrev op_of : ℕ → Act × Object → PlainOp
op_of serial c = record { serial = serial; act = c.0; object = c.1 }

length-numbered : (last : ℕ) (cs : List (Act × Object)) → length (numbered last cs) ≡ length cs
length-numbered last [] = refl
length-numbered last (c ∷ cs) = ap suc (length-numbered (last + 1) cs)

numbered-append : (last : ℕ) (cs : List (Act × Object)) (c : Act × Object)
    → numbered last (cs ++ c ∷ []) ≡ numbered last cs ++ record { serial = last + length cs + 1; act = c.0; object = c.1 } ∷ []
numbered-append last [] c = ap (λ n. op_of n c ∷ []) (let e : last + 1 ≡ last + 0 + 1 = omega arith in e)
numbered-append last (d ∷ cs) c =
    ap (λ ops. op_of (last + 1) d ∷ ops) (numbered-append (last + 1) cs c)
    ∙ ap (λ n. op_of (last + 1) d ∷ numbered (last + 1) cs ++ op_of n c ∷ []) (let e : last + 1 + length cs + 1 ≡ last + length (d ∷ cs) + 1 = omega arith in e)

numbered-drop : (last k : ℕ) (cs : List (Act × Object)) → drop k (numbered last cs) ≡ numbered (last + k) (drop k cs)
numbered-drop last zero cs = ap (λ n. numbered n cs) (let e : last ≡ last + 0 = omega arith in e)
numbered-drop last (suc k) [] = refl
numbered-drop last (suc k) (c ∷ cs) = numbered-drop (last + 1) k cs ∙ ap (λ n. numbered n (drop k cs)) (let e : last + 1 + k ≡ last + suc k = omega arith in e)

at_numbered : (last i : ℕ) (cs : List (Act × Object))
    → slice_get (numbered last cs) i ≡ option_map (λ c. record { serial = last + i + 1; act = c.0; object = c.1 }) (slice_get cs i)
at_numbered last i [] = refl
at_numbered last zero (c ∷ cs) = ap (λ n. Some (op_of n c)) (let e : last + 1 ≡ last + 0 + 1 = omega arith in e)
at_numbered last (suc i) (c ∷ cs) =
    at_numbered (last + 1) i cs
    ∙ ap (λ n. option_map (op_of n) (slice_get cs i)) (let e : last + 1 + i + 1 ≡ last + suc i + 1 = omega arith in e)

-- ---- one more is noted

pub kept_more : (serial window : ℕ) (ns : List Noted) (n : Noted) (object : Brief → Object) → length ns ≤ serial
    → numbered (serial + 1 - length (last_of window (ns ++ n ∷ []))) (map (change_noted object) (last_of window (ns ++ n ∷ [])))
    ≡ last_of window (numbered (serial - length ns) (map (change_noted object) ns) ++ record { serial = serial + 1; act = n.act; object = object n.brief } ∷ [])
kept_more serial window ns n object few =
    let f : Noted → Act × Object = change_noted object in
    let k : ℕ = length (ns ++ n ∷ []) - window in
    let begun : ℕ = serial - length ns in
    let long = length-append ns (n ∷ []) in
    let rest = length-drop k (ns ++ n ∷ []) in
    let start : serial + 1 - length (drop k (ns ++ n ∷ [])) ≡ begun + k = omega (arith, long, rest) in
    let all = length-append (numbered begun (map f ns)) (op_of (serial + 1) (f n) ∷ []) in
    let same = length-numbered begun (map f ns) in
    let mapped = length-map ns f in
    let next : begun + length (map f ns) + 1 ≡ serial + 1 = omega (arith, mapped) in
    let dropped : k ≡ length (numbered begun (map f ns) ++ op_of (serial + 1) (f n) ∷ []) - window = omega (arith, long, all, same, mapped) in
    ap (λ m. numbered m (map f (drop k (ns ++ n ∷ [])))) start
    ∙ ap (numbered (begun + k)) (sym (drop-map f k (ns ++ n ∷ [])))
    ∙ sym (numbered-drop begun k (map f (ns ++ n ∷ [])))
    ∙ ap (λ cs. drop k (numbered begun cs)) (map-append f ns (n ∷ []))
    ∙ ap (drop k) (numbered-append begun (map f ns) (f n))
    ∙ ap (λ m. drop k (numbered begun (map f ns) ++ op_of m (f n) ∷ [])) next
    ∙ ap (λ m. drop m (numbered begun (map f ns) ++ op_of (serial + 1) (f n) ∷ [])) dropped

-- ---- what stands apart

next_rises : (from : ℕ) (o : Option ℕ) → from ≤ next_number from o
next_rises from None = omega arith
next_rises from (Some number) = omega arith

next_by_one : (from : ℕ) (o : Option ℕ) → next_number from o ≤ from + 1
next_by_one from None = omega arith
next_by_one from (Some number) = omega arith

module _ (number : Brief → Option ℕ) where
  counts_rise : (from until : ℕ) (ns : List Noted) → CountUp number from until ns → from ≤ until
  counts_rise from until [] h = omega (arith, h)
  counts_rise from until (n ∷ ns) h =
      let rest = counts_rise (next_number from (number n.brief)) until ns h.1 in
      let rises = next_rises from (number n.brief) in
      omega (arith, rest, rises)

  -- each is noted of one operation at least
  counts_within : (from until : ℕ) (ns : List Noted) → CountUp number from until ns → until ≤ from + length ns
  counts_within from until [] h = omega (arith, h)
  counts_within from until (n ∷ ns) h =
      let rest = counts_within (next_number from (number n.brief)) until ns h.1 in
      let one = next_by_one from (number n.brief) in
      omega (arith, rest, one)

  counts_more : (from until : ℕ) (ns : List Noted) (n : Noted) → CountUp number from until ns → IsNextNumber until (number n.brief)
      → CountUp number from (next_number until (number n.brief)) (ns ++ n ∷ [])
  counts_more from until [] n h is =
      (subst (λ k. IsNextNumber k (number n.brief)) (sym h) is, ap (λ k. next_number k (number n.brief)) h)
  counts_more from until (m ∷ ns) n h is = (h.0, counts_more (next_number from (number m.brief)) until ns n h.1 is)

  -- fewer of them
  record CountsFrom (from until : ℕ) (ns : List Noted) : Type 0 where
    first : ℕ
    later : from ≤ first
    counted : CountUp number first until ns

  counts_dropped : (from until k : ℕ) (ns : List Noted) → CountUp number from until ns → CountsFrom from until (drop k ns)
  counts_dropped from until zero ns h = record { first = from; later = omega arith; counted = h }
  counts_dropped from until (suc k) [] h = record { first = from; later = omega arith; counted = h }
  counts_dropped from until (suc k) (n ∷ ns) h =
      let rest = counts_dropped (next_number from (number n.brief)) until k ns h.1 in
      let rises = next_rises from (number n.brief) in
      record { first = rest.first; later = omega (arith, rest.later, rises); counted = rest.counted }

  -- where what stands apart is the same, so is what is noted of it
  same_changes : (object object' : Brief → Object) (from until : ℕ) (ns : List Noted)
      → ((b : Brief) → number b ≡ None → object' b ≡ object b)
      → ((b : Brief) (k : ℕ) → number b ≡ Some k → from ≤ k → k < until → object' b ≡ object b)
      → CountUp number from until ns → map (change_noted object') ns ≡ map (change_noted object) ns
  same_changes object object' from until [] none some h = refl
  same_changes object object' from until (n ∷ ns) none some h =
      let rises = next_rises from (number n.brief) in
      let most = counts_rise (next_number from (number n.brief)) until ns h.1 in
      ap (λ o. (n.act, o) ∷ map (change_noted object') ns) (by_number (number n.brief) refl h.0 most)
      ∙ ap (λ cs. change_noted object n ∷ cs)
      (same_changes object object' (next_number from (number n.brief)) until ns none (λ b k is least below. some b k is (omega (arith, rises, least)) below) h.1)
    where
      by_number : (o : Option ℕ) → number n.brief ≡ o → IsNextNumber from o → next_number from o ≤ until → object' n.brief ≡ object n.brief
      by_number None e is within = none n.brief e
      by_number (Some k) e is within = some n.brief k e (omega (arith, is)) (omega (arith, is, within))

  -- what is noted at a place
  among : (first from until i : ℕ) (ns : List Noted) (n : Noted) → first ≤ from → CountUp number from until ns → slice_get ns i ≡ Some n
      → (k : ℕ) → number n.brief ≡ Some k → (first ≤ k) × (k < until)
  among first from until i [] n le h at k is = absurd (cc)
  among first from until zero (m ∷ ns) n le h at k is =
      let most = counts_rise (next_number from (number m.brief)) until ns h.1 in
      by_number (number m.brief) (ap (λ (x : Noted). number x.brief) (some_same m n at) ∙ is) h.0 most
    where
      some_same : (x y : Noted) → Some x ≡ Some y → x ≡ y
      some_same x y e = cc

      by_number : (o : Option ℕ) → o ≡ Some k → IsNextNumber from o → next_number from o ≤ until → (first ≤ k) × (k < until)
      by_number None e next within = absurd (cc)
      by_number (Some j) e next within =
          let same : j ≡ k = cc in
          (omega (arith, same, next, le), omega (arith, same, next, within))
  among first from until (suc i) (m ∷ ns) n le h at k is =
      let rises = next_rises from (number m.brief) in
      among first (next_number from (number m.brief)) until i ns n (omega (arith, le, rises)) h.1 at k is

-- ---- the window

shorter : (serial window : ℕ) (ns : List Noted) (n : Noted) → length ns ≤ serial
    → (length (last_of window (ns ++ n ∷ [])) ≤ window) × (length (last_of window (ns ++ n ∷ [])) ≤ serial + 1)
shorter serial window ns n few =
    let long = length-append ns (n ∷ []) in
    let rest = length-drop (length (ns ++ n ∷ []) - window) (ns ++ n ∷ []) in
    (omega (arith, rest), omega (arith, long, rest, few))

module _ (number : Brief → Option ℕ) (serial : ℕ) (ns : List Noted) (n : Noted) (window count last room : ℕ)
    (few : length ns ≤ serial) (h : StandApart number serial ns window count last room) where
  counts_after : IsNextNumber count (number n.brief)
      → CountsFrom number h.first (next_number count (number n.brief)) (last_of window (ns ++ n ∷ []))
  counts_after is =
      counts_dropped number h.first (next_number count (number n.brief)) (length (ns ++ n ∷ []) - window) (ns ++ n ∷ [])
      (counts_more number h.first count ns n h.counted is)

  -- what doesn't stand apart is noted
  apart_more : number n.brief ≡ None → StandApart number (serial + 1) (last_of window (ns ++ n ∷ [])) window count last room
  apart_more none =
      let counts = counts_after (subst (IsNextNumber count) (sym none) tt) in
      record {
        rooms = h.rooms;
        fewer = omega (arith, h.fewer);
        held = h.held;
        first = counts.first;
        counted = subst (λ until. CountUp number counts.first until (last_of window (ns ++ n ∷ []))) (ap (next_number count) none) counts.counted;
        there = omega (arith, h.there, counts.later);
      }

-- one thing more stands apart
module _ {T : Type 0} (number : Brief → Option ℕ) (serial : ℕ) (ns : List Noted) (n : Noted) (window count : ℕ) (xs : List T) (room : ℕ)
    (few : length ns ≤ serial) (h : StandApart number serial ns window count (length xs) room) (x : T) (is : number n.brief ≡ Some count) where
  apart_counts : CountsFrom number h.first (count + 1) (last_of window (ns ++ n ∷ []))
  apart_counts =
      let counts = counts_after number serial ns n window count (length xs) room few h (subst (IsNextNumber count) (sym is) refl) in
      record {
        first = counts.first;
        later = counts.later;
        counted = subst (λ until. CountUp number counts.first until (last_of window (ns ++ n ∷ []))) (ap (next_number count) is) counts.counted;
      }

  apart_there : (count + 1) - length (last_of room (xs ++ x ∷ [])) ≤ apart_counts.first
  apart_there =
      let within = counts_within number apart_counts.first (count + 1) (last_of window (ns ++ n ∷ [])) apart_counts.counted in
      let left = (shorter serial window ns n few).0 in
      let long = length-append xs (x ∷ []) in
      let rest = length-drop (length (xs ++ x ∷ []) - room) (xs ++ x ∷ []) in
      omega (arith, within, left, long, rest, h.there, h.rooms, h.held, apart_counts.later)

  apart_one : StandApart number (serial + 1) (last_of window (ns ++ n ∷ [])) window (count + 1) (length (last_of room (xs ++ x ∷ []))) room
  apart_one = record {
    rooms = h.rooms;
    fewer = omega (arith, h.fewer);
    held = (let long = length-append xs (x ∷ []) in
        let rest = length-drop (length (xs ++ x ∷ []) - room) (xs ++ x ∷ []) in
        omega (arith, long, rest, h.held));
    first = apart_counts.first;
    counted = apart_counts.counted;
    there = apart_there;
  }

  -- those that are still there are found where they were
  found_there : (k : ℕ) → apart_counts.first ≤ k → k < count + 1
      → slice_get (last_of room (xs ++ x ∷ [])) (k - (count + 1 - length (last_of room (xs ++ x ∷ []))))
      ≡ slice_get (xs ++ x ∷ []) (k - (count + 1 - length (xs ++ x ∷ [])))
  found_there k least below =
      let gone : ℕ = length (xs ++ x ∷ []) - room in
      let there = apart_there in
      let long = length-append xs (x ∷ []) in
      let rest = length-drop gone (xs ++ x ∷ []) in
      slice_get-drop gone (xs ++ x ∷ []) (k - (count + 1 - length (drop gone (xs ++ x ∷ [])))) (k - (count + 1 - length (xs ++ x ∷ [])))
      (omega (arith, there, long, rest, h.held, least))

  found_before : (k : ℕ) → h.first ≤ k → k < count
      → slice_get (xs ++ x ∷ []) (k - (count + 1 - length (xs ++ x ∷ []))) ≡ slice_get xs (k - (count - length xs))
  found_before k least below =
      let long = length-append xs (x ∷ []) in
      let same : k - (count + 1 - length (xs ++ x ∷ [])) ≡ k - (count - length xs) = omega (arith, long, h.held) in
      ap (slice_get (xs ++ x ∷ [])) same
      ∙ slice_get-append_left xs (x ∷ []) (k - (count - length xs)) (omega (arith, h.there, h.held, least, below))

  found_last : slice_get (xs ++ x ∷ []) (count - (count + 1 - length (xs ++ x ∷ []))) ≡ Some x
  found_last =
      let long = length-append xs (x ∷ []) in
      slice_get-last xs x (count - (count + 1 - length (xs ++ x ∷ []))) (omega (arith, long, h.held))

  -- Where objects that don't stand apart follow from what is noted alone, and others from what is found at their numbers, one
  -- operation more is kept.
  module _ (object : ℕ → List T → Brief → Object) (given : T → Object)
      (other : (f f' : ℕ) (ys ys' : List T) (b : Brief) → number b ≡ None → object f' ys' b ≡ object f ys b)
      (found : (f f' : ℕ) (ys ys' : List T) (b : Brief) (k : ℕ) → number b ≡ Some k → slice_get ys' (k - f') ≡ slice_get ys (k - f) → object f' ys' b ≡ object f ys b)
      (standing : (f : ℕ) (ys : List T) (b : Brief) (k : ℕ) (y : T) → number b ≡ Some k → slice_get ys (k - f) ≡ Some y → object f ys b ≡ given y) where
    kept_one :
        numbered (serial + 1 - length (last_of window (ns ++ n ∷ [])))
        (map (change_noted (object (count + 1 - length (last_of room (xs ++ x ∷ []))) (last_of room (xs ++ x ∷ [])))) (last_of window (ns ++ n ∷ [])))
        ≡ last_of window (numbered (serial - length ns) (map (change_noted (object (count - length xs) xs)) ns)
        ++ record { serial = serial + 1; act = n.act; object = given x } ∷ [])
    kept_one =
        let all : List T = xs ++ x ∷ [] in
        let ms : List Noted = last_of window (ns ++ n ∷ []) in
        let before : Brief → Object = object (count - length xs) xs in
        let with_all : Brief → Object = object (count + 1 - length all) all in
        let after : Brief → Object = object (count + 1 - length (last_of room all)) (last_of room all) in
        ap (numbered (serial + 1 - length ms))
        (same_changes number with_all after apart_counts.first (count + 1) ms (other _ _ all (last_of room all))
        (λ b k e least below. found _ _ all (last_of room all) b k e (found_there k least below)) apart_counts.counted)
        ∙ kept_more serial window ns n with_all few
        ∙ ap (λ o. last_of window (numbered (serial - length ns) (map (change_noted with_all) ns) ++ record { serial = serial + 1; act = n.act; object = o } ∷ []))
        (standing _ all n.brief count x is found_last)
        ∙ ap (λ cs. last_of window (numbered (serial - length ns) cs ++ record { serial = serial + 1; act = n.act; object = given x } ∷ []))
        (same_changes number before with_all h.first count ns (other _ _ xs all)
        (λ b k e least below. found _ _ xs all b k e (found_before k least below)) h.counted)

-- ---- holders and cuts

module _ (first_cut : ℕ) (cuts : List (PlainRange × List (List ℕ))) where
  other_than_org : (f f' : ℕ) (ys ys' : List (Holder × ℕ)) (b : Brief) → org_number b ≡ None → object_of f' ys' first_cut cuts b ≡ object_of f ys first_cut cuts b
  other_than_org f f' ys ys' (BriefBlock range status handle day until) e = refl
  other_than_org f f' ys ys' (BriefSub range handle day) e = refl
  other_than_org f f' ys ys' (BriefOrg number) e = absurd (cc)
  other_than_org f f' ys ys' (BriefCut number) e = refl

  found_org : (f f' : ℕ) (ys ys' : List (Holder × ℕ)) (b : Brief) (k : ℕ) → org_number b ≡ Some k → slice_get ys' (k - f') ≡ slice_get ys (k - f)
      → object_of f' ys' first_cut cuts b ≡ object_of f ys first_cut cuts b
  found_org f f' ys ys' (BriefBlock range status handle day until) k e same = absurd (cc)
  found_org f f' ys ys' (BriefSub range handle day) k e same = absurd (cc)
  found_org f f' ys ys' (BriefOrg number) k e same =
      let is : number ≡ k = cc in
      ap (λ o. option_map_or org_of o no_object) (subst (λ j. slice_get ys' (j - f') ≡ slice_get ys (j - f)) (sym is) same)
  found_org f f' ys ys' (BriefCut number) k e same = absurd (cc)

  standing_org : (f : ℕ) (ys : List (Holder × ℕ)) (b : Brief) (k : ℕ) (y : Holder × ℕ) → org_number b ≡ Some k → slice_get ys (k - f) ≡ Some y
      → object_of f ys first_cut cuts b ≡ org_of y
  standing_org f ys (BriefBlock range status handle day until) k y e there = absurd (cc)
  standing_org f ys (BriefSub range handle day) k y e there = absurd (cc)
  standing_org f ys (BriefOrg number) k y e there =
      let is : number ≡ k = cc in
      ap (λ o. option_map_or org_of o no_object) (subst (λ j. slice_get ys (j - f) ≡ Some y) (sym is) there)
  standing_org f ys (BriefCut number) k y e there = absurd (cc)

module _ (first_org : ℕ) (orgs : List (Holder × ℕ)) where
  other_than_cut : (f f' : ℕ) (ys ys' : List (PlainRange × List (List ℕ))) (b : Brief) → cut_number b ≡ None
      → object_of first_org orgs f' ys' b ≡ object_of first_org orgs f ys b
  other_than_cut f f' ys ys' (BriefBlock range status handle day until) e = refl
  other_than_cut f f' ys ys' (BriefSub range handle day) e = refl
  other_than_cut f f' ys ys' (BriefOrg number) e = refl
  other_than_cut f f' ys ys' (BriefCut number) e = absurd (cc)

  found_cut : (f f' : ℕ) (ys ys' : List (PlainRange × List (List ℕ))) (b : Brief) (k : ℕ) → cut_number b ≡ Some k
      → slice_get ys' (k - f') ≡ slice_get ys (k - f) → object_of first_org orgs f' ys' b ≡ object_of first_org orgs f ys b
  found_cut f f' ys ys' (BriefBlock range status handle day until) k e same = absurd (cc)
  found_cut f f' ys ys' (BriefSub range handle day) k e same = absurd (cc)
  found_cut f f' ys ys' (BriefOrg number) k e same = absurd (cc)
  found_cut f f' ys ys' (BriefCut number) k e same =
      let is : number ≡ k = cc in
      ap (λ o. option_map_or cut_of o no_object) (subst (λ j. slice_get ys' (j - f') ≡ slice_get ys (j - f)) (sym is) same)

  standing_cut : (f : ℕ) (ys : List (PlainRange × List (List ℕ))) (b : Brief) (k : ℕ) (y : PlainRange × List (List ℕ)) → cut_number b ≡ Some k
      → slice_get ys (k - f) ≡ Some y → object_of first_org orgs f ys b ≡ cut_of y
  standing_cut f ys (BriefBlock range status handle day until) k y e there = absurd (cc)
  standing_cut f ys (BriefSub range handle day) k y e there = absurd (cc)
  standing_cut f ys (BriefOrg number) k y e there = absurd (cc)
  standing_cut f ys (BriefCut number) k y e there =
      let is : number ≡ k = cc in
      ap (λ o. option_map_or cut_of o no_object) (subst (λ j. slice_get ys (j - f) ≡ Some y) (sym is) there)

module _ (serial : ℕ) (ns : List Noted) (n : Noted) (window org_count : ℕ) (orgs : List (Holder × ℕ)) (org_room cut_count : ℕ)
    (cuts : List (PlainRange × List (List ℕ))) (cut_room : ℕ) (h : IsWindow serial ns window org_count orgs org_room cut_count cuts cut_room) where
  abbrev ms : List Noted
  ms = last_of window (ns ++ n ∷ [])

  same_orgs : org_number n.brief ≡ None → StandApart org_number (serial + 1) ms window org_count (length orgs) org_room
  same_orgs = apart_more org_number serial ns n window org_count (length orgs) org_room h.few h.holders

  same_cuts : cut_number n.brief ≡ None → StandApart cut_number (serial + 1) ms window cut_count (length cuts) cut_room
  same_cuts = apart_more cut_number serial ns n window cut_count (length cuts) cut_room h.few h.blocks

  -- what doesn't stand apart is noted
  pub window_more : org_number n.brief ≡ None → cut_number n.brief ≡ None
      → IsWindow (serial + 1) ms window org_count orgs org_room cut_count cuts cut_room
  window_more no_org no_cut =
      let short = shorter serial window ns n h.few in
      record { few = short.1; kept = short.0; holders = same_orgs no_org; blocks = same_cuts no_cut }

  pub window_org : (m : Holder × ℕ) → org_number n.brief ≡ Some org_count → cut_number n.brief ≡ None
      → IsWindow (serial + 1) ms window (org_count + 1) (last_of org_room (orgs ++ m ∷ [])) org_room cut_count cuts cut_room
  window_org m is no_cut =
      let short = shorter serial window ns n h.few in
      record {
        few = short.1;
        kept = short.0;
        holders = apart_one org_number serial ns n window org_count orgs org_room h.few h.holders m is;
        blocks = same_cuts no_cut;
      }

  pub kept_org : (m : Holder × ℕ) → org_number n.brief ≡ Some org_count
      → kept_of (serial + 1) ms (org_count + 1) (last_of org_room (orgs ++ m ∷ [])) cut_count cuts
      ≡ last_of window (kept_of serial ns org_count orgs cut_count cuts ++ record { serial = serial + 1; act = n.act; object = org_of m } ∷ [])
  kept_org m is =
      kept_one org_number serial ns n window org_count orgs org_room h.few h.holders m is
      (λ f ys. object_of f ys (cut_count - length cuts) cuts) org_of
      (other_than_org (cut_count - length cuts) cuts) (found_org (cut_count - length cuts) cuts) (standing_org (cut_count - length cuts) cuts)

  pub window_cut : (c : PlainRange × List (List ℕ)) → org_number n.brief ≡ None → cut_number n.brief ≡ Some cut_count
      → IsWindow (serial + 1) ms window org_count orgs org_room (cut_count + 1) (last_of cut_room (cuts ++ c ∷ [])) cut_room
  window_cut c no_org is =
      let short = shorter serial window ns n h.few in
      record {
        few = short.1;
        kept = short.0;
        holders = same_orgs no_org;
        blocks = apart_one cut_number serial ns n window cut_count cuts cut_room h.few h.blocks c is;
      }

  pub kept_cut : (c : PlainRange × List (List ℕ)) → cut_number n.brief ≡ Some cut_count
      → kept_of (serial + 1) ms org_count orgs (cut_count + 1) (last_of cut_room (cuts ++ c ∷ []))
      ≡ last_of window (kept_of serial ns org_count orgs cut_count cuts ++ record { serial = serial + 1; act = n.act; object = cut_of c } ∷ [])
  kept_cut c is =
      kept_one cut_number serial ns n window cut_count cuts cut_room h.few h.blocks c is
      (object_of (org_count - length orgs) orgs) cut_of
      (other_than_cut (org_count - length orgs) orgs) (found_cut (org_count - length orgs) orgs) (standing_cut (org_count - length orgs) orgs)

  -- the object at a place
  pub stands_among : (i : ℕ) (m : Noted) → slice_get ns i ≡ Some m → IsAmong (org_count - length orgs) org_count (cut_count - length cuts) cut_count m.brief
  stands_among i m at = by_brief m.brief refl
    where
      by_brief : (b : Brief) → m.brief ≡ b → IsAmong (org_count - length orgs) org_count (cut_count - length cuts) cut_count b
      by_brief (BriefBlock range status handle day until) e = tt
      by_brief (BriefSub range handle day) e = tt
      by_brief (BriefOrg number) e =
          among org_number (org_count - length orgs) h.holders.first org_count i ns m h.holders.there h.holders.counted at number (ap org_number e)
      by_brief (BriefCut number) e =
          among cut_number (cut_count - length cuts) h.blocks.first cut_count i ns m h.blocks.there h.blocks.counted at number (ap cut_number e)

pub length_kept : (serial : ℕ) (ns : List Noted) (org_count : ℕ) (orgs : List (Holder × ℕ)) (cut_count : ℕ) (cuts : List (PlainRange × List (List ℕ)))
    → length (kept_of serial ns org_count orgs cut_count cuts) ≡ length ns
length_kept serial ns org_count orgs cut_count cuts =
    let f : Noted → Act × Object = change_noted (object_of (org_count - length orgs) orgs (cut_count - length cuts) cuts) in
    length-numbered (serial - length ns) (map f ns) ∙ length-map ns f

-- the operation at a place
pub kept_at : (serial : ℕ) (ns : List Noted) (org_count : ℕ) (orgs : List (Holder × ℕ)) (cut_count : ℕ) (cuts : List (PlainRange × List (List ℕ))) (i : ℕ)
    → slice_get (kept_of serial ns org_count orgs cut_count cuts) i
    ≡ option_map (λ n. record { serial = serial - length ns + i + 1; act = n.act; object = object_of (org_count - length orgs) orgs (cut_count - length cuts) cuts n.brief }) (slice_get ns i)
kept_at serial ns org_count orgs cut_count cuts i =
    at_numbered (serial - length ns) i (map f ns) ∙ mapped (slice_get ns i) (slice_get-map f ns i)
  where
    f : Noted → Act × Object
    f = change_noted (object_of (org_count - length orgs) orgs (cut_count - length cuts) cuts)

    mapped : {o : Option (Act × Object)} (n : Option Noted) → o ≡ option_map f n
        → option_map (op_of (serial - length ns + i + 1)) o
        ≡ option_map (λ (m : Noted). op_of (serial - length ns + i + 1) (f m)) n
    mapped None e = ap (option_map (op_of (serial - length ns + i + 1))) e
    mapped (Some n) e = ap (option_map (op_of (serial - length ns + i + 1))) e
