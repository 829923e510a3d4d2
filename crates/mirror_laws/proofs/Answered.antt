-- What is answered to one more piece of a feed.
use Rattle.std.proofs.Common.{◌≡◌, ℕ, List, [], ◌∷◌, ◌++◌, Option, None, Some, Result, Ok, Err, inl, inr, refl, sym, ap, ◌∙◌, subst, append_assoc, append-nil}
use Rattle.std.specs.List.{concat}
use Rattle.reg_entry.specs.Op.{PlainOp}
use Rattle.mirror_core.specs.declared.fault.FeedFault.{FeedFault}
use Rattle.mirror_core.specs.declared.fault.FeedFault.TheVariants.{Spelling, Gap, ForeignSource, ClassOut, Announced, NoMemory}
use Rattle.mirror_core.specs.Mirror.{PlainMirror, new_mirror}
use Rattle.mirror_core.specs.Feed.{fed}
use Rattle.mirror_core.specs.Fed.{IsFedWith, IsOutOfMemory, IsFed}
use Rattle.mirror_laws.specs.Feed.{IsFeedOf, fed_pieces}
use Rattle.mirror_laws.specs.Follows.{Follows, HoldsOperations, IsFedOrNoMemory}

holds_of : (source : List ℕ) (ops : List PlainOp) (m : PlainMirror) → Follows source ops m → HoldsOperations source ops m
holds_of source ops m h = record { serial = h.serial; objects = h.objects }

one_more : (m : PlainMirror) (pieces : List (List ℕ)) (bytes : List ℕ) → fed_pieces m (pieces ++ bytes ∷ []) ≡ fed (fed_pieces m pieces) bytes
one_more m [] bytes = refl
one_more m (piece ∷ pieces) bytes = one_more (fed m piece) pieces bytes

joined : (pieces : List (List ℕ)) (bytes rest : List ℕ) → concat (pieces ++ bytes ∷ []) ++ rest ≡ concat pieces ++ (bytes ++ rest)
joined [] bytes rest = ap (λ (t : List ℕ). t ++ rest) (append-nil bytes)
joined (piece ∷ pieces) bytes rest =
    append_assoc piece (concat (pieces ++ bytes ∷ [])) rest ∙ ap (λ (t : List ℕ). piece ++ t) (joined pieces bytes rest) ∙ sym (append_assoc piece (concat pieces) (bytes ++ rest))

module _ (source : List ℕ) (ops : List PlainOp)
    (law : (pieces : List (List ℕ)) (rest : List ℕ) → IsFeedOf source ops (concat pieces ++ rest) → Follows source ops (fed_pieces (new_mirror source) pieces))
    (pieces : List (List ℕ)) (bytes rest : List ℕ) (new : PlainMirror) (feed : IsFeedOf source ops (concat pieces ++ (bytes ++ rest))) where
  -- the mirror before the piece
  abbrev old : PlainMirror
  old = fed_pieces (new_mirror source) pieces

  follows_front : (front more : List ℕ) → bytes ≡ front ++ more → Follows source ops (fed old front)
  follows_front front more is =
      subst (Follows source ops) (one_more (new_mirror source) pieces front)
      (law (pieces ++ front ∷ []) (more ++ rest)
      (subst (IsFeedOf source ops)
      (ap (λ (t : List ℕ). concat pieces ++ t) (ap (λ (t : List ℕ). t ++ rest) is ∙ append_assoc front more rest) ∙ sym (joined pieces front (more ++ rest))) feed))

  follows_all : Follows source ops (fed old bytes)
  follows_all = follows_front bytes [] (sym (append-nil bytes))

  no_fault : (fault : FeedFault) → IsFedWith old bytes new (Some fault) → ⊥
  no_fault fault h = let none : new.fault ≡ None = ap (λ (m : PlainMirror). m.fault) h.0 ∙ follows_all.fault in absurd (let e : None ≡ Some fault = sym none ∙ h.1 in cc)

  pub answer_is : (answer : Result (Unit {0}) FeedFault) → IsFed old bytes new answer → IsFedOrNoMemory answer
  answer_is (Ok _) h = tt
  answer_is (Err (Spelling place)) h = no_fault (Spelling place) h
  answer_is (Err (Gap want got)) h = no_fault (Gap want got) h
  answer_is (Err (ForeignSource place)) h = no_fault (ForeignSource place) h
  answer_is (Err (ClassOut place)) h = no_fault (ClassOut place) h
  answer_is (Err (Announced place)) h = no_fault (Announced place) h
  answer_is (Err NoMemory) h = tt

  fed_holds : (fault : Option FeedFault) → IsFedWith old bytes new fault → HoldsOperations source ops new
  fed_holds fault h = subst (HoldsOperations source ops) (sym h.0) (holds_of source ops (fed old bytes) follows_all)

  stopped_holds : IsOutOfMemory old bytes new → HoldsOperations source ops new
  stopped_holds h =
      let kept = follows_front h.front h.rest h.split in
      subst (HoldsOperations source ops) (sym h.stopped) (record { serial = kept.serial; objects = kept.objects })

  pub holds_then : (answer : Result (Unit {0}) FeedFault) → IsFed old bytes new answer → HoldsOperations source ops new
  holds_then (Ok _) h = fed_holds None h
  holds_then (Err (Spelling place)) h = fed_holds (Some (Spelling place)) h
  holds_then (Err (Gap want got)) h = fed_holds (Some (Gap want got)) h
  holds_then (Err (ForeignSource place)) h = fed_holds (Some (ForeignSource place)) h
  holds_then (Err (ClassOut place)) h = fed_holds (Some (ClassOut place)) h
  holds_then (Err (Announced place)) h = fed_holds (Some (Announced place)) h
  holds_then (Err NoMemory) (inl h) = fed_holds (Some NoMemory) h
  holds_then (Err NoMemory) (inr h) = stopped_holds h
