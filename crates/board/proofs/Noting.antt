-- Operations that are noted one by one are noted all.
use Rattle.std.proofs.Common.{◌≡◌, ℕ, ◌+◌, ◌-◌, ◌<◌, ◌≤◌, Bool, true, false, cond, ◌&&◌, nat_le, inl, inr, List, [], ◌∷◌, ◌++◌, Option, Some, IfSome, drop, filter, find, map, length, refl, sym, ◌∙◌, ap, subst, append_assoc, arith}
use Rattle.std.specs.List.{AllByRecursion, flat_map}
use Rattle.std.specs.Option.{option_map}
use Rattle.std.proofs.lemmas.Bool.{cond-true, cond-false, cases_Bool, both_ways, and_parts, and_from, leb-true, le-leb, false_from_ne_true}
use Rattle.std.proofs.lemmas.List.{length-append, length-drop, length-map, map-append, drop-drop, drop-append-le, append-nil}
use Rattle.num_range.specs.Range.{PlainRange, IsRange}
use Rattle.reg_entry.specs.declared.holder.Holder.{Holder}
use Rattle.reg_entry.specs.declared.object.Object.{Object}
use Rattle.reg_entry.specs.declared.object.Act.{Act}
use Rattle.reg_entry.specs.declared.object.Act.TheVariants.{Add, Del}
use Rattle.reg_entry.specs.declared.piece.Piece.{Piece}
use Rattle.reg_entry.specs.Objects.{block_of_piece, blocks_of, cuts_of}
use Rattle.reg_entry.specs.Op.{PlainOp}
use Rattle.reg_entry.specs.Operations.{numbered, last_of}
use Rattle.reg_entry.specs.declared.request.Request.{Request}
use Rattle.reg_entry.specs.declared.request.Request.TheVariants.{AddHolder, EditHolder, SubAssign, SubReturn, SetReverse, ClearReverse, Return}
use Rattle.reg_entry.specs.declared.sub_card.SubCard.{SubCard}
use Rattle.reg_entry.specs.Ranges.{same_space, same_range, value_of_range, lies_inside, ranges_meet, ranges_inside, AreApart}
use Rattle.reg_laws.proofs.RangeLists.{AllOf, ranges_of_apart}
use Rattle.sub_book.specs.Book.{ranges_meeting}
use Rattle.op_feed.specs.PieceChanges.{pieces_gone, pieces_come}
use Rattle.op_feed.specs.EntryChanges.{dels, adds, entry_changes}
use Rattle.board.specs.Noted.{PlainOperations, noted, all_noted}

pub all_noted-append : (o : PlainOperations) (cs ds : List (Act × Object)) → all_noted o (cs ++ ds) ≡ all_noted (all_noted o cs) ds
all_noted-append o [] ds = refl
all_noted-append o (c ∷ cs) ds = all_noted-append (noted o c) cs ds

pub serial_noted : (o : PlainOperations) (cs : List (Act × Object)) → (all_noted o cs).serial ≡ o.serial + length cs
serial_noted o [] = omega arith
serial_noted o (c ∷ cs) = let rest : (all_noted (noted o c) cs).serial ≡ o.serial + 1 + length cs = serial_noted (noted o c) cs in omega arith

-- ---- the reverse entries inside a range

-- what is met of the list, and of that what lies inside, is what lies inside
inside_meets : (s r : PlainRange) → IsRange s → lies_inside s r ≡ true → ranges_meet s r ≡ true
inside_meets s r range e =
    let a = and_parts (same_space s.space r.space && nat_le r.first s.first) (nat_le s.last r.last) e in
    let b = and_parts (same_space s.space r.space) (nat_le r.first s.first) a.0 in
    let low = leb-true r.first s.first b.1 in
    let high = leb-true s.last r.last a.1 in
    let order : s.first ≤ s.last = range.0 in
    and_from (same_space s.space r.space && nat_le s.first r.last) (nat_le r.first s.last)
    (and_from (same_space s.space r.space) (nat_le s.first r.last) b.0 (le-leb s.first r.last (omega arith)))
    (le-leb r.first s.last (omega arith))

met_inside : {T : Type 0} (rs : List (PlainRange × T)) (r : PlainRange) → AllOf (λ s. IsRange s.0) rs
    → ranges_inside (ranges_meeting rs r) r ≡ ranges_inside rs r
met_inside [] r h = refl
met_inside {T} (s ∷ rs) r h =
    let rest = met_inside rs r h.1 in
    let inside : Bool = lies_inside s.0 r in
    let meets : Bool = ranges_meet s.0 r in
    elim (cases_Bool meets) [
      | inl t ↦
          ap (λ (xs : List (PlainRange × T)). ranges_inside xs r) (cond-true meets (s ∷ ranges_meeting rs r) (ranges_meeting rs r) t)
          ∙ ap (λ (xs : List (PlainRange × T)). cond inside (s ∷ xs) xs) rest
      | inr f ↦
          let out : inside ≡ false = false_from_ne_true inside (λ t. both_ways meets f (inside_meets s.0 r h.0 t)) in
          ap (λ (xs : List (PlainRange × T)). ranges_inside xs r) (cond-false meets (s ∷ ranges_meeting rs r) (ranges_meeting rs r) f)
          ∙ rest ∙ sym (cond-false inside (s ∷ ranges_inside rs r) (ranges_inside rs r) out)
    ]

pub all_inside : {T : Type 0} (rs ms : List (PlainRange × T)) (r : PlainRange) → AreApart rs → ms ≡ ranges_meeting rs r
    → ranges_inside ms r ≡ ranges_inside rs r
all_inside {T} rs ms r apart e = ap (λ (xs : List (PlainRange × T)). ranges_inside xs r) e ∙ met_inside rs r (ranges_of_apart rs apart)

-- an entry inside the range, and those behind it
inside_first : (all rest : List (PlainRange × List (List ℕ))) (s : PlainRange × List (List ℕ)) (r : PlainRange) → all ≡ s ∷ rest → lies_inside s.0 r ≡ true
    → flat_map cuts_of (ranges_inside all r) ≡ cuts_of s ++ flat_map cuts_of (ranges_inside rest r)
inside_first all rest s r e t =
    ap (λ xs. flat_map cuts_of (ranges_inside xs r)) e
    ∙ ap (flat_map cuts_of) (cond-true (lies_inside s.0 r) (s ∷ ranges_inside rest r) (ranges_inside rest r) t)

pub dropped_count : (all rest : List (PlainRange × List (List ℕ))) (s : PlainRange × List (List ℕ)) (r : PlainRange) → all ≡ s ∷ rest → lies_inside s.0 r ≡ true
    → length (flat_map cuts_of (ranges_inside all r)) ≡ length (cuts_of s) + length (flat_map cuts_of (ranges_inside rest r))
dropped_count all rest s r e t = ap length (inside_first all rest s r e t) ∙ length-append (cuts_of s) (flat_map cuts_of (ranges_inside rest r))

length_dels : (os : List Object) → length (dels os) ≡ length os
length_dels os = length-map os (λ (o : Object). (Del, o))

pub dropped_noted : (o next : PlainOperations) (all rest : List (PlainRange × List (List ℕ))) (s : PlainRange × List (List ℕ)) (r : PlainRange) → all ≡ s ∷ rest
    → lies_inside s.0 r ≡ true → next ≡ all_noted o (dels (cuts_of s))
    → all_noted next (dels (flat_map cuts_of (ranges_inside rest r))) ≡ all_noted o (dels (flat_map cuts_of (ranges_inside all r)))
dropped_noted o next all rest s r e t is =
    let behind : List Object = flat_map cuts_of (ranges_inside rest r) in
    ap (λ x. all_noted x (dels behind)) is
    ∙ sym (all_noted-append o (dels (cuts_of s)) (dels behind))
    ∙ ap (all_noted o) (sym (map-append (λ (x : Object). (Del, x)) (cuts_of s) behind))
    ∙ ap (λ xs. all_noted o (dels xs)) (sym (inside_first all rest s r e t))

pub dropped_serial : (o next : PlainOperations) (s : PlainRange × List (List ℕ)) → next ≡ all_noted o (dels (cuts_of s))
    → next.serial ≡ o.serial + length (cuts_of s)
dropped_serial o next s is = ap (λ x. x.serial) is ∙ serial_noted o (dels (cuts_of s)) ∙ ap (λ n. o.serial + n) (length_dels (cuts_of s))

-- ---- all of an entry

last_of_last : {A : Type 0} (count : ℕ) (xs ys : List A) → last_of count (last_of count xs ++ ys) ≡ last_of count (xs ++ ys)
last_of_last count xs ys =
    let gone : ℕ = length xs - count in
    let kept : List _ = last_of count xs in
    let short : gone ≤ length xs = omega arith in
    let together : drop gone (xs ++ ys) ≡ kept ++ ys = drop-append-le gone xs ys short in
    let lk : length kept ≡ length xs - gone = length-drop gone xs in
    let lky : length (kept ++ ys) ≡ length kept + length ys = length-append kept ys in
    let lxy : length (xs ++ ys) ≡ length xs + length ys = length-append xs ys in
    let sum : gone + (length (kept ++ ys) - count) ≡ length (xs ++ ys) - count = counted (length xs) (length ys) count (length kept) (length (kept ++ ys)) (length (xs ++ ys)) lk lky lxy in
    ap (λ zs. drop (length (kept ++ ys) - count) zs) (sym together)
    ∙ drop-drop (length (kept ++ ys) - count) gone (xs ++ ys)
    ∙ ap (λ n. drop n (xs ++ ys)) sum
  where
    counted : (a b c k ky xy : ℕ) → k ≡ a - (a - c) → ky ≡ k + b → xy ≡ a + b → (a - c) + (ky - c) ≡ xy - c
    counted a b c k ky xy e f g = omega arith

pub kept_noted : (o : PlainOperations) (cs : List (Act × Object)) → length o.kept ≤ o.window
    → (all_noted o cs).kept ≡ last_of o.window (o.kept ++ numbered o.serial cs)
kept_noted o [] few =
    ap (λ n. drop n o.kept) (let none : 0 ≡ length o.kept - o.window = omega arith in none) ∙ ap (last_of o.window) (sym (append-nil o.kept))
kept_noted o (c ∷ cs) few =
    let op : PlainOp = record { serial = o.serial + 1; act = c.0; object = c.1 } in
    let next : List PlainOp = o.kept ++ op ∷ [] in
    let n = length-drop (length next - o.window) next in
    kept_noted (noted o c) cs (omega arith)
    ∙ last_of_last o.window next (numbered (o.serial + 1) cs)
    ∙ ap (last_of o.window) (append_assoc o.kept (op ∷ []) (numbered (o.serial + 1) cs))

pub window_noted : (o : PlainOperations) (cs : List (Act × Object)) → (all_noted o cs).window ≡ o.window
window_noted o [] = refl
window_noted o (c ∷ cs) = window_noted (noted o c) cs

-- ---- one part behind another

pub noted_in_two : (o p q : PlainOperations) (xs ys : List (Act × Object)) → p ≡ all_noted o xs → q ≡ all_noted p ys → q ≡ all_noted o (xs ++ ys)
noted_in_two o p q xs ys e f = f ∙ ap (λ x. all_noted x ys) e ∙ sym (all_noted-append o xs ys)

pub noted_in_three : (o p q r : PlainOperations) (xs ys zs : List (Act × Object)) → p ≡ all_noted o xs → q ≡ all_noted p ys → r ≡ all_noted q zs
    → r ≡ all_noted o (xs ++ (ys ++ zs))
noted_in_three o p q r xs ys zs e f g =
    noted_in_two q q r [] zs refl g ∙ ap (λ x. all_noted x zs) (noted_in_two o p q xs ys e f) ∙ sym (all_noted-append o (xs ++ ys) zs)
    ∙ ap (all_noted o) (append_assoc xs ys zs)

pub serial_after : (o p : PlainOperations) (xs : List (Act × Object)) → p ≡ all_noted o xs → p.serial ≡ o.serial + length xs
serial_after o p xs e = ap (λ x. x.serial) e ∙ serial_noted o xs

pub fits_first : (serial : ℕ) (xs ys : List (Act × Object)) (most : ℕ) → serial + length (xs ++ ys) < most → serial + length xs < most
fits_first serial xs ys most h = let a = length-append xs ys in omega arith

pub fits_second : (o p : PlainOperations) (xs : List (Act × Object)) (os : List Object) (zs : List (Act × Object)) (most : ℕ) → p ≡ all_noted o xs
    → o.serial + length (xs ++ (dels os ++ zs)) < most → p.serial + length os < most
fits_second o p xs os zs most e h =
    let a = length-append xs (dels os ++ zs) in
    let b = length-append (dels os) zs in
    let d = length_dels os in
    let s = serial_after o p xs e in
    omega arith

pub fits_third : (o p q : PlainOperations) (xs ys zs : List (Act × Object)) (most : ℕ) → p ≡ all_noted o xs → q ≡ all_noted p ys
    → o.serial + length (xs ++ (ys ++ zs)) < most → q.serial + length zs < most
fits_third o p q xs ys zs most e f h =
    let a = length-append xs (ys ++ zs) in
    let b = length-append ys zs in
    let s = serial_after o p xs e in
    let t = serial_after p q ys f in
    omega arith

pub fits_behind : (o p : PlainOperations) (xs zs : List (Act × Object)) (most : ℕ) → p ≡ all_noted o xs → o.serial + length (xs ++ zs) < most
    → p.serial + length zs < most
fits_behind o p xs zs most e h = let a = length-append xs zs in let s = serial_after o p xs e in omega arith

-- ---- the holder of a sub that is there

pub sub_known : (count : ℕ) (rs : List (PlainRange × SubCard)) (r : PlainRange) (o : Option SubCard) → AllByRecursion (λ s. s.1.holder < count) rs
    → o ≡ value_of_range rs r → IfSome o (λ card. card.holder < count)
sub_known count rs r o all e = subst (λ x. IfSome x (λ card. card.holder < count)) (sym e) (found count rs r all)
  where
    found : (count : ℕ) (rs : List (PlainRange × SubCard)) (r : PlainRange) → AllByRecursion (λ s. s.1.holder < count) rs
        → IfSome (value_of_range rs r) (λ card. card.holder < count)
    found count [] r all = tt
    found count (s ∷ rs) r all =
        elim (cases_Bool (same_range s.0 r)) [
          | inl t ↦
              subst (λ x. IfSome (option_map (λ (p : PlainRange × SubCard). p.1) x) (λ card. card.holder < count))
              (sym (cond-true (same_range s.0 r) (Some s) (find (λ p. same_range p.0 r) rs) t)) all.0
          | inr f ↦
              subst (λ x. IfSome (option_map (λ (p : PlainRange × SubCard). p.1) x) (λ card. card.holder < count))
              (sym (cond-false (same_range s.0 r) (Some s) (find (λ p. same_range p.0 r) rs) f)) (found count rs r all.1)
        ]

-- ---- requests that change pieces and holders, subs and reverse entries of none

abbrev pub of_pieces : List (Holder × ℕ) → List Piece → List Piece → List (Act × Object)
of_pieces hs before after = dels (blocks_of hs (pieces_gone before after)) ++ adds (blocks_of hs (pieces_come before after))

pub only_pieces : (hs : List (Holder × ℕ)) (subs : List (PlainRange × SubCard)) (reverses : List (PlainRange × List (List ℕ))) (day : ℕ)
    (before after : List Piece) (request : Request) → ((holder : Holder) → request ≡ AddHolder holder → ⊥) → ((holder : Holder) → request ≡ EditHolder holder → ⊥)
    → ((range : PlainRange) (handle : List ℕ) → request ≡ SubAssign range handle → ⊥) → ((range : PlainRange) → request ≡ SubReturn range → ⊥)
    → ((range : PlainRange) (servers : List (List ℕ)) → request ≡ SetReverse range servers → ⊥) → ((range : PlainRange) → request ≡ ClearReverse range → ⊥)
    → ((range : PlainRange) (handle : List ℕ) → request ≡ Return range handle → ⊥)
    → entry_changes hs subs reverses day before after request ≡ of_pieces hs before after
only_pieces hs subs reverses day before after (AddHolder holder) a b c d e f g = absurd (a holder refl)
only_pieces hs subs reverses day before after (EditHolder holder) a b c d e f g = absurd (b holder refl)
only_pieces hs subs reverses day before after (SubAssign range handle) a b c d e f g = absurd (c range handle refl)
only_pieces hs subs reverses day before after (SubReturn range) a b c d e f g = absurd (d range refl)
only_pieces hs subs reverses day before after (SetReverse range servers) a b c d e f g = absurd (e range servers refl)
only_pieces hs subs reverses day before after (ClearReverse range) a b c d e f g = absurd (f range refl)
only_pieces hs subs reverses day before after (Return range handle) a b c d e f g = absurd (g range handle refl)
only_pieces hs subs reverses day before after request a b c d e f g = refl
