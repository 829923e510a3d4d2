-- Links served one after another.
use Rattle.std.proofs.Common.{◌≡◌, ℕ, Bool, ◌+◌, ◌-◌, ◌^◌, List, [], ◌∷◌, ◌++◌, length, min, Option, None, Some, IfSome, Ok, refl, sym, ap, ◌∙◌, subst, append_assoc, append-nil, length-append, arith}
use Rattle.link_face.specs.declared.failed.Failed.{Failed}
use Rattle.door_face.specs.Doors.{LinkRecord, more_by, with_last, links_given}
use mathlib.Core.List.{IsPrefix}
use Rattle.reg_entry.specs.Entry.{PlainEntry}
use Rattle.reg_entry.specs.Next.{IsLegal}
use Rattle.snapshot_pub.specs.Pass.{PlainPass}
use Rattle.serve_run.specs.Along.{PlainWay, AreServed, HasServedWay, with_more}
use Rattle.serve_run.specs.Served.{HasSeenMore, IsWorked}

-- links, and one more
pub served_more : (serves : PlainPass → LinkRecord → PlainPass → Type 0) (before middle after : PlainPass) (links : List LinkRecord) (link : LinkRecord)
    → AreServed serves before links middle → serves middle link after → AreServed serves before (links ++ link ∷ []) after
served_more serves before middle after [] link same last = (after, subst (λ p. serves p link after) same last, refl)
served_more serves before middle after (first ∷ links) link chain last =
    (chain.0, chain.1, served_more serves chain.0 middle after links link chain.2 last)

pub with_none : (told : Option (List LinkRecord)) → told ≡ with_more told []
with_none None = refl
with_none (Some xs) = ap (λ ys. Some ys) (sym (append-nil xs))

pub with_one : (told : Option (List LinkRecord)) (links : List LinkRecord) (link : LinkRecord)
    → with_last (with_more told links) link ≡ with_more told (links ++ link ∷ [])
with_one None links link = refl
with_one (Some xs) links link = ap (λ ys. Some ys) (append_assoc xs links (link ∷ []))

pub less_none : (told : Option ℕ) → told ≡ more_by 0 told
less_none None = refl
less_none (Some n) = ap (λ k. Some k) (omega arith)

pub less_one : (told : Option ℕ) (links : List LinkRecord) (link : LinkRecord)
    → more_by (length links) (more_by 1 told) ≡ more_by (length (links ++ link ∷ [])) told
less_one None links link = refl
less_one (Some n) links link = let k = length-append links (link ∷ []) in ap (λ k. Some k) (omega (arith, k))

-- where no link is left, there were as many as these
pub all_served : (before now last : Option ℕ) (links : List LinkRecord) → before ≡ more_by (length links) now → now ≡ more_by 0 last
    → IfSome now (λ n. n ≡ 0) → IfSome before (λ n. n ≡ length links)
all_served before None last links same none zero = subst (λ b. IfSome b (λ n. n ≡ length links)) (sym same) tt
all_served before (Some n) last links same none zero =
    subst (λ b. IfSome b (λ n. n ≡ length links)) (sym same) (omega (arith, zero))

-- one given and one back
pub given_back : (first next last : Option ℕ) → next ≡ more_by 1 first → next ≡ more_by 1 last → last ≡ first
given_back None None None a b = refl
given_back (Some n) (Some m) (Some k) a b = grind arith
given_back first next last a b = grind arith

-- an accept that gave a link gave one
pub one_given : {L : Type 0} (next : Option L) (link : L) (now then : Option ℕ) → next ≡ Some link
    → now ≡ more_by (links_given {E = Failed} (Ok next)) then → now ≡ more_by 1 then
one_given next link now then is gives = gives ∙ ap (λ o. more_by (links_given {E = Failed} (Ok o)) then) is

-- ---- what has been done so far

pub record AreDone (serves : PlainPass → LinkRecord → PlainPass → Type 0) (before now : PlainPass) (back back_now : Option (List LinkRecord))
    (left left_now : Option ℕ) (count : ℕ) (links : List LinkRecord) : Type 0 where
  pub served : AreServed serves before links now
  pub returned : back_now ≡ with_more back links
  pub left_is : left ≡ more_by (length links) left_now
  pub number : count ≡ min (length links) (2 ^ 64 - 1)

pub none_done : (serves : PlainPass → LinkRecord → PlainPass → Type 0) (before : PlainPass) (back : Option (List LinkRecord)) (left : Option ℕ)
    → AreDone serves before before back back left left 0 []
none_done serves before back left = record {
  served = refl;
  returned = with_none back;
  left_is = less_none left;
  number = omega arith;
}

pub one_more : (serves : PlainPass → LinkRecord → PlainPass → Type 0) (before now after : PlainPass) (back back_now back_then back_after : Option (List LinkRecord))
    (left left_now left_then left_after : Option ℕ) (count count_after : ℕ) (links : List LinkRecord) (link : LinkRecord)
    → AreDone serves before now back back_now left left_now count links
    → serves now link after
    → back_then ≡ back_now → back_after ≡ with_last back_then link
    → left_now ≡ more_by 1 left_then → left_after ≡ left_then
    → count_after ≡ min (count + 1) (2 ^ 64 - 1)
    → AreDone serves before after back back_after left left_after count_after (links ++ link ∷ [])
one_more serves before now after back back_now back_then back_after left left_now left_then left_after count count_after links link
    done last kept gives takes stays counts = record {
      served = served_more serves before now after links link done.served last;
      returned = gives ∙ ap (λ told. with_last told link) (kept ∙ done.returned) ∙ with_one back links link;
      left_is = done.left_is ∙ ap (λ told. more_by (length links) told) (takes ∙ ap (λ told. more_by 1 told) (sym stays)) ∙ less_one left_after links link;
      number = let k = length-append links (link ∷ []) in let n = done.number in omega (arith, k, n, counts);
    }

-- ---- what the pass has seen

begins_before : (before middle after : List PlainEntry) → IsPrefix before middle → IsPrefix middle after → IsPrefix before after
begins_before before middle after first second =
    (first.0 ++ second.0, sym (append_assoc before first.0 second.0) ∙ ap (λ xs. xs ++ second.0) first.1 ∙ second.1)

sees_more : (before middle after : PlainPass) → HasSeenMore before middle → HasSeenMore middle after → HasSeenMore before after
sees_more before middle after first second = record {
  book_is = second.book_is ∙ first.book_is;
  rooms_are = second.rooms_are ∙ first.rooms_are;
  seen = begins_before before.entries middle.entries after.entries first.seen second.seen;
  legal = second.legal;
}

sees_itself : (p : PlainPass) → IsLegal p.rooms p.entries → HasSeenMore p p
sees_itself p legal = record { book_is = refl; rooms_are = refl; seen = ([], append-nil p.entries); legal = legal }

-- where each link lets the pass see more, the whole chain does
pub all_see_more : (serves : PlainPass → LinkRecord → PlainPass → Type 0)
    → ((before : PlainPass) (end : LinkRecord) (after : PlainPass) → serves before end after → HasSeenMore before after)
    → (links : List LinkRecord) (before after : PlainPass) → IsLegal before.rooms before.entries → AreServed serves before links after
    → HasSeenMore before after
all_see_more serves each [] before after legal same = subst (λ p. HasSeenMore before p) (sym same) (sees_itself before legal)
all_see_more serves each (link ∷ links) before after legal chain =
    let first = each before link chain.0 chain.1 in
    sees_more before chain.0 after first (all_see_more serves each links chain.0 after first.legal chain.2)

pub worked : (serves : PlainPass → LinkRecord → PlainPass → Type 0)
    → ((before : PlainPass) (end : LinkRecord) (after : PlainPass) → serves before end after → HasSeenMore before after)
    → (before : PlainPass) (old : PlainWay) (count : ℕ) (has_failed : Bool) (new : PlainWay) (after : PlainPass)
    → IsLegal before.rooms before.entries → HasServedWay serves before old count has_failed new after
    → IsWorked serves before old count has_failed new after
worked serves each before old count has_failed new after legal way = record {
  along = way;
  more = all_see_more serves each way.0 before after legal way.1.served;
}
