-- The steps on the rule and on the counts.
use Rattle.std.proofs.Common.{◌≡◌, ℕ, zero, suc, List, [], ◌∷◌, length, map, set, refl, ap, subst, ◌∙◌}
use mathlib.Core.Option.{some}
use lib.ListN.{get_elem?}
use Rattle.reg_entry.specs.Entry.{PlainEntry}
use Rattle.course_core.specs.Course.{PlainCourse, after_event, after_events}
use Rattle.course_core.specs.declared.event.Event.TheVariants.{Publish, Look}
use Rattle.snapshot_pub.specs.declared.view.View.{View}
use Rattle.snapshot_pub.specs.Shown.{PlainShown}
use Rattle.snapshot_pub.specs.Rule.{IsPublished, GoesOn, Sees, seeing}
use Rattle.snapshot_pub.proofs.Rules.{turns, stays}
use Rattle.snapshot_laws.specs.Counted.{counted}

pub publication_keeps : (seat : ℕ) (v : View) (x y : PlainShown) (views : List View) → IsPublished x views → get_elem? views seat ≡ some v → GoesOn x y
    → IsPublished y (set views seat (seeing y)) × Sees v x y (seeing y)
publication_keeps seat v x y views h at on =
    let t = turns seat v x y (λ own. on) views h at in
    subst (λ (u : View). IsPublished y (set views seat u) × Sees v x y u) t.2.now (t.1, t.2)

pub look_keeps : (seat : ℕ) (v : View) (x : PlainShown) (views : List View) → IsPublished x views → get_elem? views seat ≡ some v
    → IsPublished x (set views seat (seeing x)) × Sees v x x (seeing x)
look_keeps seat v x views h at = publication_keeps seat v x x views h at (stays x h.board)

map-set : {A B : Type 0} (f : A → B) (xs : List A) (i : ℕ) (a : A) → map f (set xs i a) ≡ set (map f xs) i (f a)
map-set f [] i a = refl
map-set f (x ∷ xs) zero a = refl
map-set f (x ∷ xs) (suc i) a = ap (λ ys. f x ∷ ys) (map-set f xs i a)

abbrev count_of : View → ℕ
count_of v = length v.seen.entries

-- who saw y has seen as many entries as y has
seen_counts : (seat : ℕ) (v w : View) (x y : PlainShown) (views : List View) → Sees v x y w
    → map (λ (u : View). length u.seen.entries) (set views seat w) ≡ set (map (λ (u : View). length u.seen.entries) views) seat (length y.front.entries)
seen_counts seat v w x y views saw = map-set count_of views seat w ∙ ap (λ (u : View). set (map count_of views) seat (count_of u)) saw.now

pub look_is_event : (c : PlainCourse) (seat : ℕ) (v w : View) (x : PlainShown) (views : List View) → Sees v x x w
    → counted c c.journal x (set views seat w) ≡ after_event (counted c c.journal x views) (Look seat)
look_is_event c seat v w x views saw =
    ap (λ (counts : List ℕ). record c { journal = c.journal; published = length x.front.entries; seen = counts }) (seen_counts seat v w x x views saw)

pub publication_is_event : (c : PlainCourse) (put : List PlainEntry) (seat : ℕ) (v w : View) (x y : PlainShown) (views : List View) → Sees v x y w
    → y.front.entries ≡ put
    → counted c put y (set views seat w) ≡ after_events (counted c put x views) (Publish ∷ Look seat ∷ [])
publication_is_event c put seat v w x y views saw all =
    ap (λ (counts : List ℕ). record c { journal = put; published = length y.front.entries; seen = counts }) (seen_counts seat v w x y views saw)
    ∙ ap (λ (es : List PlainEntry). record c { journal = put; published = length es; seen = set (map count_of views) seat (length es) }) all
