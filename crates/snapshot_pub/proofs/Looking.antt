-- What a pass knows after a look.
use Rattle.std.proofs.Common.{◌≡◌, Option, None, Some, refl, subst, sym, ◌∙◌}
use Rattle.std.specs.Prelude.{MatchOption}
use mathlib.Core.List.{IsPrefix}
use Rattle.reg_entry.specs.declared.rooms.Rooms.{Rooms}
use Rattle.reg_entry.specs.Next.{IsLegal}
use Rattle.entry_log.specs.Front.{PlainFront}
use Rattle.entry_log.proofs.Fronts.{prefix_trans}
use Rattle.snapshot_pub.specs.declared.view.View.{View}
use Rattle.snapshot_pub.specs.Shown.{PlainShown, IsOfItsList}
use Rattle.snapshot_pub.specs.Rule.{Sees, seeing}
use Rattle.snapshot_pub.specs.Pass.{KnowsAll}
use Rattle.snapshot_pub.proofs.Rules.{prefix_self}

pub where_some : {A : Type 0} (P : A → Type 0) (o : Option A) → ((a : A) → P a) → MatchOption o (Unit {0}) P
where_some P None f = tt
where_some P (Some a) f = f a

-- what a look at x tells a pass that had seen a list: x goes on with it, and the reader knows all of x from then on
pub record Looked {A : Type 0} (of : A → View) (after : Option A) (rooms : Rooms) (front : PlainFront) (x : PlainShown) : Type 0 where
  pub board : IsOfItsList x
  pub more : IsPrefix front.entries x.front.entries
  pub rooms_are : x.board.register.rooms ≡ rooms
  pub book : x.front.book ≡ front.book
  pub before : MatchOption after (Unit {0}) (λ r. KnowsAll (of r) rooms front)
  pub now : MatchOption after (Unit {0}) (λ r. KnowsAll (of r) rooms x.front)

looked_at : (v w u : View) (rooms : Rooms) (front : PlainFront) (x : PlainShown) → KnowsAll v rooms front → Sees v x x w → u ≡ w → KnowsAll u rooms front × KnowsAll u rooms x.front
looked_at v w u rooms front x knew saw is =
    let same : u ≡ seeing x = is ∙ saw.now in
    let rooms_are : x.board.register.rooms ≡ rooms = saw.fits.rooms knew.knows ∙ knew.rooms_are in
    let book : x.front.book ≡ front.book = saw.fits.book knew.knows ∙ knew.book in
    let more : IsPrefix front.entries x.front.entries = prefix_trans front.entries v.seen.entries x.front.entries knew.seen saw.fits.seen in
    let one : KnowsAll (seeing x) rooms front = record { knows = refl; rooms_are = rooms_are; book = book; seen = more } in
    let two : KnowsAll (seeing x) rooms x.front = record { knows = refl; rooms_are = rooms_are; book = refl; seen = prefix_self x.front.entries } in
    (subst (λ (y : View). KnowsAll y rooms front) (sym same) one, subst (λ (y : View). KnowsAll y rooms x.front) (sym same) two)

pub looked : {A : Type 0} (of : A → View) (before after : Option A) (rooms : Rooms) (front : PlainFront) (x : PlainShown) (w : View)
    → MatchOption before (Unit {0}) (λ r. KnowsAll (of r) rooms front) → MatchOption before ⊥ (λ r. Sees (of r) x x w) → MatchOption after ⊥ (λ r. of r ≡ w)
    → Looked of after rooms front x
looked of None after rooms front x w knew saw left = absurd saw
looked of (Some r) None rooms front x w knew saw left = absurd left
looked of (Some r) (Some s) rooms front x w knew saw left = record {
  board = saw.board;
  more = prefix_trans front.entries (of r).seen.entries x.front.entries knew.seen saw.fits.seen;
  rooms_are = saw.fits.rooms knew.knows ∙ knew.rooms_are;
  book = saw.fits.book knew.knows ∙ knew.book;
  before = (looked_at (of r) w (of s) rooms front x knew saw left).0;
  now = (looked_at (of r) w (of s) rooms front x knew saw left).1;
}

-- what the pass keeps then
pub pass_now : {A : Type 0} (of : A → View) (after : Option A) (rooms : Rooms) (front : PlainFront) (x : PlainShown) (seen : PlainFront)
    → Looked of after rooms front x → seen ≡ x.front → IsLegal rooms seen.entries × MatchOption after (Unit {0}) (λ r. KnowsAll (of r) rooms seen)
pass_now of after rooms front x seen l is =
    let legal : IsLegal rooms x.front.entries = subst (λ (r : Rooms). IsLegal r x.front.entries) l.rooms_are l.board.legal in
    subst (λ (f : PlainFront). IsLegal rooms f.entries × MatchOption after (Unit {0}) (λ r. KnowsAll (of r) rooms f)) (sym is) (legal, l.now)

pub seen_now : {A : Type 0} (of : A → View) (after : Option A) (rooms : Rooms) (front : PlainFront) (x : PlainShown) (seen : PlainFront)
    → Looked of after rooms front x → seen ≡ x.front → IsPrefix front.entries seen.entries
seen_now of after rooms front x seen l is = subst (λ (f : PlainFront). IsPrefix front.entries f.entries) (sym is) l.more
