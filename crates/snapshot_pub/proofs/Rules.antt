-- The steps keep the rule.
use Rattle.std.proofs.Common.{◌≡◌, ◌≢◌, ℕ, List, [], ◌∷◌, set, refl, subst, ◌∙◌, ⊎_elim}
use Rattle.std.proofs.lemmas.List.{append-nil}
use mathlib.Core.Option.{some}
use mathlib.Core.List.{IsPrefix}
use lib.ListN.{get_elem?}
use Rattle.crossbeam_utils.specs.Register.{Admits, TurnsAt, Turns, Forks, Merges}
use Rattle.atomic_table.proofs.Lists.{at_set, at_snoc}
use Rattle.reg_entry.specs.Entry.{PlainEntry}
use Rattle.entry_log.proofs.Fronts.{prefix_trans}
use Rattle.snapshot_pub.specs.declared.view.View.{View}
use Rattle.snapshot_pub.specs.Shown.{PlainShown, IsOfItsList}
use Rattle.snapshot_pub.specs.Rule.{Fits, IsPublished, Sees, seeing, newcomer, GoesOn}

pub prefix_self : (es : List PlainEntry) → IsPrefix es es
prefix_self es = ([], append-nil es)

fits_newcomer : (x : PlainShown) → Fits x newcomer
fits_newcomer x = record { seen = (x.front.entries, refl); rooms = λ e. absurd cc; book = λ e. absurd cc }

pub fits_seeing : (x : PlainShown) → Fits x (seeing x)
fits_seeing x = record { seen = prefix_self x.front.entries; rooms = λ e. refl; book = λ e. refl }

-- what a reader knows stays when more is published
fits_more : (x y : PlainShown) (v : View) → GoesOn x y → Fits x v → Fits y v
fits_more x y v on h = record {
  seen = prefix_trans v.seen.entries x.front.entries y.front.entries h.seen on.more;
  rooms = λ e. on.rooms ∙ h.rooms e;
  book = λ e. on.book ∙ h.book e;
}

pub stays : (x : PlainShown) → IsOfItsList x → GoesOn x x
stays x own = record { board = own; more = prefix_self x.front.entries; rooms = refl; book = refl }

-- ---- the steps

pub admits : Admits IsPublished newcomer
admits x views h = record {
  board = h.board;
  readers = λ seat v at. ⊎_elim (h.readers seat v) (λ (e : newcomer ≡ v). subst (Fits x) e (fits_newcomer x)) (at_snoc views newcomer v seat at);
}

set_fits : (x : PlainShown) (views : List View) (seat : ℕ) (w : View) → IsPublished x views → Fits x w → IsPublished x (set views seat w)
set_fits x views seat w h fits = record {
  board = h.board;
  readers = λ j u at. ⊎_elim (λ (t : (j ≡ seat) × (w ≡ u)). subst (Fits x) t.1 fits) (λ (t : (j ≢ seat) × (get_elem? views j ≡ some u)). h.readers j u t.1) (at_set views seat j w u at);
}

-- whoever publishes more, or nothing, sees what is published then
pub turns : (seat : ℕ) (v : View) (x y : PlainShown) → (IsOfItsList x → GoesOn x y) → TurnsAt IsPublished seat v x y Sees
turns seat v x y going views h at =
    let on : GoesOn x y = going h.board in
    let more : IsPublished y views = record { board = on.board; readers = λ j u there. fits_more x y u on (h.readers j u there) } in (
      seeing y,
      set_fits y views seat (seeing y) more (fits_seeing y),
      record { fits = more.readers seat v at; board = on.board; now = refl },
    )

pub looks : (seat : ℕ) (v : View) → Turns IsPublished seat v (λ x. x) Sees
looks seat v x = turns seat v x x (stays x)

pub forks : (seat : ℕ) (v : View) → Forks IsPublished seat v v v
forks seat v x views h at = record {
  board = h.board;
  readers = λ j u there. ⊎_elim ((set_fits x views seat v h (h.readers seat v at)).readers j u) (λ (e : v ≡ u). subst (Fits x) e (h.readers seat v at)) (at_snoc (set views seat v) v u j there);
}

-- a reader that takes in what another knows, which is a newcomer then
pub merges : (seat : ℕ) (v : View) (other : ℕ) (w : View) → Merges IsPublished seat v other w w newcomer
merges seat v other w x views h at apart there =
    let fits : Fits x w = ⊎_elim (λ (t : (other ≡ seat) × (w ≡ w)). absurd (apart t.0)) (λ (t : (other ≢ seat) × (get_elem? views other ≡ some w)). h.readers other w t.1) (at_set views seat other w w there) in
    set_fits x (set views seat w) other newcomer (set_fits x views seat w h fits) (fits_newcomer x)

-- the rule holds at the start, where nobody has looked
pub begins : (x : PlainShown) → IsOfItsList x → IsPublished x (newcomer ∷ [])
begins x own = admits x [] (record { board = own; readers = λ seat v at. absurd cc })
