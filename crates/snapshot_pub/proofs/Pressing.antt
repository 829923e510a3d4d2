-- What a press keeps when an entry is put.
use Rattle.std.proofs.Common.{◌≡◌, List, [], ◌∷◌, ◌++◌, length, fold, refl, subst, sym, ap, ◌∙◌, le_refl}
use Rattle.std.proofs.Math.Seq.{take-length}
use Rattle.std.proofs.lemmas.List.Sums.{fold-append}
use mathlib.Core.List.{IsPrefix}
use Rattle.logbook.specs.Pages.{Book}
use Rattle.reg_entry.specs.declared.rooms.Rooms.{Rooms}
use Rattle.reg_entry.specs.Entry.{PlainEntry}
use Rattle.reg_entry.specs.Register.{register_after}
use Rattle.reg_entry.specs.Operations.{PlainBoard, board_after_entry}
use Rattle.reg_entry.specs.Next.{IsNextEntry}
use Rattle.reg_laws.specs.Reached.{IsRegisterOf}
use Rattle.op_feed.specs.ReachedBoard.{IsBoardOf}
use Rattle.entry_log.specs.Front.{PlainFront}
use Rattle.entry_log.proofs.Fronts.{prefix_trans}
use Rattle.snapshot_pub.specs.declared.view.View.{View}
use Rattle.snapshot_pub.specs.declared.put.Put.{Put}
use Rattle.snapshot_pub.specs.Shown.{PlainShown, IsOfItsList}
use Rattle.snapshot_pub.specs.Absorbing.{applied, board_if_next}
use Rattle.snapshot_pub.specs.Rule.{GoesOn, seeing}
use Rattle.snapshot_pub.specs.Press.{IsPressed, IsBehind}
use Rattle.snapshot_pub.proofs.Rules.{stays}

-- the laws that are called
abbrev pub Reaching : Type 0
Reaching = (b : PlainBoard) (es : List PlainEntry) (e : PlainEntry) → IsBoardOf b es → IsNextEntry b.register e → IsBoardOf (board_after_entry b e) (es ++ e ∷ [])

abbrev pub HavingRegisters : Type 0
HavingRegisters = (b : PlainBoard) (es : List PlainEntry) → IsBoardOf b es → IsRegisterOf b.register es

taken_in : (b : PlainBoard) (e : PlainEntry) → IsNextEntry b.register e → board_if_next b e ≡ board_after_entry b e
taken_in b e next = rw next refl

-- what goes on goes on with the next entry
more_by_entry : (x y : PlainShown) (e : PlainEntry) (tip : PlainFront) → Reaching → GoesOn x y → IsNextEntry y.board.register e
    → tip.entries ≡ y.front.entries ++ e ∷ [] → tip.book ≡ y.front.book → GoesOn x (applied y (record { entry = e; front = tip }))
more_by_entry x y e tip reaching on next entries book =
    let after : PlainShown = record { board = board_after_entry y.board e; front = tip } in
    let p : Put = record { entry = e; front = tip } in
    let same : applied y p ≡ after = ap (λ (b : PlainBoard). record { board = b; front = tip }) (taken_in y.board e next) in
    let own : IsBoardOf (board_after_entry y.board e) tip.entries = subst (IsBoardOf (board_after_entry y.board e)) (sym entries) (reaching y.board y.front.entries e on.board next) in
    let longer : IsPrefix y.front.entries tip.entries = (e ∷ [], sym entries) in
    subst (GoesOn x) (sym same) (record {
      board = own;
      more = prefix_trans x.front.entries y.front.entries tip.entries on.more longer;
      rooms = on.rooms;
      book = book ∙ on.book;
    })

pub put_more : (x : PlainShown) (v : View) (pending : List Put) (put : PlainFront) (rooms : Rooms) (e : PlainEntry) (tip : PlainFront) → Reaching → HavingRegisters
    → IsPressed x v pending put rooms → IsNextEntry (register_after rooms put.entries) e → tip.entries ≡ put.entries ++ e ∷ [] → tip.book ≡ put.book
    → IsPressed x v (pending ++ record { entry = e; front = tip } ∷ []) tip rooms
put_more x v pending put rooms e tip reaching registers h next entries book =
    let y : PlainShown = fold applied x pending in
    let p : Put = record { entry = e; front = tip } in
    let all : fold applied x (pending ++ p ∷ []) ≡ applied y p = fold-append applied x pending (p ∷ []) in
    let rooms_are : y.board.register.rooms ≡ rooms = h.going.rooms ∙ h.rooms_are in
    let list : y.front.entries ≡ put.entries = ap (λ (f : PlainFront). f.entries) h.put_is in
    let same : register_after rooms put.entries ≡ y.board.register =
    sym (ap (λ (r : Rooms). register_after r put.entries) rooms_are)
    ∙ (sym (ap (register_after y.board.register.rooms) list) ∙ (registers y.board y.front.entries h.going.board).same) in
    let next' : IsNextEntry y.board.register e = subst (λ r. IsNextEntry r e) same next in
    let on : GoesOn x (applied y p) =
    more_by_entry x y e tip reaching h.going next' (entries ∙ ap (λ (es : List PlainEntry). es ++ e ∷ []) (sym list)) (book ∙ sym (ap (λ (f : PlainFront). f.book) h.put_is)) in
    record {
      board = h.board;
      knows = h.knows;
      rooms_are = h.rooms_are;
      going = subst (GoesOn x) (sym all) on;
      put_is = ap (λ (z : PlainShown). z.front) all;
    }

pub behind_itself : (log : Book) (tip : PlainFront) → log ≡ tip.book → IsBehind log tip tip
behind_itself log tip is = record { log_is = is; tip_is = refl; begins = take-length tip.entries; long = le_refl (length tip.entries) }

-- once all is published nothing is pending
pub pressed_all : (x : PlainShown) (v : View) (pending : List Put) (put : PlainFront) (rooms : Rooms) (y : PlainShown) (w : View) (more : List Put)
    → IsPressed x v pending put rooms → y ≡ fold applied x pending → more ≡ [] → w ≡ seeing y → IsPressed y w more put rooms
pressed_all x v pending put rooms y w more h is none knows =
    let z : PlainShown = fold applied x pending in
    let now : IsPressed z (seeing z) [] put rooms = record {
      board = h.going.board;
      knows = refl;
      rooms_are = h.going.rooms ∙ h.rooms_are;
      going = stays z h.going.board;
      put_is = h.put_is;
    } in
    subst (λ (x : PlainShown). IsPressed x w more put rooms) (sym is)
    (subst (λ (u : View). IsPressed z u more put rooms) (sym (knows ∙ ap seeing is)) (subst (λ (m : List Put). IsPressed z (seeing z) m put rooms) (sym none) now))

-- at the start nothing is pending
pub going_nowhere : (x : PlainShown) (pending : List Put) → pending ≡ [] → IsOfItsList x → GoesOn x (fold applied x pending)
going_nowhere x pending none own = subst (λ (m : List Put). GoesOn x (fold applied x m)) (sym none) (stays x own)

pub pressed_first : (x : PlainShown) (put : PlainFront) (rooms : Rooms) (w : View) (more : List Put) (y : PlainShown) → IsOfItsList x → x.front ≡ put → x.board.register.rooms ≡ rooms
    → y ≡ x → more ≡ [] → w ≡ seeing y → IsPressed y w more put rooms
pressed_first x put rooms w more y own front rooms_are is none knows =
    let now : IsPressed x (seeing x) [] put rooms = record { board = own; knows = refl; rooms_are = rooms_are; going = stays x own; put_is = front } in
    pressed_all x (seeing x) [] put rooms y w more now is none knows
