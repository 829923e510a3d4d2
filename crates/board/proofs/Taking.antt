-- What the books and the operations need, and make, of the next entry.
use Rattle.std.proofs.Common.{◌≡◌, ℕ, ◌+◌, ◌-◌, ◌<◌, ◌≤◌, ◌==◌, Bool, false, inl, inr, List, [], ◌∷◌, ◌++◌, Option, None, Some, MatchOption, IsSome, ◌↔◌, find, filter, map, length, slice_get, zero, suc, refl, sym, ◌∙◌, ap, subst, arith}
use Rattle.std.specs.List.{AllByRecursion}
use Rattle.std.proofs.lemmas.Bool.{both_ways, cond-true, cond-false, eq-eqb, ne_eqb, cases_eq}
use Rattle.std.proofs.lemmas.List.{length-map}
use Rattle.num_range.specs.declared.space.Space.{Space}
use Rattle.num_range.specs.Range.{PlainRange}
use Rattle.reg_entry.specs.declared.holder.Holder.{Holder}
use Rattle.reg_entry.specs.declared.object.Object.{Object}
use Rattle.reg_entry.specs.declared.object.Act.{Act}
use Rattle.reg_entry.specs.declared.piece.Piece.{Piece}
use Rattle.reg_entry.specs.declared.request.Request.{Request}
use Rattle.reg_entry.specs.declared.request.Request.TheVariants.{AddHolder, EditHolder}
use Rattle.reg_entry.specs.declared.sub_card.SubCard.{SubCard}
use Rattle.reg_entry.specs.Entry.{PlainEntry}
use Rattle.reg_entry.specs.Op.{PlainOp}
use Rattle.reg_entry.specs.Operations.{PlainBoard, changes_of, numbered, last_of, board_after_entry}
use Rattle.reg_entry.specs.Partition.{Partition, pieces_in}
use Rattle.reg_entry.specs.Register.{Register, register_pieces, pool_after, holders_after, after_entry}
use Rattle.reg_entry.specs.Covers.{card_for}
use Rattle.reg_entry.specs.Next.{until_of, IsNextEntry}
use Rattle.reg_entry.specs.Whole.{AreSubsIn, IsWholeRegister}
use Rattle.reg_laws.proofs.HolderFacts.{edited}
use Rattle.reg_laws.proofs.NextFacts.{next_facts}
use Rattle.reg_laws.proofs.WholeStep.{next_whole}
use Rattle.op_feed.specs.ReachedBoard.{first_kept, HaveSerialsFrom}
use Rattle.op_feed.specs.TouchedBy.{IsTouchedBy}
use Rattle.op_feed.proofs.Local.{Each, each_front, each_back}
use Rattle.op_feed.proofs.Handles.{HasHolderIn, piece_holders}
use Rattle.op_feed.proofs.NextChanges.{unpainted}
use Rattle.board.specs.declared.board.Board.TheInside.{Inside as BoardInside}
use Rattle.board.specs.Kept.{Rest, board_of}
use Rattle.board.specs.Noted.{PlainOperations, all_noted, HaveHolders}
use Rattle.board.proofs.Noting.{serial_noted, kept_noted}
use Rattle.board.proofs.Steps.{register_in}

-- ---- the holders of what is touched

pub known_before : (r : Register) (pool : Partition) (before after : List Piece) → IsWholeRegister r → IsTouchedBy r.pool pool before after
    → Each (HasHolderIn r.holders) before
known_before r pool before after h t =
    each_front (HasHolderIn r.holders) before t.back
    (each_back (HasHolderIn r.holders) t.front (before ++ t.back)
    (subst (Each (HasHolderIn r.holders)) t.was (piece_holders r (register_pieces r t.space) (h.cards t.space))))

of_length : (hs gs : List (Holder × ℕ)) (ps : List Piece) → length gs ≡ length hs → Each (HasHolderIn gs) ps → Each (HasHolderIn hs) ps
of_length hs gs [] e h = tt
of_length hs gs (p ∷ ps) e h =
    (subst (λ (n : ℕ). MatchOption p.card.holder (Unit {0}) (λ number. number < n)) e h.0, of_length hs gs ps e h.1)

known_of_length : (r : Register) (e : PlainEntry) (space : Space) → IsWholeRegister r → IsNextEntry r e
    → length (holders_after e.request e.day r.holders) ≡ length r.holders
    → Each (HasHolderIn r.holders) (pieces_in (pool_after e.request e.cover e.card r.pool) space)
known_of_length r e space h next same =
    of_length r.holders (after_entry r e).holders (register_pieces (after_entry r e) space) same
    (piece_holders (after_entry r e) (register_pieces (after_entry r e) space) ((next_whole r e h next).cards space))

-- no piece has a holder whom the entry adds
known_there : (r : Register) (e : PlainEntry) (space : Space) (request : Request) → IsWholeRegister r → IsNextEntry r e → e.request ≡ request
    → Each (HasHolderIn r.holders) (pieces_in (pool_after e.request e.cover e.card r.pool) space)
known_there r e space (AddHolder holder) h next is =
    let bare : e.card ≡ None = (next_facts r e next).card ∙ ap (λ q. card_for r q e.day (until_of e.card)) is in
    subst (λ pool. Each (HasHolderIn r.holders) (pieces_in pool space))
    (sym (ap (λ q. pool_after q e.cover e.card r.pool) is ∙ unpainted e.cover e.card r.pool bare))
    (piece_holders r (register_pieces r space) (h.cards space))
known_there r e space (EditHolder holder) h next is =
    known_of_length r e space h next
    (ap (λ (q : Request). length (holders_after q e.day r.holders)) is ∙ length-map r.holders (edited holder e.day))
known_there r e space request h next is = known_of_length r e space h next (ap (λ (q : Request). length (holders_after q e.day r.holders)) is)

pub known_after : (r : Register) (e : PlainEntry) (before after : List Piece) → IsWholeRegister r → IsNextEntry r e
    → IsTouchedBy r.pool (pool_after e.request e.cover e.card r.pool) before after → Each (HasHolderIn r.holders) after
known_after r e before after h next t =
    each_front (HasHolderIn r.holders) after t.back
    (each_back (HasHolderIn r.holders) t.front (after ++ t.back)
    (subst (Each (HasHolderIn r.holders)) t.stands (known_there r e t.space e.request h next refl)))

pub known_subs : (r : Register) (ss : List (PlainRange × SubCard)) → AreSubsIn r ss → AllByRecursion (λ s. s.1.holder < length r.holders) ss
known_subs r [] h = tt
known_subs r (s ∷ ss) h = (h.0.holder, known_subs r ss h.1)

-- ---- the board after the entry

as_board : Register → ℕ → List PlainOp → PlainBoard
as_board r serial kept = record { register = r; serial = serial; kept = kept }

pub board_is : (r s : Register) (e : PlainEntry) (ops more : PlainOperations) (cs : List (Act × Object)) → s ≡ after_entry r e → more ≡ all_noted ops cs
    → changes_of r e ≡ cs → ops.window ≡ r.rooms.window → length ops.kept ≤ r.rooms.window
    → board_of s more ≡ board_after_entry (board_of r ops) e
unfolding as_board
board_is r s e ops more cs is noted same window few =
    let short : length ops.kept ≤ ops.window = omega arith in
    ap (λ x. as_board x more.serial more.kept) is
    ∙ ap (λ (x : PlainOperations). as_board (after_entry r e) x.serial x.kept) noted
    ∙ ap (λ n. as_board (after_entry r e) n (all_noted ops cs).kept) (serial_noted ops cs)
    ∙ ap (λ xs. as_board (after_entry r e) (ops.serial + length cs) xs)
    (kept_noted ops cs short ∙ ap (λ n. last_of n (ops.kept ++ numbered ops.serial cs)) window)
    ∙ ap (λ (xs : List (Act × Object)). as_board (after_entry r e) (ops.serial + length xs) (last_of r.rooms.window (ops.kept ++ numbered ops.serial xs))) (sym same)

-- ---- an operation by its serial

pub find_serial : (n serial : ℕ) (ops : List PlainOp) → HaveSerialsFrom n ops → n ≤ serial
    → slice_get ops (serial - n) ≡ find (λ op. op.serial == serial) ops
find_serial n serial [] h l = refl
find_serial n serial (op ∷ ops) h l =
    elim (cases_eq op.serial serial) [
      | inl e ↦
          ap (slice_get (op ∷ ops)) (let z : serial - n ≡ 0 = (let s = h.0 in omega arith) in z)
          ∙ sym (cond-true (op.serial == serial) (Some op) (find (λ x. x.serial == serial) ops) (eq-eqb op.serial serial e))
      | inr ne ↦
          let first : op.serial ≡ n = h.0 in
          let past : n + 1 ≤ serial = after_it n serial l (λ e. ne (first ∙ e)) in
          ap (slice_get (op ∷ ops)) (let z : serial - n ≡ suc (serial - (n + 1)) = omega arith in z)
          ∙ find_serial (n + 1) serial ops h.1 past
          ∙ sym (cond-false (op.serial == serial) (Some op) (find (λ x. x.serial == serial) ops) (ne_eqb op.serial serial ne))
    ]
  where
    after_it : (n m : ℕ) → n ≤ m → (n ≡ m → ⊥) → n + 1 ≤ m
    after_it n m l ne = omega arith

pub none_below : (n serial : ℕ) (ops : List PlainOp) → HaveSerialsFrom n ops → serial < n → None ≡ find (λ op. op.serial == serial) ops
none_below n serial [] h l = refl
none_below n serial (op ∷ ops) h l =
    none_below (n + 1) serial ops h.1 (omega arith)
    ∙ sym (cond-false (op.serial == serial) (Some op) (find (λ x. x.serial == serial) ops)
    (ne_eqb op.serial serial (λ e. let s : op.serial ≡ n = h.0 in omega arith)))

-- ---- the parts of the board

abbrev pub rest_in : BoardInside → Rest
rest_in b = record {
  rooms = b.rooms;
  entries = b.entries;
  first_day = b.first_day;
  last_day = b.last_day;
  holders = b.holders;
  reverse = b.reverse;
}

pub next_in : (b : BoardInside) (board : PlainBoard) (e : PlainEntry) → board_of (register_in b) b.operations ≡ board → IsNextEntry board.register e
    → IsNextEntry (register_in b) e
next_in b board e is next = subst (λ (x : PlainBoard). IsNextEntry x.register e) (sym is) next

-- ---- which operations are kept

there : {A : Type 0} (xs : List A) (k : ℕ) → k < length xs → IsSome (slice_get xs k)
there [] k l = absurd (omega arith)
there (x ∷ xs) zero l = refl
there (x ∷ xs) (suc k) l = there xs k (omega arith)

within : {A : Type 0} (xs : List A) (k : ℕ) → IsSome (slice_get xs k) → k < length xs
within [] k e = absurd (both_ways false refl e)
within (x ∷ xs) zero e = omega arith
within (x ∷ xs) (suc k) e = let rest : k < length xs = within xs k e in omega arith

pub op_kept : (b : PlainBoard) (serial : ℕ) (o : Option PlainOp) → length b.kept ≤ b.serial → first_kept b ≤ serial
    → o ≡ slice_get b.kept (serial - first_kept b) → IsSome o ↔ ((first_kept b ≤ serial) × (serial ≤ b.serial))
op_kept b serial o few low is = (
  λ some. (low, let l = within b.kept (serial - first_kept b) (subst (λ x. IsSome x) is some) in omega arith),
  λ both. subst (λ x. IsSome x) (sym is) (there b.kept (serial - first_kept b) (let l = both.1 in omega arith)),
)
