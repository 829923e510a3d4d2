-- The boards that legal lists of entries give: what goes on with the next entry, and which serials their operations have.
use Rattle.std.proofs.Common.{◌≡◌, ℕ, zero, suc, ◌+◌, ◌-◌, ◌^◌, ◌≤◌, List, [], ◌∷◌, ◌++◌, drop, length, refl, sym, ◌∙◌, ap, subst, arith}
use Rattle.std.proofs.lemmas.List.{length-append, length-drop}
use Rattle.reg_entry.specs.declared.object.Object.{Object}
use Rattle.reg_entry.specs.declared.object.Act.{Act}
use Rattle.reg_entry.specs.declared.rooms.Rooms.{Rooms}
use Rattle.reg_entry.specs.Entry.{PlainEntry}
use Rattle.reg_entry.specs.Op.{PlainOp}
use Rattle.reg_entry.specs.Operations.{changes_of, numbered, operations_of, last_of, PlainBoard, empty_board, board_after_entry, board_after_entries}
use Rattle.reg_entry.specs.Register.{empty_register}
use Rattle.reg_entry.specs.Rooms.{AreRooms}
use Rattle.reg_entry.specs.Next.{IsNextEntry}
use Rattle.reg_entry.specs.Whole.{IsWhole}
use Rattle.reg_laws.specs.Reached.{IsRegisterOf}
use Rattle.reg_laws.proofs.Boards.{legal_board_whole, board_register, board_serial}
use Rattle.reg_laws.proofs.Reaching.{legal-append, reached_count}
use Rattle.op_feed.specs.ReachedBoard.{IsBoardOf, IsReachedBoard, first_kept, HaveSerialsFrom}
use Rattle.op_feed.proofs.Fewness.{length_numbered, operations_few}

board_after-append : (b : PlainBoard) (es : List PlainEntry) (e : PlainEntry)
    → board_after_entries b (es ++ e ∷ []) ≡ board_after_entry (board_after_entries b es) e
board_after-append b [] e = refl
board_after-append b (d ∷ es) e = board_after-append (board_after_entry b d) es e

pub empty_reached : (rooms : Rooms) → IsReachedBoard (empty_board rooms)
empty_reached rooms = ([], record { legal = tt; same = refl })

pub register_of : (b : PlainBoard) (es : List PlainEntry) → IsBoardOf b es → IsRegisterOf b.register es
register_of b es h = record {
  legal = h.legal;
  same = sym (board_register b.register.rooms es) ∙ ap (λ x. x.register) h.same;
}

pub board_of_more : (b : PlainBoard) (es : List PlainEntry) (e : PlainEntry) → IsBoardOf b es → IsNextEntry b.register e
    → IsBoardOf (board_after_entry b e) (es ++ e ∷ [])
board_of_more b es e h next = record {
  legal =
      legal-append (empty_register b.register.rooms) es (e ∷ []) h.legal
      (subst (λ r. IsNextEntry r e) (sym (register_of b es h).same) next, tt);
  same = board_after-append (empty_board b.register.rooms) es e ∙ ap (λ x. board_after_entry x e) h.same;
}

pub reached_next : (b : PlainBoard) (e : PlainEntry) → IsReachedBoard b → IsNextEntry b.register e → IsReachedBoard (board_after_entry b e)
reached_next b e h next = (h.0 ++ e ∷ [], board_of_more b h.0 e h.1 next)

pub reached_is_whole : (b : PlainBoard) → IsReachedBoard b → IsWhole b
reached_is_whole b h = subst IsWhole h.1.same (legal_board_whole b.register.rooms h.0 h.1.legal)

-- ---- how many operations

pub serial_few : (b : PlainBoard) → AreRooms b.register.rooms → IsReachedBoard b → b.serial ≤ 2 ^ 58
serial_few b rooms h =
    let es : List PlainEntry = h.0 in
    let count : b.serial ≡ length (operations_of b.register.rooms es) = sym (ap (λ x. x.serial) h.1.same) ∙ board_serial b.register.rooms es in
    let few = operations_few b.register.rooms es rooms h.1.legal in
    let entries = reached_count b.register es (register_of b es h.1) in
    let within = (reached_is_whole b h).register.rooms.entries in
    let room = rooms.entries.1 in
    omega arith

-- ---- serials

serials-append : (n : ℕ) (xs ys : List PlainOp) → HaveSerialsFrom n xs → HaveSerialsFrom (n + length xs) ys → HaveSerialsFrom n (xs ++ ys)
serials-append n [] ys h k = subst (λ m. HaveSerialsFrom m ys) (let e : n + 0 ≡ n = omega arith in e) k
serials-append n (x ∷ xs) ys h k =
    (h.0, serials-append (n + 1) xs ys h.1 (subst (λ m. HaveSerialsFrom m ys) (let e : n + length (x ∷ xs) ≡ n + 1 + length xs = omega arith in e) k))

serials-drop : (n k : ℕ) (xs : List PlainOp) → k ≤ length xs → HaveSerialsFrom n xs → HaveSerialsFrom (n + k) (drop k xs)
serials-drop n zero xs l h = subst (λ m. HaveSerialsFrom m xs) (let e : n ≡ n + 0 = omega arith in e) h
serials-drop n (suc k) [] l h = tt
serials-drop n (suc k) (x ∷ xs) l h =
    subst (λ m. HaveSerialsFrom m (drop k xs)) (let e : n + 1 + k ≡ n + suc k = omega arith in e) (serials-drop (n + 1) k xs (omega arith) h.1)

numbered_serials : (last : ℕ) (cs : List (Act × Object)) → HaveSerialsFrom (last + 1) (numbered last cs)
numbered_serials last [] = tt
numbered_serials last (c ∷ cs) = (refl, numbered_serials (last + 1) cs)

-- the kept operations end with the board's serial
pub record AreKeptIn (b : PlainBoard) : Type 0 where
  pub few : length b.kept ≤ b.serial
  pub serials : HaveSerialsFrom (first_kept b) b.kept

kept_next : (b : PlainBoard) (e : PlainEntry) → AreKeptIn b → AreKeptIn (board_after_entry b e)
kept_next b e h =
    let cs : List (Act × Object) = changes_of b.register e in
    let now : List PlainOp = numbered b.serial cs in
    let all : List PlainOp = b.kept ++ now in
    let window : ℕ = b.register.rooms.window in
    let gone : ℕ = length all - window in
    let kept : List PlainOp = last_of window all in
    let few : length b.kept ≤ b.serial = h.few in
    let sum : length all ≡ length b.kept + length now = length-append b.kept now in
    let count : length now ≡ length cs = length_numbered b.serial cs in
    let left : length kept ≡ length all - gone = length-drop gone all in
    let next : first_kept b + length b.kept ≡ b.serial + 1 = omega arith in
    let whole : HaveSerialsFrom (first_kept b) all =
    serials-append (first_kept b) b.kept now h.serials (subst (λ m. HaveSerialsFrom m now) (sym next) (numbered_serials b.serial cs)) in
    let first : first_kept b + gone ≡ first_kept (board_after_entry b e) = omega arith in
    record {
      few = omega arith;
      serials = subst (λ m. HaveSerialsFrom m kept) first (serials-drop (first_kept b) gone all (omega arith) whole);
    }

kept_from : (b : PlainBoard) (es : List PlainEntry) → AreKeptIn b → AreKeptIn (board_after_entries b es)
kept_from b [] h = h
kept_from b (e ∷ es) h = kept_from (board_after_entry b e) es (kept_next b e h)

kept_in : (b : PlainBoard) → IsReachedBoard b → AreKeptIn b
kept_in b h =
    subst AreKeptIn h.1.same (kept_from (empty_board b.register.rooms) h.0 (record { few = omega arith; serials = tt }))

pub kept_few : (b : PlainBoard) → IsReachedBoard b → length b.kept ≤ b.serial
kept_few b h = (kept_in b h).few

pub kept_serials : (b : PlainBoard) → IsReachedBoard b → HaveSerialsFrom (first_kept b) b.kept
kept_serials b h = (kept_in b h).serials
