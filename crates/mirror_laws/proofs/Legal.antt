-- A mirror that is fed the stream of a legal list of entries.
use Rattle.std.proofs.Common.{◌≡◌, ℕ, ◌+◌, ◌^◌, ◌<◌, ◌≤◌, true, List, [], ◌∷◌, ◌++◌, length, map, take, drop, refl, sym, ap, ◌∙◌, subst, arith, append_assoc, append-nil, take-append-drop, take_all}
use Rattle.std.proofs.Math.Seq.{take-append_seam}
use Rattle.std.specs.List.{concat}
use Rattle.reg_entry.specs.declared.rooms.Rooms.{Rooms}
use Rattle.reg_entry.specs.declared.object.Object.{Object}
use Rattle.reg_entry.specs.declared.object.Act.{Act}
use Rattle.reg_entry.specs.Entry.{PlainEntry}
use Rattle.reg_entry.specs.Op.{PlainOp}
use Rattle.reg_entry.specs.Rooms.{AreRooms}
use Rattle.reg_entry.specs.Register.{Register, empty_register, after_entry, register_after}
use Rattle.reg_entry.specs.Objects.{objects_of}
use Rattle.reg_entry.specs.Operations.{PlainBoard, changes_of, numbered, operations_from, operations_of, objects_after, empty_board, board_after_entry, board_after_entries, board_after}
use Rattle.reg_entry.specs.Next.{IsLegalFrom, IsLegal}
use Rattle.reg_entry.specs.Whole.{IsWholeRegister}
use Rattle.op_feed.specs.ReachedBoard.{IsReachedBoard, HaveSerialsFrom}
use Rattle.mirror_core.specs.Mirror.{PlainMirror, new_mirror, is_at_rest}
use Rattle.mirror_core.specs.Objects.{mirrored}
use Rattle.mirror_laws.specs.Feed.{IsFeedOf, last_serial, fed_pieces}
use Rattle.mirror_laws.specs.Follows.{Follows}
use Rattle.mirror_laws.specs.Forms.{ArePublished}
use Rattle.mirror_laws.proofs.Words.{source_is}
use Rattle.mirror_laws.proofs.Streams.{AreReadable}
use Rattle.mirror_laws.proofs.Feeds.{front_follows, rests_behind, pieces_joined}
use Rattle.mirror_laws.proofs.NumberTexts.{NumberLaws}
use Rattle.mirror_laws.proofs.Readable.{LinesLaw, fit_is_readable}
use Rattle.mirror_laws.proofs.Published.{CutsLaw, WholeLaw, AreFitOps, operations_fit}

-- ---- serials

numbered_serials : (last : ℕ) (cs : List (Act × Object)) (rest : List PlainOp) → HaveSerialsFrom (last + length cs + 1) rest
    → HaveSerialsFrom (last + 1) (numbered last cs ++ rest)
numbered_serials last [] rest h = subst (λ n. HaveSerialsFrom n rest) (let e : last + 0 + 1 ≡ last + 1 = omega arith in e) h
numbered_serials last (c ∷ cs) rest h =
    (refl, numbered_serials (last + 1) cs rest (subst (λ n. HaveSerialsFrom n rest) (let e : last + length (c ∷ cs) + 1 ≡ last + 1 + length cs + 1 = omega arith in e) h))

serials_from : (r : Register) (last : ℕ) (es : List PlainEntry) → HaveSerialsFrom (last + 1) (operations_from r last es)
serials_from r last [] = tt
serials_from r last (e ∷ es) =
    numbered_serials last (changes_of r e) (operations_from (after_entry r e) (last + length (changes_of r e)) es)
    (serials_from (after_entry r e) (last + length (changes_of r e)) es)

-- ---- how many there are

rooms_kept : (b : PlainBoard) (es : List PlainEntry) → (board_after_entries b es).register.rooms ≡ b.register.rooms
rooms_kept b [] = refl
rooms_kept b (e ∷ es) = rooms_kept (board_after_entry b e) es

-- ---- the first entries

legal_front : (r : Register) (es fs : List PlainEntry) → IsLegalFrom r (es ++ fs) → IsLegalFrom r es
legal_front r [] fs h = tt
legal_front r (e ∷ es) fs h = (h.0, legal_front (after_entry r e) es fs h.1)

operations_front : (r : Register) (last : ℕ) (es fs : List PlainEntry) → (more : List PlainOp) × (operations_from r last (es ++ fs) ≡ operations_from r last es ++ more)
operations_front r last [] fs = (operations_from r last fs, refl)
operations_front r last (e ∷ es) fs =
    let rest = operations_front (after_entry r e) (last + length (changes_of r e)) es fs in
    let now : List PlainOp = numbered last (changes_of r e) in
    (rest.0, ap (λ (ops : List PlainOp). now ++ ops) rest.1 ∙ sym (append_assoc now (operations_from (after_entry r e) (last + length (changes_of r e)) es) rest.0))

-- ---- the laws that this stands on

pub record StreamLaws : Type 0 where
  pub numbers : NumberLaws
  pub lines : LinesLaw
  pub cuts : CutsLaw
  pub whole : WholeLaw
  pub empty : (rooms : Rooms) → IsWholeRegister (empty_register rooms)
  pub serial : (rooms : Rooms) (es : List PlainEntry) → (board_after rooms es).serial ≡ length (operations_of rooms es)
  pub bound : (b : PlainBoard) → AreRooms b.register.rooms → IsReachedBoard b → b.serial ≤ 2 ^ 58
  pub objects : (rooms : Rooms) (es : List PlainEntry) → IsLegal rooms es → objects_after (operations_of rooms es) ≡ objects_of (register_after rooms es)

module _ (laws : StreamLaws) (rooms : Rooms) (es : List PlainEntry) (source : List ℕ) (are : ArePublished rooms es source) where
  few : length (operations_of rooms es) < 2 ^ 64
  few =
      let b : PlainBoard = board_after rooms es in
      let same : b.register.rooms ≡ rooms = rooms_kept (empty_board rooms) es in
      let reached : IsReachedBoard b = (es, record { legal = subst (λ (rs : Rooms). IsLegal rs es) (sym same) are.legal; same = ap (λ (rs : Rooms). board_after rs es) same }) in
      let least = laws.bound b (subst AreRooms (sym same) are.room) reached in
      let count = laws.serial rooms es in
      omega arith

  readable : AreReadable source (operations_of rooms es)
  readable = each (operations_of rooms es) (operations_fit laws.cuts laws.whole (empty_register rooms) 0 es (laws.empty rooms) (record { holders = tt; hosts = tt }) are.legal are.forms)
    where
      each : (os : List PlainOp) → AreFitOps os → AreReadable source os
      each [] h = tt
      each (op ∷ os) h = (fit_is_readable laws.numbers laws.lines source op.object are.named h.0, each os h.1)

  pub follows : (pieces : List (List ℕ)) (rest : List ℕ) → IsFeedOf source (operations_of rooms es) (concat pieces ++ rest)
      → Follows source (operations_of rooms es) (fed_pieces (new_mirror source) pieces)
  follows pieces rest feed =
      subst (Follows source (operations_of rooms es)) (sym (pieces_joined (new_mirror source) pieces))
      (front_follows source (operations_of rooms es) (source_is source are.named) few (serials_from (empty_register rooms) 0 es) readable (concat pieces) rest feed)

  pub has_objects : (pieces : List (List ℕ)) (rest : List ℕ) (k : ℕ) → IsFeedOf source (operations_of rooms es) (concat pieces ++ rest)
      → (fed_pieces (new_mirror source) pieces).serial ≡ length (operations_of rooms (take k es))
      → (fed_pieces (new_mirror source) pieces).objects ≡ map (mirrored source) (objects_of (register_after rooms (take k es)))
  has_objects pieces rest k feed serial =
      let firsts : List PlainEntry = take k es in
      let whole : es ≡ firsts ++ drop k es = sym (take-append-drop k es) in
      let their_legal : IsLegal rooms firsts = legal_front (empty_register rooms) firsts (drop k es) (subst (IsLegal rooms) whole are.legal) in
      let front = operations_front (empty_register rooms) 0 firsts (drop k es) in
      let all : operations_of rooms es ≡ operations_of rooms firsts ++ front.0 = ap (operations_of rooms) whole ∙ front.1 in
      let taken : take (length (operations_of rooms firsts)) (operations_of rooms es) ≡ operations_of rooms firsts =
      ap (take (length (operations_of rooms firsts))) all ∙ take-append_seam (operations_of rooms firsts) front.0 in
      (follows pieces rest feed).objects
      ∙ ap (λ (n : ℕ). map (mirrored source) (objects_after (take n (operations_of rooms es)))) serial
      ∙ ap (λ (os : List PlainOp). map (mirrored source) (objects_after os)) taken
      ∙ ap (map (mirrored source)) (laws.objects rooms firsts their_legal)

  pub rests : (pieces : List (List ℕ)) (feed : IsFeedOf source (operations_of rooms es) (concat pieces))
      → (is_at_rest (fed_pieces (new_mirror source) pieces) ≡ true) × ((fed_pieces (new_mirror source) pieces).serial ≡ last_serial 0 feed.texts)
  rests pieces feed =
      let ends = rests_behind source (operations_of rooms es) (source_is source are.named) few (serials_from (empty_register rooms) 0 es) readable (concat pieces) feed in
      let same = pieces_joined (new_mirror source) pieces in
      (ap is_at_rest same ∙ ends.0, ap (λ (m : PlainMirror). m.serial) same ∙ ends.1)

  -- a feed to the last operation gives the objects of the register
  pub has_all : (pieces : List (List ℕ)) (feed : IsFeedOf source (operations_of rooms es) (concat pieces)) → last_serial 0 feed.texts ≡ length (operations_of rooms es)
      → (fed_pieces (new_mirror source) pieces).objects ≡ map (mirrored source) (objects_of (register_after rooms es))
  has_all pieces feed last =
      let all : take (length es) es ≡ es = take_all (length es) es (omega arith) in
      let unended : IsFeedOf source (operations_of rooms es) (concat pieces ++ []) = subst (IsFeedOf source (operations_of rooms es)) (sym (append-nil (concat pieces))) feed in
      has_objects pieces [] (length es) unended ((rests pieces feed).1 ∙ last ∙ ap (λ (fs : List PlainEntry). length (operations_of rooms fs)) (sym all))
      ∙ ap (λ (fs : List PlainEntry). map (mirrored source) (objects_of (register_after rooms fs))) all
