-- The board of every legal list is whole: its kept operations have days that can be written, their cuts are blocks at which
-- zones are cut, and they are the last of all, as many as the window has room for.
use Rattle.std.proofs.Common.{◌≡◌, ℕ, zero, suc, ◌+◌, ◌-◌, ◌≤◌, Bool, cond, List, [], ◌∷◌, ◌++◌, drop, filter, map, length, refl, sym, ◌∙◌, ap, subst, append_assoc, arith}
use Rattle.std.specs.List.{fold, flat_map}
use Rattle.std.proofs.lemmas.Bool.{cond_both}
use Rattle.std.proofs.lemmas.List.{length-append, length-drop, drop-drop, drop-append-le}
use Rattle.num_range.specs.declared.space.Space.TheVariants.{Asn, Ipv4, Ipv6}
use Rattle.num_range.specs.Space.{top_of}
use Rattle.num_range.specs.Range.{PlainRange, IsRange}
use Rattle.num_range.specs.Block.{block_size}
use Rattle.num_range.specs.Cover.{is_cut_length, reverse_cuts}
use Rattle.reg_entry.specs.declared.holder.Holder.{Holder}
use Rattle.reg_entry.specs.declared.piece.Piece.{Piece}
use Rattle.reg_entry.specs.declared.sub_card.SubCard.{SubCard}
use Rattle.reg_entry.specs.declared.rooms.Rooms.{Rooms}
use Rattle.reg_entry.specs.declared.object.Object.{Object}
use Rattle.reg_entry.specs.declared.object.Object.TheVariants.{Org, Block, Sub, Cut}
use Rattle.reg_entry.specs.declared.object.Act.{Act}
use Rattle.reg_entry.specs.declared.object.Act.TheVariants.{Add, Del}
use Rattle.reg_entry.specs.Entry.{PlainEntry}
use Rattle.reg_entry.specs.Op.{PlainOp}
use Rattle.reg_entry.specs.Register.{Register, after_entry, after_entries, register_after}
use Rattle.reg_entry.specs.Objects.{key_of, key_before, has_key, with_object, org_of, orgs_of, blocks_of, sub_of, cuts_of, objects_of, objects_gone, objects_come, changes_between}
use Rattle.reg_entry.specs.Operations.{changes_of, numbered, operations_from, operations_of, PlainBoard, empty_board, last_of, board_after_entry, board_after_entries, board_after}
use Rattle.reg_entry.specs.Next.{IsNextEntry, IsLegalFrom, IsLegal}
use Rattle.reg_entry.specs.Whole.{HaveCardsIn, HaveDaysIn, AreSubsIn, IsWholeRegister, HasDaysOf, IsCutBlock, IsCutOf, AreOpsIn, IsWhole}
use Rattle.reg_laws.proofs.RangeLists.{AllOf, ranges_of_apart}
use Rattle.reg_laws.proofs.ReverseCuts.{RiseIn, cuts_rise}
use Rattle.reg_laws.proofs.WholeStep.{later_day, next_whole, empty_is_whole}

-- ---- the objects of a whole register

abbrev AreDescribed : Register → List Object → Type 0
AreDescribed r [] = Unit {0}
AreDescribed r (o ∷ os) = (HasDaysOf r o × IsCutOf o) × AreDescribed r os

described_append : (r : Register) (os ps : List Object) → AreDescribed r os → AreDescribed r ps → AreDescribed r (os ++ ps)
described_append r [] ps h k = k
described_append r (o ∷ os) ps h k = (h.0, described_append r os ps h.1 k)

described_filter : (r : Register) (test : Object → Bool) (os : List Object) → AreDescribed r os → AreDescribed r (filter test os)
described_filter r test [] h = tt
described_filter r test (o ∷ os) h =
    cond_both (test o) (o ∷ filter test os) (filter test os) (AreDescribed r)
    (λ e. (h.0, described_filter r test os h.1))
    (λ e. described_filter r test os h.1)

described_with : (r : Register) (os : List Object) (o : Object) → HasDaysOf r o × IsCutOf o → AreDescribed r os → AreDescribed r (with_object os o)
described_with r [] o new h = (new, tt)
described_with r (p ∷ os) o new h =
    cond_both (has_key (key_of o) p) (o ∷ os) (cond (key_before (key_of o) (key_of p)) (o ∷ p ∷ os) (p ∷ with_object os o)) (AreDescribed r)
    (λ t. (new, h.1))
    (λ f.
    cond_both (key_before (key_of o) (key_of p)) (o ∷ p ∷ os) (p ∷ with_object os o) (AreDescribed r)
    (λ b. (new, h))
    (λ b. (h.0, described_with r os o new h.1)))

orgs_described : (r : Register) (os : List Object) (hs : List (Holder × ℕ)) → HaveDaysIn r hs → AreDescribed r os
    → AreDescribed r (fold with_object os (map org_of hs))
orgs_described r os [] days h = h
orgs_described r os (m ∷ hs) days h = orgs_described r (with_object os (org_of m)) hs days.1 (described_with r os (org_of m) (days.0.1, tt) h)

blocks_described : (r : Register) (hs : List (Holder × ℕ)) (ps : List Piece) → HaveCardsIn r ps → AreDescribed r (blocks_of hs ps)
blocks_described r hs [] h = tt
blocks_described r hs (p ∷ ps) h = (((h.0.day, h.0.until), tt), blocks_described r hs ps h.1)

subs_described : (r : Register) (hs : List (Holder × ℕ)) (ss : List (PlainRange × SubCard)) → AreSubsIn r ss → AreDescribed r (map (sub_of hs) ss)
subs_described r hs [] h = tt
subs_described r hs (s ∷ ss) h = ((h.0.day.1, tt), subs_described r hs ss h.1)

cut_list_described : (r : Register) (s : PlainRange) (low end : ℕ) (bs : List PlainRange) (servers : List (List ℕ)) → IsRange s
    → RiseIn (is_cut_length s.space) s low end bs → AreDescribed r (map (λ block. Cut block servers) bs)
cut_list_described r s low end [] servers range rises = tt
cut_list_described r s low end (b ∷ bs) servers range rises =
    let found = rises.0 in
    let order : b.first ≤ b.last = found.order in
    let ends : b.last ≤ s.last = found.ends in
    let top : s.last ≤ top_of s.space = range.1 in
    let start : b.first ≤ top_of b.space = subst (λ space. b.first ≤ top_of space) (sym found.of_space) (omega arith) in
    let is : IsCutBlock b = (
      found.block.len,
      ap (λ space. is_cut_length space found.block.len) found.of_space ∙ found.block.is_asked,
      (found.block.fits, start, found.block.aligned),
      found.block.is_block,
    ) in
    ((tt, is), cut_list_described r s (b.last + 1) end bs servers range rises.1)

cuts_described : (r : Register) (ss : List (PlainRange × List (List ℕ))) → AllOf (λ s. IsRange s.0) ss → AreDescribed r (flat_map cuts_of ss)
cuts_described r [] h = tt
cuts_described r (s ∷ ss) h =
    described_append r (cuts_of s) (flat_map cuts_of ss)
    (cut_list_described r s.0 0 (block_size s.0.space 0) (reverse_cuts s.0) s.1 h.0 (cuts_rise s.0)) (cuts_described r ss h.1)

objects_described : (r : Register) → IsWholeRegister r → AreDescribed r (objects_of r)
objects_described r h =
    let hs : List (Holder × ℕ) = r.holders in
    let orgs : List Object = orgs_of hs in
    let asn : List Object = blocks_of hs r.pool.asn in
    let ipv4 : List Object = blocks_of hs r.pool.ipv4 in
    let ipv6 : List Object = blocks_of hs r.pool.ipv6 in
    let subs : List Object = map (sub_of hs) r.subs in
    described_append r (orgs ++ asn ++ ipv4 ++ ipv6 ++ subs) (flat_map cuts_of r.reverses)
    (described_append r (orgs ++ asn ++ ipv4 ++ ipv6) subs
    (described_append r (orgs ++ asn ++ ipv4) ipv6
    (described_append r (orgs ++ asn) ipv4
    (described_append r orgs asn (orgs_described r [] hs h.holder_days tt) (blocks_described r hs r.pool.asn (h.cards Asn)))
    (blocks_described r hs r.pool.ipv4 (h.cards Ipv4)))
    (blocks_described r hs r.pool.ipv6 (h.cards Ipv6)))
    (subs_described r hs r.subs h.subs))
    (cuts_described r r.reverses (ranges_of_apart r.reverses h.reverses_apart))

-- ---- operations

days_of_moved : (r s : Register) (o : Object) → r.last_day ≤ s.last_day → HasDaysOf r o → HasDaysOf s o
days_of_moved r s (Org holder day) later h = omega arith
days_of_moved r s (Block range status handle day until) later h = (let d = h.0 in omega arith, h.1)
days_of_moved r s (Sub range handle day) later h = omega arith
days_of_moved r s (Cut block servers) later h = tt

described_moved : (r s : Register) (os : List Object) → r.last_day ≤ s.last_day → AreDescribed r os → AreDescribed s os
described_moved r s [] later h = tt
described_moved r s (o ∷ os) later h = ((days_of_moved r s o later h.0.0, h.0.1), described_moved r s os later h.1)

ops_moved : (r s : Register) (ops : List PlainOp) → r.last_day ≤ s.last_day → AreOpsIn r ops → AreOpsIn s ops
ops_moved r s [] later h = tt
ops_moved r s (op ∷ ops) later h = (days_of_moved r s op.object later h.0, h.1, ops_moved r s ops later h.2)

ops_append : (r : Register) (xs ys : List PlainOp) → AreOpsIn r xs → AreOpsIn r ys → AreOpsIn r (xs ++ ys)
ops_append r [] ys h k = k
ops_append r (x ∷ xs) ys h k = (h.0, h.1, ops_append r xs ys h.2 k)

ops_drop : (r : Register) (n : ℕ) (xs : List PlainOp) → AreOpsIn r xs → AreOpsIn r (drop n xs)
ops_drop r zero xs h = h
ops_drop r (suc n) [] h = h
ops_drop r (suc n) (x ∷ xs) h = ops_drop r n xs h.2

ops_numbered : (r : Register) (last : ℕ) (act : Act) (os : List Object) (rest : List (Act × Object)) → AreDescribed r os
    → ((next : ℕ) → AreOpsIn r (numbered next rest)) → AreOpsIn r (numbered last (map (λ o. (act, o)) os ++ rest))
ops_numbered r last act [] rest h k = k last
ops_numbered r last act (o ∷ os) rest h k = (h.0.0, h.0.1, ops_numbered r (last + 1) act os rest h.1 k)

ops_come : (r : Register) (last : ℕ) (os : List Object) → AreDescribed r os → AreOpsIn r (numbered last (map (λ o. (Add, o)) os))
ops_come r last [] h = tt
ops_come r last (o ∷ os) h = (h.0.0, h.0.1, ops_come r (last + 1) os h.1)

changes_described : (r s : Register) (last : ℕ) → r.last_day ≤ s.last_day → IsWholeRegister r → IsWholeRegister s
    → AreOpsIn s (numbered last (changes_between (objects_of r) (objects_of s)))
changes_described r s last later h k =
    let gone : List Object = objects_gone (objects_of r) (objects_of s) in
    let come : List Object = objects_come (objects_of r) (objects_of s) in
    ops_numbered s last Del gone (map (λ o. (Add, o)) come) (described_filter s _ (objects_of r) (described_moved r s (objects_of r) later (objects_described r h)))
    (λ next. ops_come s next come (described_filter s _ (objects_of s) (objects_described s k)))

-- ---- the last of a list

few_last : {A : Type 0} (count : ℕ) (xs : List A) → length (last_of count xs) ≤ count
few_last count xs = let n : length (last_of count xs) ≡ length xs - (length xs - count) = length-drop (length xs - count) xs in omega arith

-- the last of the last and of what comes behind them are the last of all
last_of_last : {A : Type 0} (count : ℕ) (xs ys : List A) → last_of count (last_of count xs ++ ys) ≡ last_of count (xs ++ ys)
last_of_last count xs ys =
    let gone : ℕ = length xs - count in
    let kept : List _ = last_of count xs in
    let short : gone ≤ length xs = omega arith in
    let together : drop gone (xs ++ ys) ≡ kept ++ ys = drop-append-le gone xs ys short in
    let lk : length kept ≡ length xs - gone = length-drop gone xs in
    let lky : length (kept ++ ys) ≡ length kept + length ys = length-append kept ys in
    let lxy : length (xs ++ ys) ≡ length xs + length ys = length-append xs ys in
    let sum : gone + (length (kept ++ ys) - count) ≡ length (xs ++ ys) - count = counted (length xs) (length ys) count (length kept) (length (kept ++ ys)) (length (xs ++ ys)) lk lky lxy in
    ap (λ zs. drop (length (kept ++ ys) - count) zs) (sym together)
    ∙ drop-drop (length (kept ++ ys) - count) gone (xs ++ ys)
    ∙ ap (λ n. drop n (xs ++ ys)) sum
  where
    counted : (a b c k ky xy : ℕ) → k ≡ a - (a - c) → ky ≡ k + b → xy ≡ a + b → (a - c) + (ky - c) ≡ xy - c
    counted a b c k ky xy e f g = omega arith

-- ---- the board

pub next_board_whole : (b : PlainBoard) (e : PlainEntry) → IsWhole b → IsNextEntry b.register e → IsWhole (board_after_entry b e)
next_board_whole b e h next =
    let r : Register = b.register in
    let s : Register = after_entry r e in
    let whole = next_whole r e h.register next in
    let later : r.last_day ≤ s.last_day = later_day r e next in
    let ops : List PlainOp = b.kept ++ numbered b.serial (changes_of r e) in
    record {
      register = whole;
      ops =
          ops_drop s (length ops - r.rooms.window) ops
          (ops_append s b.kept (numbered b.serial (changes_of r e)) (ops_moved r s b.kept later h.ops) (changes_described r s b.serial later h.register whole));
      window = few_last r.rooms.window ops;
    }

pub whole_boards_from : (b : PlainBoard) (es : List PlainEntry) → IsWhole b → IsLegalFrom b.register es → IsWhole (board_after_entries b es)
whole_boards_from b [] h legal = h
whole_boards_from b (e ∷ es) h legal = whole_boards_from (board_after_entry b e) es (next_board_whole b e h legal.0) legal.1

pub legal_board_whole : (rooms : Rooms) (es : List PlainEntry) → IsLegal rooms es → IsWhole (board_after rooms es)
legal_board_whole rooms es legal =
    whole_boards_from (empty_board rooms) es (record { register = empty_is_whole rooms; ops = tt; window = omega arith }) legal

-- ---- what the board is

pub register_of_board : (b : PlainBoard) (es : List PlainEntry) → (board_after_entries b es).register ≡ after_entries b.register es
register_of_board b [] = refl
register_of_board b (e ∷ es) = register_of_board (board_after_entry b e) es

length_numbered : (last : ℕ) (cs : List (Act × Object)) → length (numbered last cs) ≡ length cs
length_numbered last [] = refl
length_numbered last (c ∷ cs) = ap (λ n. suc n) (length_numbered (last + 1) cs)

pub serial_of_board : (b : PlainBoard) (es : List PlainEntry)
    → (board_after_entries b es).serial ≡ b.serial + length (operations_from b.register b.serial es)
serial_of_board b [] = omega arith
serial_of_board b (e ∷ es) =
    let cs : List (Act × Object) = changes_of b.register e in
    let next : PlainBoard = board_after_entry b e in
    let later : List PlainOp = operations_from next.register next.serial es in
    summed (board_after_entries next es).serial b.serial (length cs) (length later) (length (numbered b.serial cs)) (length (numbered b.serial cs ++ later))
    (serial_of_board next es) (length_numbered b.serial cs) (length-append (numbered b.serial cs) later)
  where
    summed : (n s c l d t : ℕ) → n ≡ (s + c) + l → d ≡ c → t ≡ d + l → n ≡ s + t
    summed n s c l d t e f g = omega arith

-- the kept operations are the last of those kept before and of those that came
pub kept_of_board : (b : PlainBoard) (es : List PlainEntry) → b.kept ≡ last_of b.register.rooms.window b.kept
    → (board_after_entries b es).kept ≡ last_of b.register.rooms.window (b.kept ++ operations_from b.register b.serial es)
kept_of_board b [] h = h ∙ ap (λ xs. last_of b.register.rooms.window xs) (sym (append_nothing b.kept))
  where
    append_nothing : (xs : List PlainOp) → xs ++ [] ≡ xs
    append_nothing [] = refl
    append_nothing (x ∷ xs) = ap (λ ys. x ∷ ys) (append_nothing xs)
kept_of_board b (e ∷ es) h =
    let window : ℕ = b.register.rooms.window in
    let next : PlainBoard = board_after_entry b e in
    let now : List PlainOp = numbered b.serial (changes_of b.register e) in
    let later : List PlainOp = operations_from next.register next.serial es in
    kept_of_board next es (sym (last_twice window (b.kept ++ now)))
    ∙ last_of_last window (b.kept ++ now) later
    ∙ ap (λ xs. last_of window xs) (append_assoc b.kept now later)
  where
    last_twice : (count : ℕ) (xs : List PlainOp) → last_of count (last_of count xs) ≡ last_of count xs
    last_twice count xs =
        let few = few_last count xs in
        ap (λ n. drop n (last_of count xs)) (let none : length (last_of count xs) - count ≡ 0 = omega arith in none)

pub board_register : (rooms : Rooms) (es : List PlainEntry) → (board_after rooms es).register ≡ register_after rooms es
board_register rooms es = register_of_board (empty_board rooms) es

pub board_serial : (rooms : Rooms) (es : List PlainEntry) → (board_after rooms es).serial ≡ length (operations_of rooms es)
board_serial rooms es = let e = serial_of_board (empty_board rooms) es in omega arith

pub board_kept : (rooms : Rooms) (es : List PlainEntry) → (board_after rooms es).kept ≡ last_of rooms.window (operations_of rooms es)
board_kept rooms es =
    kept_of_board (empty_board rooms) es
    (sym (ap (λ n. drop n (empty_board rooms).kept) (let none : 0 - rooms.window ≡ 0 = omega arith in none)))
