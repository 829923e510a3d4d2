-- Each object of the operations of a legal list of entries is one that is read back.
use Rattle.std.proofs.Common.{◌≡◌, ℕ, zero, suc, ◌+◌, ◌<◌, ◌≤◌, Bool, true, cond, List, [], ◌∷◌, ◌++◌, length, filter, map, flat_map, fold, All, IsTrue, Contains, Option, None, Some, inl, inr, ◌↔◌, refl, sym, subst, arith}
use Rattle.std.proofs.lemmas.Bool.{cond_both, cases_Bool}
use Rattle.std.specs.List.{AllByRecursion}
use Rattle.std.specs.Option.{IsSomeAnd}
use Rattle.num_range.specs.declared.space.Space.{Space}
use Rattle.num_range.specs.declared.space.Space.TheVariants.{Asn, Ipv4, Ipv6}
use Rattle.num_range.specs.Space.{top_of}
use Rattle.num_range.specs.Range.{PlainRange, IsRange}
use Rattle.num_range.specs.Block.{IsBlockStart, block_of}
use Rattle.num_range.specs.Cover.{is_cut_length, reverse_cuts}
use Rattle.cidr_cover.specs.Cuts.{IsReverseCut}
use Rattle.reg_entry.specs.declared.card.Card.{Card}
use Rattle.reg_entry.specs.declared.holder.Holder.{Holder}
use Rattle.reg_entry.specs.declared.piece.Piece.{Piece}
use Rattle.reg_entry.specs.declared.sub_card.SubCard.{SubCard}
use Rattle.reg_entry.specs.declared.request.Request.{Request}
use Rattle.reg_entry.specs.declared.request.Request.TheVariants.{AddHolder, EditHolder, Return, SetReverse, ClearReverse}
use Rattle.reg_entry.specs.declared.object.Object.{Object}
use Rattle.reg_entry.specs.declared.object.Object.TheVariants.{Cut}
use Rattle.reg_entry.specs.declared.object.Act.{Act}
use Rattle.reg_entry.specs.declared.object.Act.TheVariants.{Add, Del}
use Rattle.reg_entry.specs.Card.{is_delegated}
use Rattle.reg_entry.specs.Entry.{PlainEntry}
use Rattle.reg_entry.specs.Handle.{is_handle}
use Rattle.reg_entry.specs.Host.{is_host}
use Rattle.reg_entry.specs.Holders.{has_handle, handle_at, handle_of, edited_holder}
use Rattle.reg_entry.specs.Op.{PlainOp}
use Rattle.reg_entry.specs.Pieces.{RisesFrom, AllPiecesOf}
use Rattle.reg_entry.specs.Ranges.{AreApart, same_range, range_before, with_range}
use Rattle.reg_entry.specs.Register.{Register, after_entry, holders_after, reverses_after}
use Rattle.reg_entry.specs.Objects.{key_of, key_before, has_key, with_object, org_of, orgs_of, blocks_of, sub_of, cuts_of, objects_of, objects_gone, objects_come, changes_between}
use Rattle.reg_entry.specs.Operations.{changes_of, numbered, operations_from}
use Rattle.reg_entry.specs.Next.{IsNextEntry, IsLegalFrom}
use Rattle.reg_entry.specs.Whole.{IsCardIn, HaveCardsIn, AreSubsIn, AreReversesIn, IsCutBlock, IsWholeRegister}
use Rattle.rpsl_text.specs.Forms.{HasFields, HasHandle}
use Rattle.mirror_laws.specs.Forms.{HasRequestForms, HaveForms}
use Rattle.mirror_laws.proofs.Readable.{IsFit}

-- ---- lists

abbrev AreFit : List Object → Type 0
AreFit os = AllByRecursion IsFit os

both : (os ps : List Object) → AreFit os → AreFit ps → AreFit (os ++ ps)
both [] ps h k = k
both (o ∷ os) ps h k = (h.0, both os ps h.1 k)

left_of : (test : Object → Bool) (os : List Object) → AreFit os → AreFit (filter test os)
left_of test [] h = tt
left_of test (o ∷ os) h = cond_both (test o) (o ∷ filter test os) (filter test os) AreFit (λ _. (h.0, left_of test os h.1)) (λ _. left_of test os h.1)

with_one : (os : List Object) (o : Object) → IsFit o → AreFit os → AreFit (with_object os o)
with_one [] o new h = (new, tt)
with_one (p ∷ os) o new h =
    cond_both (has_key (key_of o) p) (o ∷ os) (cond (key_before (key_of o) (key_of p)) (o ∷ p ∷ os) (p ∷ with_object os o)) AreFit
    (λ _. (new, h.1))
    (λ _. cond_both (key_before (key_of o) (key_of p)) (o ∷ p ∷ os) (p ∷ with_object os o) AreFit (λ _. (new, h)) (λ _. (h.0, with_one os o new h.1)))

-- ---- the labels of a register

abbrev AreHosts : List (List ℕ) → Type 0
AreHosts servers = All (λ server. IsTrue (is_host server)) servers

abbrev HoldersHaveForms : List (Holder × ℕ) → Type 0
HoldersHaveForms hs = AllByRecursion (λ m. HasFields m.0) hs

abbrev ReversesHaveForms : List (PlainRange × List (List ℕ)) → Type 0
ReversesHaveForms ss = AllByRecursion (λ s. AreHosts s.1) ss

pub record HasLabelForms (r : Register) : Type 0 where
  pub holders : HoldersHaveForms r.holders
  pub hosts : ReversesHaveForms r.reverses

added : (hs : List (Holder × ℕ)) (m : Holder × ℕ) → HoldersHaveForms hs → HasFields m.0 → HoldersHaveForms (hs ++ m ∷ [])
added [] m h new = (new, tt)
added (n ∷ hs) m h new = (h.0, added hs m h.1 new)

edited : (hs : List (Holder × ℕ)) (holder : Holder) (day : ℕ) → HoldersHaveForms hs → HasFields holder → HoldersHaveForms (edited_holder hs holder day)
edited [] holder day h new = tt
edited (m ∷ hs) holder day h new =
    (cond_both (has_handle holder.handle m) (holder, day) m (λ (n : Holder × ℕ). HasFields n.0) (λ _. new) (λ _. h.0), edited hs holder day h.1 new)

holders_kept : (request : Request) (day : ℕ) (hs : List (Holder × ℕ)) → HasRequestForms request → HoldersHaveForms hs → HoldersHaveForms (holders_after request day hs)
holders_kept (AddHolder holder) day hs new h = added hs (holder, day) h new
holders_kept (EditHolder holder) day hs new h = edited hs holder day h new
holders_kept request day hs new h = h

ranged : (ss : List (PlainRange × List (List ℕ))) (range : PlainRange) (servers : List (List ℕ)) → ReversesHaveForms ss → AreHosts servers
    → ReversesHaveForms (with_range ss range servers)
ranged [] range servers h new = (new, tt)
ranged (s ∷ ss) range servers h new =
    cond_both (same_range s.0 range) ((range, servers) ∷ ss) (cond (range_before range s.0) ((range, servers) ∷ s ∷ ss) (s ∷ with_range ss range servers)) ReversesHaveForms
    (λ _. (new, h.1))
    (λ _. cond_both (range_before range s.0) ((range, servers) ∷ s ∷ ss) (s ∷ with_range ss range servers) ReversesHaveForms (λ _. (new, h)) (λ _. (h.0, ranged ss range servers h.1 new)))

reverses_left : (test : PlainRange × List (List ℕ) → Bool) (ss : List (PlainRange × List (List ℕ))) → ReversesHaveForms ss → ReversesHaveForms (filter test ss)
reverses_left test [] h = tt
reverses_left test (s ∷ ss) h =
    cond_both (test s) (s ∷ filter test ss) (filter test ss) ReversesHaveForms (λ _. (h.0, reverses_left test ss h.1)) (λ _. reverses_left test ss h.1)

reverses_kept : (request : Request) (ss : List (PlainRange × List (List ℕ))) → HasRequestForms request → ReversesHaveForms ss → ReversesHaveForms (reverses_after request ss)
reverses_kept (SetReverse range servers) ss new h = ranged ss range servers h new
reverses_kept (ClearReverse range) ss new h = reverses_left _ ss h
reverses_kept (Return range handle) ss new h = reverses_left _ ss h
reverses_kept request ss new h = h

labels_kept : (r : Register) (e : PlainEntry) → HasLabelForms r → HasRequestForms e.request → HasLabelForms (after_entry r e)
labels_kept r e h new = record {
  holders = holders_kept e.request e.day r.holders new h.holders;
  hosts = reverses_kept e.request r.reverses new h.hosts;
}

-- ---- the objects of a whole register

handle_at_fit : (hs : List (Holder × ℕ)) (n : ℕ) → n < length hs → HoldersHaveForms hs → is_handle (handle_at hs n) ≡ true
handle_at_fit [] n less h = absurd (omega (arith, less))
handle_at_fit (m ∷ hs) zero less h = h.0.handle
handle_at_fit (m ∷ hs) (suc n) less h = handle_at_fit hs n (omega (arith, less)) h.1

orgs_fit : (os : List Object) (hs : List (Holder × ℕ)) → HoldersHaveForms hs → AreFit os → AreFit (fold with_object os (map org_of hs))
orgs_fit os [] h k = k
orgs_fit os (m ∷ hs) h k = orgs_fit (with_object os (org_of m)) hs h.1 (with_one os (org_of m) (record { forms = h.0; cut = tt; servers = tt }) k)

card_handle_fit : (r : Register) (c : Card) → HoldersHaveForms r.holders → IsCardIn r c → HasHandle (handle_of r.holders c.holder)
card_handle_fit r c h is =
    elim (cases_Bool (is_delegated c.status)) [
      | inl given ↦ known c.holder (is.holder given)
      | inr free ↦ subst (λ (holder : Option ℕ). HasHandle (handle_of r.holders holder)) (sym (is.nobody free)) tt
    ]
  where
    known : (holder : Option ℕ) → IsSomeAnd holder (λ number. number < length r.holders) → HasHandle (handle_of r.holders holder)
    known None k = tt
    known (Some n) k = handle_at_fit r.holders n k h

blocks_fit : (r : Register) (space : Space) (low : ℕ) (ps : List Piece) → HoldersHaveForms r.holders → HaveCardsIn r ps → RisesFrom low ps → AllPiecesOf space ps
    → AreFit (blocks_of r.holders ps)
blocks_fit r space low [] h cards rises each = tt
blocks_fit r space low (p ∷ ps) h cards rises each =
    let range : IsRange p.range = (rises.1, subst (λ s. p.range.last ≤ top_of s) (sym each.0.of_space) each.0.within) in (
      record { forms = (range, card_handle_fit r p.card h cards.0); cut = tt; servers = tt },
      blocks_fit r space (p.range.last + 1) ps h cards.1 rises.2 each.1,
    )

ranges_of : {T : Type 0} (ss : List (PlainRange × T)) → AreApart ss → AllByRecursion (λ s. IsRange s.0) ss
ranges_of [] h = tt
ranges_of (s ∷ []) h = (h, tt)
ranges_of (s ∷ t ∷ ss) h = (h.0, ranges_of (t ∷ ss) h.2)

subs_fit : (r : Register) (ss : List (PlainRange × SubCard)) → HoldersHaveForms r.holders → AllByRecursion (λ s. IsRange s.0) ss → AreSubsIn r ss
    → AreFit (map (sub_of r.holders) ss)
subs_fit r [] h ranges are = tt
subs_fit r (s ∷ ss) h ranges are =
    (record { forms = (ranges.0, handle_at_fit r.holders s.1.holder are.0.holder h); cut = tt; servers = tt }, subs_fit r ss h ranges.1 are.1)

-- what is known of reverse cuts
abbrev pub CutsLaw : Type 0
CutsLaw = (r b : PlainRange) → Contains (reverse_cuts r) b ↔ IsReverseCut r b

cut_fit : (r b : PlainRange) → IsReverseCut r b → IsCutBlock b
cut_fit r b h =
    let same = sym h.is_cut.inside.0 in (
      h.length,
      subst (λ space. is_cut_length space h.length ≡ true) same h.is_cut.cut_length,
      subst (λ space. IsBlockStart space b.first h.length) same h.is_cut.starts,
      subst (λ space. b ≡ block_of space b.first h.length) same h.is_cut.is_block,
    )

each_cut : (servers : List (List ℕ)) (bs : List PlainRange) → ((b : PlainRange) → Contains bs b → IsCutBlock b) → AreHosts servers → length servers ≤ 4
    → AreFit (map (λ block. Cut block servers) bs)
each_cut servers [] are hosts few = tt
each_cut servers (b ∷ bs) are hosts few = (record { forms = hosts; cut = are b (0, omega arith, refl); servers = few }, each_cut servers bs (λ c k. are c (suc k.0, omega (arith, k.1), k.2)) hosts few)

cuts_fit : CutsLaw → (r : Register) (ss : List (PlainRange × List (List ℕ))) → ReversesHaveForms ss → AreReversesIn r ss → AreFit (flat_map cuts_of ss)
cuts_fit law r [] h are = tt
cuts_fit law r (s ∷ ss) h are =
    both (cuts_of s) (flat_map cuts_of ss)
    (each_cut s.1 (reverse_cuts s.0) (λ b k. cut_fit s.0 b ((law s.0 b).0 k)) h.0 are.0.servers.1) (cuts_fit law r ss h.1 are.1)

objects_fit : CutsLaw → (r : Register) → IsWholeRegister r → HasLabelForms r → AreFit (objects_of r)
objects_fit law r w h =
    let hs : List (Holder × ℕ) = r.holders in
    let asn : List Object = blocks_of hs r.pool.asn in
    let ipv4 : List Object = blocks_of hs r.pool.ipv4 in
    let ipv6 : List Object = blocks_of hs r.pool.ipv6 in
    let subs : List Object = map (sub_of hs) r.subs in
    let pieces = w.pieces.each in
    both (orgs_of hs ++ asn ++ ipv4 ++ ipv6 ++ subs) (flat_map cuts_of r.reverses)
    (both (orgs_of hs ++ asn ++ ipv4 ++ ipv6) subs
    (both (orgs_of hs ++ asn ++ ipv4) ipv6
    (both (orgs_of hs ++ asn) ipv4
    (both (orgs_of hs) asn (orgs_fit [] hs h.holders tt) (blocks_fit r Asn 0 r.pool.asn h.holders (w.cards Asn) (pieces Asn).rises (pieces Asn).each))
    (blocks_fit r Ipv4 0 r.pool.ipv4 h.holders (w.cards Ipv4) (pieces Ipv4).rises (pieces Ipv4).each))
    (blocks_fit r Ipv6 0 r.pool.ipv6 h.holders (w.cards Ipv6) (pieces Ipv6).rises (pieces Ipv6).each))
    (subs_fit r r.subs h.holders (ranges_of r.subs w.subs_apart) w.subs))
    (cuts_fit law r r.reverses h.hosts w.reverses)

-- ---- operations

abbrev pub AreFitOps : List PlainOp → Type 0
AreFitOps ops = AllByRecursion (λ op. IsFit op.object) ops

ops_both : (xs ys : List PlainOp) → AreFitOps xs → AreFitOps ys → AreFitOps (xs ++ ys)
ops_both [] ys h k = k
ops_both (x ∷ xs) ys h k = (h.0, ops_both xs ys h.1 k)

numbered_fit : (last : ℕ) (act : Act) (os : List Object) (rest : List (Act × Object)) → AreFit os → ((next : ℕ) → AreFitOps (numbered next rest))
    → AreFitOps (numbered last (map (λ o. (act, o)) os ++ rest))
numbered_fit last act [] rest h k = k last
numbered_fit last act (o ∷ os) rest h k = (h.0, numbered_fit (last + 1) act os rest h.1 k)

come_fit : (last : ℕ) (os : List Object) → AreFit os → AreFitOps (numbered last (map (λ o. (Add, o)) os))
come_fit last [] h = tt
come_fit last (o ∷ os) h = (h.0, come_fit (last + 1) os h.1)

changes_fit : (last : ℕ) (os ps : List Object) → AreFit os → AreFit ps → AreFitOps (numbered last (changes_between os ps))
changes_fit last os ps h k =
    numbered_fit last Del (objects_gone os ps) (map (λ o. (Add, o)) (objects_come os ps)) (left_of _ os h) (λ next. come_fit next (objects_come os ps) (left_of _ ps k))

-- the next entry keeps the register whole
abbrev pub WholeLaw : Type 0
WholeLaw = (r : Register) (e : PlainEntry) → IsWholeRegister r → IsNextEntry r e → IsWholeRegister (after_entry r e)

pub operations_fit : CutsLaw → WholeLaw → (r : Register) (last : ℕ) (es : List PlainEntry) → IsWholeRegister r → HasLabelForms r → IsLegalFrom r es → HaveForms es
    → AreFitOps (operations_from r last es)
operations_fit cuts whole r last [] w h legal forms = tt
operations_fit cuts whole r last (e ∷ es) w h legal forms =
    let next : Register = after_entry r e in
    let next_whole = whole r e w legal.0 in
    let next_labels = labels_kept r e h forms.0 in
    ops_both (numbered last (changes_of r e)) (operations_from next (last + length (changes_of r e)) es)
    (changes_fit last (objects_of r) (objects_of next) (objects_fit cuts r w h) (objects_fit cuts next next_whole next_labels))
    (operations_fit cuts whole next (last + length (changes_of r e)) es next_whole next_labels legal.1 forms.1)
