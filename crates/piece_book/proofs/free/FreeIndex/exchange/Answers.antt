use Rattle.std.proofs.Common.{◌≡◌, ℕ, ◌+◌, ◌≤◌, ◌∙◌, Bool, true, List, length, map, refl, sym, ap, subst, arith}
use Rattle.std.specs.List.{count_by}
use Rattle.reg_entry.specs.declared.piece.Piece.{Piece}
use Rattle.reg_entry.specs.Partition.{pieces_in}
use Rattle.piece_book.specs.Touched.{IsTouched}
use Rattle.piece_book.specs.declared.free.key.FreeKey.{FreeKey}
use Rattle.piece_book.specs.Free.{free_keys, is_key, passing, AreCounted, IsPoolChange, IsIndexOf, PlainIndex}
use Rattle.piece_book.proofs.FreePairs.{count_all}
use Rattle.piece_book.proofs.FreeChange.{keys_counted}
use Rattle.piece_book.proofs.FreeIndexed.{passing_keys, indexed_passing, change_counts, went_was_there, keys_differ, keys_fit, middle_counted}
use Rattle.piece_book.proofs.free.FreeIndex.exchange.Goals as goal

abbrev Pairs : Type 0
Pairs = List (FreeKey × Unit {0})

abbrev index_of : Pairs → ℕ → PlainIndex
index_of ps room = record { keys = map (λ (p : FreeKey × Unit {0}). p.0) ps; room = room }

before_counted : (index : PlainIndex) (before after : List Piece) → IsPoolChange index before after → AreCounted before
before_counted index before after e = middle_counted e.space (pieces_in e.pool e.space) e.touched.front before e.touched.back (e.was.each e.space).each e.touched.was

after_counted : (index : PlainIndex) (before after : List Piece) → IsPoolChange index before after → AreCounted after
after_counted index before after e = middle_counted e.space (pieces_in e.next e.space) e.touched.front after e.touched.back (e.is.each e.space).each e.touched.stands

-- what an exchange asks of the pairs, step by step
record Exchanges (ps : Pairs) (room : ℕ) (before after : List Piece) : Type 0 where
  before_counted : AreCounted before
  after_counted : AreCounted after
  there : (key : FreeKey) → count_by (is_key key) (free_keys before) ≤ passing (is_key key) ps
  within : length ps ≤ room
  new : (mid : Pairs) → ((passes : FreeKey → Bool) → passing passes mid + count_by passes (free_keys before) ≡ passing passes ps)
      → (key : FreeKey) → passing (is_key key) mid + count_by (is_key key) (free_keys after) ≤ 1
  fits : (mid : Pairs) → ((passes : FreeKey → Bool) → passing passes mid + count_by passes (free_keys before) ≡ passing passes ps)
      → length mid + length (free_keys after) ≤ room

exchanges : (index : PlainIndex) (ps : Pairs) (room : ℕ) (before after : List Piece) → index_of ps room ≡ index → IsPoolChange index before after → Exchanges ps room before after
exchanges index ps room before after view e =
    let any : FreeKey → Bool = λ _. true in
    let indexed : IsIndexOf (map (λ (p : FreeKey × Unit {0}). p.0) ps) e.pool = subst (λ (i : PlainIndex). IsIndexOf i.keys e.pool) (sym view) e.indexed in
    let same_room : room ≡ index.room = ap (λ (i : PlainIndex). i.room) view in
    record {
      before_counted = before_counted index before after e;
      after_counted = after_counted index before after e;
      there = λ key. omega (arith, went_was_there (is_key key) e.pool e.space (pieces_in e.next e.space) before after e.touched, indexed_passing (is_key key) ps e.pool indexed);
      within = omega (arith, keys_counted ps, indexed_passing any ps e.pool indexed, keys_fit e.pool, e.fitted);
      new = λ mid went key.
          omega (arith, went (is_key key), change_counts (is_key key) e.pool e.next e.space e.pieces before after e.changed e.touched, keys_differ key e.next e.is, indexed_passing (is_key key) ps e.pool indexed);
      fits = λ mid went.
          omega (arith, went any, change_counts any e.pool e.next e.space e.pieces before after e.changed e.touched, keys_fit e.next, e.fits, indexed_passing any ps e.pool indexed, keys_counted mid, count_all (free_keys after));
    }

left_indexed : (index : PlainIndex) (ps mid left : Pairs) (room : ℕ) (before after : List Piece) → index_of ps room ≡ index
    → ((passes : FreeKey → Bool) → passing passes mid + count_by passes (free_keys before) ≡ passing passes ps)
    → ((passes : FreeKey → Bool) → passing passes left ≡ passing passes mid + count_by passes (free_keys after))
    → (e : IsPoolChange index before after) → IsIndexOf (map (λ (p : FreeKey × Unit {0}). p.0) left) e.next
left_indexed index ps mid left room before after view went came e =
    let indexed : IsIndexOf (map (λ (p : FreeKey × Unit {0}). p.0) ps) e.pool = subst (λ (i : PlainIndex). IsIndexOf i.keys e.pool) (sym view) e.indexed in
    record {
      same = λ passes.
          omega (arith, passing_keys passes left, went passes, came passes, change_counts passes e.pool e.next e.space e.pieces before after e.changed e.touched, indexed_passing passes ps e.pool indexed);
    }

-- where the keys that go are those that come, the index stays
kept_indexed : (index : PlainIndex) (before after : List Piece) → free_keys before ≡ free_keys after → (e : IsPoolChange index before after) → IsIndexOf index.keys e.next
kept_indexed index before after same e = record {
  same = λ passes.
      let kept : count_by passes (free_keys before) ≡ count_by passes (free_keys after) = ap (λ (ks : List FreeKey). count_by passes ks) same in
      omega (arith, kept, e.indexed.same passes, change_counts passes e.pool e.next e.space e.pieces before after e.changed e.touched);
}

-- the same change, of what is touched as slices
change_of : (index : PlainIndex) (before after gone come : List Piece) → gone ≡ before → come ≡ after → IsPoolChange index before after → IsPoolChange index gone come
change_of index before after gone come e f change = record {
  pool = change.pool;
  next = change.next;
  space = change.space;
  pieces = change.pieces;
  changed = change.changed;
  touched = subst (λ (ps : List Piece). IsTouched (pieces_in change.pool change.space) (pieces_in change.next change.space) ps come) (sym e)
      (subst (λ (ps : List Piece). IsTouched (pieces_in change.pool change.space) (pieces_in change.next change.space) before ps) (sym f) change.touched);
  indexed = change.indexed;
  was = change.was;
  is = change.is;
  fitted = change.fitted;
  fits = change.fits;
}

asked : (c : goal.After-deref-3) → Exchanges c.self.inside.keys.pairs c.self.inside.keys.room c.deref-3.result.now c.args.touched.now.after.items
asked c =
    exchanges c.args.self.now c.self.inside.keys.pairs c.self.inside.keys.room c.deref-3.result.now c.args.touched.now.after.items c.self.view_is
    (change_of c.args.self.now c.args.touched.now.before.items c.args.touched.now.after.items c.deref-3.result.now c.args.touched.now.after.items c.deref-3.ensures.0 refl c.requires)

asked_next : (c : goal.After-deref-4) → Exchanges c.self.inside.keys.pairs c.self.inside.keys.room c.deref-3.result.now c.deref-4.result.now
asked_next c =
    exchanges c.args.self.now c.self.inside.keys.pairs c.self.inside.keys.room c.deref-3.result.now c.deref-4.result.now c.self.view_is
    (change_of c.args.self.now c.args.touched.now.before.items c.args.touched.now.after.items c.deref-3.result.now c.deref-4.result.now c.deref-3.ensures.0 c.deref-4.ensures.0 c.requires)

pub remove_all-requires-clause-counted : goal.remove_all-requires-clause-counted
remove_all-requires-clause-counted c = (asked c).before_counted

pub remove_all-requires-clause-there : goal.remove_all-requires-clause-there
remove_all-requires-clause-there c = (asked c).there

pub remove_all-requires-clause-room : goal.remove_all-requires-clause-room
remove_all-requires-clause-room c = (asked c).within

pub insert_all-requires-clause-counted : goal.insert_all-requires-clause-counted
insert_all-requires-clause-counted c = (asked_next c).after_counted

pub insert_all-requires-clause-new : goal.insert_all-requires-clause-new
insert_all-requires-clause-new c = (asked_next c).new c.remove_all.new.keys.pairs c.remove_all.ensures.counts

pub insert_all-requires-clause-room : goal.insert_all-requires-clause-room
insert_all-requires-clause-room c =
    subst (λ room. length c.remove_all.new.keys.pairs + length (free_keys c.deref-4.result.now) ≤ room) (sym c.remove_all.ensures.room)
    ((asked_next c).fits c.remove_all.new.keys.pairs c.remove_all.ensures.counts)

pub keeps_its_key-requires-clause-before : goal.keeps_its_key-requires-clause-before
keeps_its_key-requires-clause-before c =
    subst (λ (ps : List Piece). AreCounted ps) (sym c.deref.ensures.0) (before_counted c.args.self.now c.args.touched.now.before.items c.args.touched.now.after.items c.requires)

pub keeps_its_key-requires-clause-after : goal.keeps_its_key-requires-clause-after
keeps_its_key-requires-clause-after c =
    subst (λ (ps : List Piece). AreCounted ps) (sym c.deref-2.ensures.0) (after_counted c.args.self.now c.args.touched.now.before.items c.args.touched.now.after.items c.requires)

pub returns-then-keeps_its_key-clause-index : goal.returns-then-keeps_its_key-clause-index
returns-then-keeps_its_key-clause-index c = λ change.
    kept_indexed c.args.self.now c.args.touched.now.before.items c.args.touched.now.after.items
    (sym (ap (λ (ps : List Piece). free_keys ps) c.deref.ensures.0) ∙ c.keeps_its_key.ensures c.if-keeps_its_key.true ∙ ap (λ (ps : List Piece). free_keys ps) c.deref-2.ensures.0)
    change

pub returns-clause-index : goal.returns-clause-index
unfolding change_of
returns-clause-index c = λ change.
    left_indexed c.args.self.now c.self.inside.keys.pairs c.remove_all.new.keys.pairs c.insert_all.new.keys.pairs c.self.inside.keys.room c.deref-3.result.now c.deref-4.result.now
    c.self.view_is c.remove_all.ensures.counts c.insert_all.ensures.counts
    (change_of c.args.self.now c.args.touched.now.before.items c.args.touched.now.after.items c.deref-3.result.now c.deref-4.result.now c.deref-3.ensures.0 c.deref-4.ensures.0 change)
