use Rattle.std.proofs.Common.{◌≡◌, ◌≢◌, ◌<◌, [], ◌∷◌, None, length, sym, subst, arith}
use Rattle.std.specs.List.{All}
use Rattle.std.specs.Ordering.{is_lt, nat_cmp}
use Rattle.std.proofs.lemmas.List.Sums.{prefix_len-le-length}
use Rattle.page_dir.specs.Sorted.{Rises, rank}
use Rattle.page_dir.specs.Splices.{spliced}
use Rattle.reg_entry.specs.Holders.{holder_number}
use Rattle.holder_book.specs.HandleKey.{handle_key}
use Rattle.holder_book.proofs.Indexing.{absent_from}
use Rattle.holder_book.proofs.Keeping.{kept_after_adding}
use Rattle.holder_book.proofs.book.HolderBook.add.Goals as goal

pub enter-requires-clause-rises : goal.enter-requires-clause-rises
enter-requires-clause-rises c = c.self.invariant.index.rises

pub enter-requires-clause-absent : goal.enter-requires-clause-absent
enter-requires-clause-absent c =
    subst (λ key. All (λ p. p.0 ≢ key) c.self.inside.numbers.pairs) (sym c.handle_key.ensures.key)
    (absent_from c.self.inside.holders.holders c.self.inside.numbers.pairs c.args.holder.now.handle c.self.invariant.index c.handle_key.ensures.form
    (subst (λ b. holder_number b.holders c.args.holder.now.handle ≡ None) (sym c.self.view_is) c.requires.new))

pub invariant_of-self : goal.invariant_of-self
invariant_of-self c =
    let key = handle_key c.args.holder.now.handle in
    let pairs = c.self.inside.numbers.pairs in
    let none = subst (λ b. holder_number b.holders c.args.holder.now.handle ≡ None) (sym c.self.view_is) c.requires.new in
    let below = subst (λ b. length b.holders < b.room) (sym c.self.view_is) c.requires.room in
    let within = prefix_len-le-length (λ p. is_lt (nat_cmp p.0 key)) pairs in
    let rises = subst (Rises nat_cmp) c.enter.ensures.pairs c.enter.ensures.rises in
    rw (c.push.ensures.holders, c.push.ensures.room, c.enter.ensures.pairs, c.enter.ensures.room, c.handle_key.ensures.key, c.len-number.ensures.count)
    (kept_after_adding c.self.inside.holders.holders pairs c.args.holder.now c.args.day (rank nat_cmp key pairs) _ _ c.self.invariant c.handle_key.ensures.form none below (omega (arith, within))
    (subst (λ k. Rises nat_cmp (spliced (rank nat_cmp k pairs) 0 ((k, length c.self.inside.holders.holders) ∷ []) pairs)) c.handle_key.ensures.key
    (subst (λ n. Rises nat_cmp (spliced (rank nat_cmp c.handle_key.result pairs) 0 ((c.handle_key.result, n) ∷ []) pairs)) c.len-number.ensures.count rises)))

pub returns-clause-distinct : goal.returns-clause-distinct
returns-clause-distinct c = (invariant_of-self c).distinct

pub returns-clause-number : goal.returns-clause-number
returns-clause-number c = cc
