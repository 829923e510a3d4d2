use Rattle.std.proofs.Common.{◌≡◌, ◌∙◌, Some, None, ℕ, ap, sym, subst}
use Rattle.std.specs.List.{slice_get}
use Rattle.std.specs.Option.{option_map_or}
use Rattle.std.specs.Ordering.{nat_cmp}
use Rattle.std.proofs.lemmas.Option.{none-some}
use Rattle.page_dir.specs.Sorted.{rank}
use Rattle.reg_entry.specs.Holders.{holder_number}
use Rattle.holder_book.proofs.Indexing.{known_at, none_found}
use Rattle.holder_book.proofs.book.HolderBook.by_handle.Goals as goal

pub returns-in_err-found-clause-number : goal.returns-in_err-found-clause-number
returns-in_err-found-clause-number c =
    let pairs = c.self.inside.numbers.pairs in
    subst (λ b. c.from_residual.result ≡ holder_number b.holders c.args.handle.now) c.self.view_is
    (c.from_residual.ensures
    ∙ sym (none_found c.self.inside.holders.holders pairs c.args.handle.now c.self.invariant.index c.handle_key-key.ensures.form
    (λ p e.
    absurd (none-some p (sym c.in_err-found.was ∙ c.from.ensures ∙ ap (λ (k : ℕ). slice_get pairs (rank nat_cmp k pairs)) c.handle_key-key.ensures.key ∙ e)))))

pub returns-then-found-key-clause-number : goal.returns-then-found-key-clause-number
returns-then-found-key-clause-number c =
    let pairs = c.self.inside.numbers.pairs in
    subst (λ b. Some c.in_ok-found.number ≡ holder_number b.holders c.args.handle.now) c.self.view_is
    (sym (known_at c.self.inside.holders.holders pairs (rank nat_cmp c.handle_key-key.result pairs) (c.in_ok-found.found, c.in_ok-found.number) c.args.handle.now
    c.self.invariant.index c.handle_key-key.ensures.form (sym c.from.ensures ∙ c.in_ok-found.was) (c.if-found-key.true ∙ c.handle_key-key.ensures.key)))

pub returns-else-found-key-clause-number : goal.returns-else-found-key-clause-number
returns-else-found-key-clause-number c =
    let pairs = c.self.inside.numbers.pairs in
    subst (λ b. None ≡ holder_number b.holders c.args.handle.now) c.self.view_is
    (sym (none_found c.self.inside.holders.holders pairs c.args.handle.now c.self.invariant.index c.handle_key-key.ensures.form
    (λ p e same.
    let is : p.0 ≡ c.in_ok-found.found =
    ap (λ o. option_map_or (λ (q : ℕ × ℕ). q.0) o 0)
    (sym e ∙ ap (λ (k : ℕ). slice_get pairs (rank nat_cmp k pairs)) (sym c.handle_key-key.ensures.key) ∙ sym c.from.ensures ∙ c.in_ok-found.was) in
    c.if-found-key.false (sym is ∙ same ∙ sym c.handle_key-key.ensures.key))))
