-- Which pieces are due, in words of membership.
use Rattle.std.proofs.Common.{◌≡◌, ℕ, zero, suc, ◌<◌, ◌≤◌, Bool, true, false, cond, nat_le, List, [], ◌∷◌, ◌++◌, length, slice_index_or, refl, sym, ◌∙◌, ap, subst, true≢false, ⊎_elim, arith}
use Rattle.std.specs.List.{Contains, filter}
use Rattle.std.proofs.lemmas.Bool.{and_parts, and_from, leb-true, le-leb}
use Rattle.std.proofs.lemmas.List.Elements.{All-contains, All-contains_itself, All-filter, filter_passes, Contains-append_cases, Contains-append_left, Contains-append_right}
use Rattle.num_range.specs.declared.space.Space.{Space}
use Rattle.num_range.specs.declared.space.Space.TheVariants.{Asn, Ipv4, Ipv6}
use Rattle.reg_entry.specs.declared.card.Status.{Status}
use Rattle.reg_entry.specs.declared.card.Status.TheVariants.{Available, Reserved, Quarantine, Allocated, Assigned}
use Rattle.reg_entry.specs.declared.piece.Piece.{Piece}
use Rattle.reg_entry.specs.Card.{same_status}
use Rattle.reg_entry.specs.Partition.{Partition, pieces_in}
use Rattle.quarantine.specs.Due.{all_pieces, due_pieces, is_due}

-- ---- a filtered list

module _ {X : Type 0} (t : X → Bool) where
  pub was : (xs : List X) (x : X) → Contains (filter t xs) x → Contains xs x
  was xs x = All-contains (Contains xs) (filter t xs) x (All-filter t (Contains xs) xs (All-contains_itself xs))

  more : (b : Bool) (y : X) (us : List X) (x : X) → Contains us x → Contains (cond b (y ∷ us) us) x
  more true y us x h = Contains-append_right (y ∷ []) us x h
  more false y us x h = h

  kept_at : (xs : List X) (k : ℕ) (x : X) → k < length xs → slice_index_or xs k x ≡ x → t x ≡ true → Contains (filter t xs) x
  kept_at [] k x lt is passes = absurd (omega arith)
  kept_at (y ∷ ys) zero x lt is passes =
      subst (λ b. Contains (cond b (y ∷ filter t ys) (filter t ys)) x) (sym (ap t is ∙ passes)) (0, omega arith, is)
  kept_at (y ∷ ys) (suc k) x lt is passes = more (t y) y (filter t ys) x (kept_at ys k x (omega arith) is passes)

  pub kept : (xs : List X) (x : X) → Contains xs x → t x ≡ true → Contains (filter t xs) x
  kept xs x h = kept_at xs h.0 x h.1 h.2

-- ---- the pieces of the three spaces

pub in_some_space : (pool : Partition) (p : Piece) → Contains (all_pieces pool) p → (space : Space) × Contains (pieces_in pool space) p
in_some_space pool p h =
    ⊎_elim (λ a. (Asn, a))
    (λ b. ⊎_elim (λ c. (Ipv4, c)) (λ c. (Ipv6, c)) (Contains-append_cases pool.ipv4 pool.ipv6 p b))
    (Contains-append_cases pool.asn (pool.ipv4 ++ pool.ipv6) p h)

pub in_all : (pool : Partition) (space : Space) (p : Piece) → Contains (pieces_in pool space) p → Contains (all_pieces pool) p
in_all pool Asn p h = Contains-append_left pool.asn (pool.ipv4 ++ pool.ipv6) p h
in_all pool Ipv4 p h = Contains-append_right pool.asn (pool.ipv4 ++ pool.ipv6) p (Contains-append_left pool.ipv4 pool.ipv6 p h)
in_all pool Ipv6 p h = Contains-append_right pool.asn (pool.ipv4 ++ pool.ipv6) p (Contains-append_right pool.ipv4 pool.ipv6 p h)

-- ---- what is due

pub due_was : (pool : Partition) (day : ℕ) (p : Piece) → Contains (due_pieces pool day) p → (space : Space) × Contains (pieces_in pool space) p
due_was pool day p h = in_some_space pool p (was (is_due day) (all_pieces pool) p h)

in_quarantine : (s : Status) → same_status s Quarantine ≡ true → s ≡ Quarantine
in_quarantine Available e = absurd (true≢false (sym e))
in_quarantine Reserved e = absurd (true≢false (sym e))
in_quarantine Quarantine e = refl
in_quarantine Allocated e = absurd (true≢false (sym e))
in_quarantine Assigned e = absurd (true≢false (sym e))

pub due_ended : (pool : Partition) (day : ℕ) (p : Piece) → Contains (due_pieces pool day) p → (p.card.status ≡ Quarantine) × (p.card.until ≤ day)
due_ended pool day p h =
    let passes = All-contains (λ q. is_due day q ≡ true) (due_pieces pool day) p (filter_passes (is_due day) (all_pieces pool)) h in
    let parts = and_parts (same_status p.card.status Quarantine) (nat_le p.card.until day) passes in
    (in_quarantine p.card.status parts.0, leb-true p.card.until day parts.1)

pub ended_due : (pool : Partition) (day : ℕ) (space : Space) (p : Piece) → Contains (pieces_in pool space) p
    → p.card.status ≡ Quarantine → p.card.until ≤ day → Contains (due_pieces pool day) p
ended_due pool day space p h status ended =
    kept (is_due day) (all_pieces pool) p (in_all pool space p h)
    (and_from (same_status p.card.status Quarantine) (nat_le p.card.until day) (ap (λ s. same_status s Quarantine) status) (le-leb p.card.until day ended))
