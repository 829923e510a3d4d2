-- The first keys of pages, while pages change, come and go.
use Rattle.std.proofs.Common.{◌≡◌, ℕ, suc, zero, ◌+◌, ◌-◌, ◌<◌, ◌≤◌, Bool, true, false, List, [], ◌∷◌, length, get_or, set, refl, ap, sym, ◌∙◌, arith}
use Rattle.std.specs.List.{insert, remove, slice_get}
use Rattle.std.specs.Option.{IsSomeAnd}
use Rattle.page_dir.specs.Pages.{joined, page_of}
use Rattle.page_dir.specs.Searching.{FailsAt, IsDown, IsTurn, PassesAt}
use Rattle.page_dir.specs.Splices.{spliced}
use Rattle.page_dir.specs.Spread.{BeginWith, BeginsWith}
use Rattle.page_dir.proofs.Places.{down_of_pages}

key_within : {K : Type 0} (test : K → Bool) (keys : List (K × Unit {0})) (i : ℕ) → PassesAt (λ k. test k.0) keys i → i < length keys
key_within test [] i h = absurd h
key_within test (key ∷ keys) zero h = omega arith
key_within test (key ∷ keys) (suc i) h = let rest = key_within test keys i h in omega (arith, rest)

module _ {K V : Type 0} where
  pub keys_of_pages : (keys : List (K × Unit {0})) (pages : List (List (K × V))) → BeginWith keys pages → length keys ≡ length pages
  keys_of_pages [] [] b = refl
  keys_of_pages [] (page ∷ pages) b = absurd b
  keys_of_pages (key ∷ keys) [] b = absurd b
  keys_of_pages (key ∷ keys) (page ∷ pages) b = ap suc (keys_of_pages keys pages b.1)

  pub begin_inserted : (keys : List (K × Unit {0})) (pages : List (List (K × V))) (i : ℕ) (key : K × Unit {0}) (page : List (K × V)) → BeginWith keys pages
      → BeginsWith key.0 page → BeginWith (insert keys i key) (insert pages i page)
  begin_inserted keys pages zero key page b h = (h, b)
  begin_inserted [] [] (suc i) key page b h = (h, tt)
  begin_inserted [] (p ∷ ps) (suc i) key page b h = absurd b
  begin_inserted (k ∷ ks) [] (suc i) key page b h = absurd b
  begin_inserted (k ∷ ks) (p ∷ ps) (suc i) key page b h = (b.0, begin_inserted ks ps i key page b.1 h)

  pub begin_removed : (keys : List (K × Unit {0})) (pages : List (List (K × V))) (i : ℕ) → BeginWith keys pages → BeginWith (remove keys i) (remove pages i)
  begin_removed [] [] zero b = tt
  begin_removed [] [] (suc i) b = tt
  begin_removed [] (p ∷ ps) i b = absurd b
  begin_removed (k ∷ ks) [] i b = absurd b
  begin_removed (k ∷ ks) (p ∷ ps) zero b = b.1
  begin_removed (k ∷ ks) (p ∷ ps) (suc i) b = (b.0, begin_removed ks ps i b.1)

  pub begin_set : (keys : List (K × Unit {0})) (pages : List (List (K × V))) (i : ℕ) (key : K × Unit {0}) (page : List (K × V)) → BeginWith keys pages
      → BeginsWith key.0 page → BeginWith (set keys i key) (set pages i page)
  begin_set [] [] i key page b h = tt
  begin_set [] (p ∷ ps) i key page b h = absurd b
  begin_set (k ∷ ks) [] i key page b h = absurd b
  begin_set (k ∷ ks) (p ∷ ps) zero key page b h = (h, b.1)
  begin_set (k ∷ ks) (p ∷ ps) (suc i) key page b h = (b.0, begin_set ks ps i key page b.1 h)

  pub begins_there : (keys : List (K × Unit {0})) (pages : List (List (K × V))) (i : ℕ) (d : K × Unit {0}) → BeginWith keys pages → i < length keys
      → BeginsWith (get_or keys i d).0 (page_of pages i)
  begins_there [] pages i d b h = absurd (omega arith)
  begins_there (k ∷ ks) [] i d b h = absurd b
  begins_there (k ∷ ks) (p ∷ ps) zero d b h = b.0
  begins_there (k ∷ ks) (p ∷ ps) (suc i) d b h = begins_there ks ps i d b.1 (omega arith)

  -- a page that is changed behind its first pair begins as before
  pub begins_spliced : (key : K) (page : List (K × V)) (at n : ℕ) (new : List (K × V)) → 0 < at → at + n ≤ length page → BeginsWith key page
      → BeginsWith key (spliced at n new page)
  begins_spliced key [] at n new more h b = absurd (omega arith)
  begins_spliced key (p ∷ ps) zero n new more h b = absurd (omega arith)
  begins_spliced key (p ∷ ps) (suc at) n new more h b = b

  pub begins_at_first : (page : List (K × V)) (d : K × V) → 0 < length page → BeginsWith (get_or page 0 d).0 page
  begins_at_first [] d some = absurd (omega arith)
  begins_at_first (p ∷ ps) d some = refl

  -- what a test says of the key at a place it says of the pair with which the page there begins
  told_there : (test : K → Bool) (b : Bool) (keys : List (K × Unit {0})) (pages : List (List (K × V))) (i : ℕ) → BeginWith keys pages
      → ((k : ℕ) → k < length pages → 0 < length (get_or pages k [])) → IsSomeAnd (slice_get keys i) (λ k. test k.0 ≡ b)
      → IsSomeAnd (slice_get (get_or pages i []) 0) (λ p. test p.0 ≡ b)
  told_there test b [] pages i begin filled is = absurd is
  told_there test b (key ∷ keys) [] i begin filled is = absurd begin
  told_there test b (key ∷ keys) ([] ∷ pages) zero begin filled is = absurd (let some = filled 0 (omega arith) in omega (arith, some))
  told_there test b (key ∷ keys) ((p ∷ ps) ∷ pages) zero begin filled is = ap test begin.0 ∙ is
  told_there test b (key ∷ keys) (page ∷ pages) (suc i) begin filled is =
      told_there test b keys pages i begin.1 (λ k h. filled (suc k) (omega arith)) is

  told_back : (test : K → Bool) (keys : List (K × Unit {0})) (pages : List (List (K × V))) (i : ℕ) → BeginWith keys pages
      → PassesAt (λ p. test p.0) (page_of pages i) 0 → PassesAt (λ k. test k.0) keys i
  told_back test [] [] i begin is = absurd is
  told_back test [] (page ∷ pages) i begin is = absurd begin
  told_back test (key ∷ keys) [] i begin is = absurd begin
  told_back test (key ∷ keys) ([] ∷ pages) zero begin is = absurd is
  told_back test (key ∷ keys) ((p ∷ ps) ∷ pages) zero begin is = ap test (sym begin.0) ∙ is
  told_back test (key ∷ keys) (page ∷ pages) (suc i) begin is = told_back test keys pages i begin.1 is

  -- where the first key of a page passes, those of all pages before it do
  pub down_of_firsts : (test : K → Bool) (keys : List (K × Unit {0})) (pages : List (List (K × V))) → BeginWith keys pages
      → ((k : ℕ) → k < length pages → 0 < length (get_or pages k [])) → IsDown (λ p. test p.0) (joined pages) → IsDown (λ k. test k.0) keys
  down_of_firsts test keys pages begin filled down i j le passes =
      let same = keys_of_pages keys pages begin in
      let inside = key_within test keys j passes in
      told_back test keys pages i begin
      (down_of_pages (λ p. test p.0) pages filled down i j le (omega (arith, same, inside)) (told_there test true keys pages j begin filled passes))

  -- so a turn among the first keys is one among the pages
  pub turn_of_pages : (test : K → Bool) (keys : List (K × Unit {0})) (pages : List (List (K × V))) (place : ℕ) → BeginWith keys pages
      → ((k : ℕ) → k < length pages → 0 < length (get_or pages k []))
      → IsTurn (PassesAt (λ k. test k.0) keys) (FailsAt (λ k. test k.0) keys) (length keys) place
      → IsTurn (λ i. PassesAt (λ p. test p.0) (page_of pages i) 0) (λ i. FailsAt (λ p. test p.0) (page_of pages i) 0) (length pages) place
  turn_of_pages test keys pages place begin filled turn =
      let same = keys_of_pages keys pages begin in
      record {
        within = omega (arith, same, turn.within);
        before = λ some. told_there test true keys pages (place - 1) begin filled (turn.before some);
        after = λ more. told_there test false keys pages place begin filled (turn.after (omega (arith, same, more)));
      }
