-- A splice of the directory's pairs is that of the book's ranges.
use Rattle.std.proofs.Common.{◌≡◌, ℕ, ◌+◌, ◌≤◌, List, Option, length, sym, ◌∙◌, ap, subst}
use Rattle.num_range.specs.Number.{PlainNumber}
use Rattle.num_range.specs.Range.{PlainRange, first_number}
use Rattle.page_dir.specs.Sorted.{Rises, rank}
use Rattle.page_dir.specs.Splices.{spliced}
use Rattle.reg_entry.specs.Ranges.{AreApart}
use Rattle.sub_book.specs.Book.{PlainRangeBook}
use Rattle.sub_book.specs.Order.{coming, ended_below}
use Rattle.sub_book.specs.contracts.by_last.ByLastOrd.TheImpl.{cmp-value}
use Rattle.sub_book.proofs.LastOrder.{ending_at, place_is, rises_in_order}

abbrev pub pairs_spliced : {V : Type 0} → PlainRange → ℕ → List (PlainRange × V) → List (PlainRange × V) → List (PlainRange × V)
pairs_spliced from gone new pairs = spliced (rank (cmp-value).it from pairs) gone new pairs

abbrev pub ranges_spliced : {V : Type 0} → PlainRange → ℕ → Option V → PlainRangeBook V → List (PlainRange × V)
ranges_spliced r gone value b = spliced (ended_below (first_number r) b.ranges) gone (coming r value) b.ranges

pub record IsReplaced {V : Type 0} (r from : PlainRange) (gone : ℕ) (value : Option V) (new pairs : List (PlainRange × V)) (room : ℕ) (b : PlainRangeBook V) : Type 0 where
  pub there : rank (cmp-value).it from pairs + gone ≤ length pairs
  pub rises : Rises (cmp-value).it (pairs_spliced from gone new pairs)
  pub within : length (pairs_spliced from gone new pairs) ≤ room
  pub is : pairs_spliced from gone new pairs ≡ ranges_spliced r gone value b
  pub apart : AreApart (pairs_spliced from gone new pairs)

replaced_at : {V : Type 0} (r : PlainRange) (gone : ℕ) (value : Option V) (from : PlainRange) (new : List (PlainRange × V)) (b : PlainRangeBook V)
    → from ≡ ending_at (first_number r) → new ≡ coming r value
    → ended_below (first_number r) b.ranges + gone ≤ length b.ranges → AreApart (ranges_spliced r gone value b) → length (ranges_spliced r gone value b) ≤ b.room
    → IsReplaced r from gone value new b.ranges b.room b
replaced_at {V} r gone value from new b e f there apart fits =
    let place : rank (cmp-value).it from b.ranges ≡ ended_below (first_number r) b.ranges = place_is (first_number r) from b.ranges e in
    let is : pairs_spliced from gone new b.ranges ≡ ranges_spliced r gone value b =
    ap (λ (at : ℕ). spliced at gone new b.ranges) place
    ∙ ap (λ (come : List (PlainRange × V)). spliced (ended_below (first_number r) b.ranges) gone come b.ranges) f in
    record {
      there = subst (λ (at : ℕ). at + gone ≤ length b.ranges) (sym place) there;
      rises = subst (λ (xs : List (PlainRange × V)). Rises (cmp-value).it xs) (sym is) (rises_in_order (ranges_spliced r gone value b) apart);
      within = subst (λ (xs : List (PlainRange × V)). length xs ≤ b.room) (sym is) fits;
      is = is;
      apart = subst (λ (xs : List (PlainRange × V)). AreApart xs) (sym is) apart;
    }

pub replaced : {V : Type 0} (r : PlainRange) (gone : ℕ) (value : Option V) (n : PlainNumber) (from : PlainRange) (new : List (PlainRange × V)) (inside b : PlainRangeBook V)
    → inside ≡ b → n ≡ first_number r → from ≡ ending_at n → new ≡ coming r value
    → ended_below (first_number r) b.ranges + gone ≤ length b.ranges → AreApart (ranges_spliced r gone value b) → length (ranges_spliced r gone value b) ≤ b.room
    → IsReplaced r from gone value new inside.ranges inside.room b
replaced {V} r gone value n from new inside b same first e f there apart fits =
    subst (λ (a : PlainRangeBook V). IsReplaced r from gone value new a.ranges a.room b) (sym same)
    (replaced_at r gone value from new b (e ∙ ap (λ (m : PlainNumber). ending_at m) first) f there apart fits)
