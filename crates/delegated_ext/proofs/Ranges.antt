-- The records of rising ranges that have one card.
use Rattle.std.proofs.Common.{◌≡◌, ℕ, zero, suc, ◌+◌, ◌-◌, ◌<◌, ◌≤◌, Bool, true, false, cond, ◌&&◌, ◌||◌, nat_le, nat_lt, List, [], ◌∷◌, length, map, inl, inr, refl, sym, ◌∙◌, ap, true≢false, slice_index_or, ◌↔◌, arith}
use Rattle.std.specs.List.{All, list_any, sum_by}
use Rattle.std.proofs.lemmas.Bool.{cases_Bool, cond-true, cond-false, and_parts, leb-true, false_from_ne_true}
use Rattle.std.proofs.lemmas.Bool.Decides.{nat_tests}
use Rattle.std.proofs.lemmas.List.Sums.{sum_by-cons}
use Rattle.std.proofs.lemmas.List.Folds.{Any-from_list_any, list_any-from_Any}
use Rattle.num_range.specs.declared.space.Space.{Space}
use Rattle.num_range.specs.Space.{same_space}
use Rattle.num_range.specs.Number.{PlainNumber}
use Rattle.num_range.specs.Range.{PlainRange, Holds, size_of, range_holds, first_number}
use Rattle.num_range.specs.Block.{block_size}
use Rattle.cidr_cover.specs.Blocks.{IsBlock, IsCoverOf, IsRising}
use Rattle.reg_entry.specs.declared.card.Card.{Card}
use Rattle.delegated_ext.specs.declared.record_line.RecordLine.{RecordLine}
use Rattle.delegated_ext.specs.Records.{record_line}
use Rattle.delegated_ext.specs.Conserved.{record_has, cards_in_records, records_size}

-- ---- one range

same_end : (first last x : ℕ) → first ≤ last → nat_lt x (first + (last - first + 1)) ≡ nat_le x last
same_end first last x h =
    let e : first + (last - first + 1) ≡ last + 1 = omega arith in
    ap (nat_lt x) e ∙ grind (arith, nat_tests)

pub has-range : (card : Card) (r : PlainRange) (n : PlainNumber) → r.first ≤ r.last → record_has n (record_line card r) ≡ range_holds r n
has-range card r n h = ap (λ b. same_space r.space n.space && nat_le r.first n.value && b) (same_end r.first r.last n.value h)

above-first : (r : PlainRange) (n : PlainNumber) → range_holds r n ≡ true → r.first ≤ n.value
above-first r n h =
    let parts = and_parts (same_space r.space n.space && nat_le r.first n.value) (nat_le n.value r.last) h in
    leb-true r.first n.value (and_parts (same_space r.space n.space) (nat_le r.first n.value) parts.0).1

below-last : (r : PlainRange) (n : PlainNumber) → range_holds r n ≡ true → n.value ≤ r.last
below-last r n h = leb-true n.value r.last (and_parts (same_space r.space n.space && nat_le r.first n.value) (nat_le n.value r.last) h).1

-- ---- rising ranges

abbrev pub RisesAbove : ℕ → List PlainRange → Type 0
RisesAbove low [] = Unit {0}
RisesAbove low (b ∷ bs) = (low ≤ b.first) × (b.first ≤ b.last) × RisesAbove (b.last + 1) bs

none_above : (card : Card) (low : ℕ) (bs : List PlainRange) (n : PlainNumber) → RisesAbove low bs → n.value < low
    → cards_in_records (map (record_line card) bs) n ≡ []
none_above card low [] n rises h = refl
none_above card low (b ∷ bs) n rises h =
    let missed : range_holds b n ≡ false = false_from_ne_true (range_holds b n) (λ e. let at = above-first b n e in absurd (omega arith)) in
    let not : record_has n (record_line card b) ≡ false = has-range card b n rises.1 ∙ missed in
    ap (map (λ (l : RecordLine). l.card)) (cond-false (record_has n (record_line card b)) _ _ not)
    ∙ none_above card (b.last + 1) bs n rises.2 (omega arith)

pub cards_of_rising : (card : Card) (low : ℕ) (bs : List PlainRange) (n : PlainNumber) → RisesAbove low bs
    → cards_in_records (map (record_line card) bs) n ≡ cond (list_any (λ b. range_holds b n) bs) (card ∷ []) []
cards_of_rising card low [] n rises = refl
cards_of_rising card low (b ∷ bs) n rises =
    let rest : Bool = list_any (λ c. range_holds c n) bs in
    let same = has-range card b n rises.1 in
    elim (cases_Bool (range_holds b n)) [
      | inl t ↦
          let end = below-last b n t in
          ap (map (λ (l : RecordLine). l.card)) (cond-true (record_has n (record_line card b)) _ _ (same ∙ t))
          ∙ ap (λ (cs : List Card). card ∷ cs) (none_above card (b.last + 1) bs n rises.2 (omega arith))
          ∙ sym (ap (λ c. cond (c || rest) (card ∷ []) []) t)
      | inr f ↦
          ap (map (λ (l : RecordLine). l.card)) (cond-false (record_has n (record_line card b)) _ _ (same ∙ f))
          ∙ cards_of_rising card (b.last + 1) bs n rises.2
          ∙ sym (ap (λ c. cond (c || rest) (card ∷ []) []) f)
    ]

-- ---- their sizes

module _ (card : Card) (space : Space) where
  pub sizes_inside : (bs : List PlainRange) → All (λ b. same_space b.space space ≡ true) bs
      → records_size (map (record_line card) bs) space ≡ sum_by size_of bs
  sizes_inside [] h = refl
  sizes_inside (b ∷ bs) h =
      let first = cond-true (same_space b.space space) (size_of b) 0 (h 0 b (omega arith)) in
      let rest = sizes_inside bs (λ k d lt. h (suc k) d (omega arith)) in
      let whole = sum_by-cons size_of b bs in
      omega arith

  pub sizes_outside : (bs : List PlainRange) → All (λ b. same_space b.space space ≡ false) bs
      → records_size (map (record_line card) bs) space ≡ 0
  sizes_outside [] h = refl
  sizes_outside (b ∷ bs) h =
      let first = cond-false (same_space b.space space) (size_of b) 0 (h 0 b (omega arith)) in
      let rest = sizes_outside bs (λ k d lt. h (suc k) d (omega arith)) in
      omega arith

-- ---- a cover

same_bool : (a b : Bool) → (a ≡ true → b ≡ true) → (b ≡ true → a ≡ true) → a ≡ b
same_bool true b to from = sym (to refl)
same_bool false b to from = sym (false_from_ne_true b (λ e. true≢false (sym (from e))))

at_default : {X : Type 0} (xs : List X) (k : ℕ) (d e : X) → k < length xs → slice_index_or xs k d ≡ slice_index_or xs k e
at_default [] k d e lt = absurd (omega arith)
at_default (x ∷ xs) zero d e lt = refl
at_default (x ∷ xs) (suc k) d e lt = at_default xs k d e (omega arith)

block_rises : (b : PlainRange) → IsBlock b → b.first ≤ b.last
block_rises b h =
    let e : b.last ≡ b.first + (block_size b.space h.length - 1) = ap (λ (c : PlainRange). c.last) h.is_block in
    omega arith

rises_above : (low : ℕ) (bs : List PlainRange) → All IsBlock bs → IsRising bs → All (λ b. low ≤ b.first) bs → RisesAbove low bs
rises_above low [] blocks pairs above = tt
rises_above low (b ∷ bs) blocks pairs above = (
  above 0 b (omega arith),
  block_rises b (blocks 0 b (omega arith)),
  rises_above (b.last + 1) bs
      (λ k d lt. blocks (suc k) d (omega arith))
      (λ i j d lt within. pairs (suc i) (suc j) d (omega arith) (omega arith))
      (λ k d lt. let up = pairs 0 (suc k) d (omega arith) (omega arith) in omega arith),
)

pub cover_rises : (r : PlainRange) (bs : List PlainRange) → IsCoverOf r bs → IsRising bs → RisesAbove 0 bs
cover_rises r bs cover rising = rises_above 0 bs cover.blocks rising (λ k d lt. omega arith)

module _ (holds : (r : PlainRange) (n : PlainNumber) → (range_holds r n ≡ true) ↔ Holds r n) where
  -- one of the blocks holds the number just where the range does
  pub cover_holds : (r : PlainRange) (bs : List PlainRange) (n : PlainNumber) → IsCoverOf r bs
      → list_any (λ b. range_holds b n) bs ≡ range_holds r n
  cover_holds r bs n cover =
      same_bool (list_any (λ b. range_holds b n) bs) (range_holds r n)
      (λ e. let any = Any-from_list_any (λ b. range_holds b n) bs e in
      (holds r n).1 ((cover.exact n).0 (any.0, any.1, any.2, any.3, (holds any.1 n).0 any.4)))
      (λ e. let any = (cover.exact n).1 ((holds r n).0 e) in
      list_any-from_Any (λ b. range_holds b n) bs (any.0, any.1, any.2, any.3, (holds any.1 n).1 any.4))

-- each block is of the range's space, and lies inside the range
pub cover_inside : (r : PlainRange) (bs : List PlainRange) → IsCoverOf r bs → All (λ b. Holds r (first_number b)) bs
cover_inside r bs cover k d lt =
    let b : PlainRange = slice_index_or bs k d in
    let rises = block_rises b (cover.blocks k d lt) in
    (cover.exact (first_number b)).0 (k, b, lt, at_default bs k b d lt, (refl, omega arith, rises))
