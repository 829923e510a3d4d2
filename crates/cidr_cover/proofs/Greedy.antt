-- The blocks inside a range are the widest one at its front, and then those of what is behind that.
use Rattle.std.proofs.Common.{◌≡◌, ℕ, zero, suc, ◌+◌, ◌-◌, ◌%◌, ◌<◌, ◌≤◌, Bool, true, ◌&&◌, nat_le, List, [], ◌∷◌, ◌++◌, inl, inr, refl, None, Some, nat_lt, sym, ◌∙◌, ap, subst, arith}
use Rattle.std.proofs.lemmas.Bool.{and_parts, and_from, le-leb, lt-ltb, le-ltb, cond-true, cond-false, cases_lt, false_from_ne_true}
use Rattle.std.proofs.Math.Nat.{zero-mod}
use Rattle.std.specs.Option.{option_map_or}
use Rattle.num_range.specs.declared.space.Space.{Space}
use Rattle.num_range.specs.Space.{width_of, top_of}
use Rattle.num_range.specs.Range.{PlainRange}
use Rattle.num_range.specs.Block.{block_size, block_of, IsBlockStart}
use Rattle.num_range.specs.Cover.{blocks_inside, least_cover}
use Rattle.num_range.proofs.BlockEnds.{top-below}
use Rattle.cidr_cover.specs.Front.{IsFrontBlock, behind_front}
use Rattle.cidr_cover.proofs.Sizes.{size_pos, size_halves, multiples_apart, multiple_of_longer, size_of_whole, size_is_multiple}
use Rattle.cidr_cover.proofs.Halving.{is_inside, inside_from, inside_parts, IsPlace, place-first, place-second, blocks-whole, blocks-beside, blocks-empty, blocks-halves, with_ends, blocks-agree}

-- the block of this length is the widest asked one at the range's front
pub record IsFront (asked : ℕ → Bool) (r : PlainRange) (deepest n : ℕ) : Type 0 where
  pub is_asked : asked n ≡ true
  pub deep : n ≤ deepest
  pub aligned : r.first % block_size r.space n ≡ 0
  pub fits : r.first + (block_size r.space n - 1) ≤ r.last
  pub widest : (k : ℕ) → k < n → asked k ≡ true → r.first % block_size r.space k ≡ 0 → r.first + (block_size r.space k - 1) ≤ r.last → ⊥

-- what is behind the block of this length at the range's front
abbrev pub behind : PlainRange → ℕ → PlainRange
behind r n = with_ends r (r.first + block_size r.space n) r.last

-- the block that is looked at is the front one
front-here : (asked : ℕ → Bool) (r : PlainRange) (n deepest left len start : ℕ) → IsPlace r.space deepest left len start → IsFront asked r deepest n
    → len ≡ n → start ≤ r.first → r.first + block_size r.space n ≤ start + block_size r.space len
    → blocks_inside asked r left len start ≡ block_of r.space r.first n ∷ blocks_inside asked (behind r n) left len start
front-here asked r n deepest left len start place front e low high =
    let sizes : block_size r.space len ≡ block_size r.space n = ap (λ k. block_size r.space k) e in
    let here : start ≡ r.first = omega arith in
    let fits = front.fits in
    let taken : (asked len && is_inside r len start) ≡ true =
    and_from (asked len) (is_inside r len start) (ap asked e ∙ front.is_asked) (inside_from r len start (omega arith) (omega arith)) in
    blocks-whole asked r left len start taken
    ∙ ap (λ at. block_of r.space at len ∷ []) here
    ∙ ap (λ k. block_of r.space r.first k ∷ []) e
    ∙ ap (λ bs. block_of r.space r.first n ∷ bs)
    (sym (blocks-beside asked (behind r n) deepest left len start place (inr (omega arith))))

pub blocks-front : (asked : ℕ → Bool) (r : PlainRange) (n deepest left len start : ℕ) → IsPlace r.space deepest left len start
    → IsFront asked r deepest n → len ≤ n → start ≤ r.first → r.first + block_size r.space n ≤ start + block_size r.space len
    → blocks_inside asked r left len start ≡ block_of r.space r.first n ∷ blocks_inside asked (behind r n) left len start
blocks-front asked r n deepest zero len start place front le low high =
    let deep = front.deep in
    front-here asked r n deepest zero len start place front (omega arith) low high
blocks-front asked r n deepest (suc left) len start place front le low high =
    elim (cases_lt len n) [
      | inr no_shorter ↦ front-here asked r n deepest (suc left) len start place front (omega arith) low high
      | inl shorter ↦
          let rest : PlainRange = behind r n in
          let width : len < width_of r.space = omega arith in
          let halves = size_halves r.space len width in
          let pos = size_pos r.space n in
          let middle : ℕ = start + block_size r.space (len + 1) in
          let first = place-first r.space deepest left len start place in
          let second = place-second r.space deepest left len start place in
          let split = blocks-halves asked r deepest left len start place
          (false_from_ne_true (asked len && is_inside r len start)
          (λ e.
          let both = and_parts (asked len) (is_inside r len start) e in
          let parts = inside_parts r len start both.1 in
          let here : start ≡ r.first = omega arith in
          front.widest len shorter both.0 (subst (λ at. at % block_size r.space len ≡ 0) here place.aligned) (omega arith))) in
          let split_rest = blocks-halves asked rest deepest left len start place
          (false_from_ne_true (asked len && is_inside rest len start)
          (λ e.
          let parts = inside_parts rest len start (and_parts (asked len) (is_inside rest len start) e).1 in
          omega arith)) in
          elim (cases_lt r.first middle) [
            | inl below ↦
                let ends : r.first + block_size r.space n ≤ middle =
                multiples_apart r.first middle (block_size r.space n) front.aligned
                (multiple_of_longer r.space middle (len + 1) n (omega arith) second.aligned) below in
                split
                ∙ ap (λ bs. bs ++ blocks_inside asked r left (len + 1) middle)
                (blocks-front asked r n deepest left (len + 1) start first front (omega arith) low ends)
                ∙ ap (λ bs. (block_of r.space r.first n ∷ blocks_inside asked rest left (len + 1) start) ++ bs)
                (blocks-agree asked r rest.first rest.last deepest left (len + 1) middle second
                (λ k at h.
                let after = h.after in
                ap (λ b. b && nat_le (at + (block_size r.space k - 1)) r.last)
                (le-leb r.first at (omega arith) ∙ sym (le-leb rest.first at (omega arith)))))
                ∙ ap (λ bs. block_of r.space r.first n ∷ bs) (sym split_rest)
            | inr above ↦
                split
                ∙ ap (λ bs. bs ++ blocks_inside asked r left (len + 1) middle)
                (blocks-beside asked r deepest left (len + 1) start first (inr above))
                ∙ blocks-front asked r n deepest left (len + 1) middle second front (omega arith) above (omega arith)
                ∙ ap (λ bs. block_of r.space r.first n ∷ (bs ++ blocks_inside asked rest left (len + 1) middle))
                (sym (blocks-beside asked rest deepest left (len + 1) start first (inr (omega arith))))
                ∙ ap (λ bs. block_of r.space r.first n ∷ bs) (sym split_rest)
          ]
    ]

-- ---- from the whole space down

pub place-whole : (space : Space) (deepest : ℕ) → deepest ≤ width_of space → IsPlace space deepest deepest 0 0
place-whole space deepest h = record { levels = omega arith; fits = h; aligned = zero-mod (block_size space 0) }

-- an aligned block ends within the space
pub block-ends : (space : Space) (len start : ℕ) → IsBlockStart space start len → start + block_size space len ≤ block_size space 0
block-ends space len start h =
    let top = top-below space in
    let whole = size_of_whole space in
    multiples_apart start (block_size space 0) (block_size space len) h.2 (size_is_multiple space 0 len (omega arith)) (omega arith)

-- what is behind the front block, where there is something, and else the empty range
left_behind : (f : PlainRange → List PlainRange) (r : PlainRange) (n : ℕ) → (r.last < r.first + block_size r.space n → f (behind r n) ≡ [])
    → option_map_or f (behind_front r n) [] ≡ f (behind r n)
left_behind f r n empty =
    let pos = size_pos r.space n in
    let last : ℕ = r.first + (block_size r.space n - 1) in
    let next : last + 1 ≡ r.first + block_size r.space n = omega arith in
    elim (cases_lt last r.last) [
      | inl lt ↦
          ap (λ rest. option_map_or f rest []) (cond-true (nat_lt last r.last) (Some (with_ends r (last + 1) r.last)) None (lt-ltb last r.last lt))
          ∙ ap (λ first. f (with_ends r first r.last)) next
      | inr le ↦
          ap (λ rest. option_map_or f rest []) (cond-false (nat_lt last r.last) (Some (with_ends r (last + 1) r.last)) None (le-ltb last r.last le))
          ∙ sym (empty (omega arith))
    ]

-- a list that halving gives for each range within the same space begins with the front block
pub blocks-step : (asked : ℕ → Bool) (f : PlainRange → List PlainRange) (r : PlainRange) (deepest n : ℕ)
    → ((first last : ℕ) → f (with_ends r first last) ≡ blocks_inside asked (with_ends r first last) deepest 0 0)
    → deepest ≤ width_of r.space → IsFront asked r deepest n → r.first ≤ top_of r.space
    → f r ≡ block_of r.space r.first n ∷ option_map_or f (behind_front r n) []
blocks-step asked f r deepest n halving h front top =
    let place = place-whole r.space deepest h in
    let deep = front.deep in
    let ends = block-ends r.space n r.first (omega arith, top, front.aligned) in
    let rest : PlainRange = behind r n in
    halving r.first r.last
    ∙ blocks-front asked r n deepest deepest 0 0 place front (omega arith) (omega arith) (omega arith)
    ∙ ap (λ bs. block_of r.space r.first n ∷ bs)
    (sym (halving rest.first rest.last)
    ∙ sym (left_behind f r n (λ empty. halving rest.first rest.last ∙ blocks-empty asked rest deepest deepest 0 0 place empty)))

-- the least cover begins with the widest block at the range's front
pub least_cover-front : (r : PlainRange) (n : ℕ) → IsFrontBlock r n → ((len : ℕ) → len < n → IsFrontBlock r len → ⊥)
    → least_cover r ≡ block_of r.space r.first n ∷ option_map_or least_cover (behind_front r n) []
unfolding least_cover
least_cover-front r n front widest =
    let starts = front.starts in
    blocks-step (λ _. true) least_cover r (width_of r.space) n (λ _ _. refl) (omega arith)
    (record {
      is_asked = refl;
      deep = starts.0;
      aligned = starts.2;
      fits = front.ends;
      widest = λ k shorter _ aligned ends. widest k shorter (record { starts = (omega arith, starts.1, aligned); ends = ends });
    })
    starts.1
