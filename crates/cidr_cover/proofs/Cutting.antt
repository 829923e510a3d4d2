-- The cuts of a range that starts where a cut may, and of one that doesn't.
use Rattle.std.proofs.Common.{◌≡◌, ℕ, ◌+◌, ◌-◌, ◌%◌, ◌<◌, ◌≤◌, true, ◌&&◌, nat_le, ◌==◌, [], ◌∷◌, subst, inl, inr, ◌↔◌, Option, None, Some, IsSome, IfSome, refl, sym, ◌∙◌, ap, arith}
use Rattle.std.specs.Int.{next_multiple_of}
use Rattle.std.specs.Option.{option_map_or}
use Rattle.std.proofs.lemmas.Bool.{and_parts, or_cases, leb-true, le-leb, lt-leb, eqb-true, cases_lt, false≢true}
use Rattle.num_range.specs.declared.space.Space.{Space}
use Rattle.num_range.specs.declared.space.Space.TheVariants.{Asn, Ipv4, Ipv6}
use Rattle.num_range.specs.Space.{width_of, top_of}
use Rattle.num_range.specs.Range.{PlainRange, IsRange}
use Rattle.num_range.specs.Block.{block_size, block_of}
use Rattle.num_range.specs.Cover.{blocks_inside, is_cut_length, longest_cut, reverse_cuts}
use Rattle.num_range.proofs.BlockEnds.{top-below}
use Rattle.cidr_cover.specs.Front.{IsFrontBlock, behind_front}
use Rattle.cidr_cover.proofs.Sizes.{size_pos, size_of_whole, size_falls, multiples_apart, next_multiple, multiple_of_longer}
use Rattle.cidr_cover.proofs.Halving.{is_inside, inside_from, inside_parts, IsWithin, IsNotHeld, not-held-whole, blocks-none, blocks-empty, blocks-all, blocks-contain, with_ends, blocks-agree}
use Rattle.cidr_cover.proofs.Greedy.{place-whole, block-ends, blocks-step}
use Rattle.cidr_cover.proofs.Covering.{block-within, blocks-are_rising}
use Rattle.cidr_cover.specs.Blocks.{IsRising}
use Rattle.cidr_cover.specs.Cuts.{IsReverseCut}
use Rattle.std.specs.List.{Contains}
use Rattle.std.proofs.lemmas.List.Elements.{All-from_recursion, All-contains}

pub longest_cut_within : (space : Space) → longest_cut space ≤ width_of space
longest_cut_within Asn = omega arith
longest_cut_within Ipv4 = omega arith
longest_cut_within Ipv6 = omega arith

pub cut_length_within : (space : Space) (len : ℕ) → is_cut_length space len ≡ true → len ≤ longest_cut space
cut_length_within Asn len e = absurd (false≢true e)
cut_length_within Ipv4 len e =
    elim (or_cases (len == 16) (len == 24) e) [
      | inl octets ↦ let is : len ≡ 16 = eqb-true len 16 octets in omega arith
      | inr octets ↦ let is : len ≡ 24 = eqb-true len 24 octets in omega arith
    ]
cut_length_within Ipv6 len e =
    leb-true len 64 (and_parts (nat_le 16 len) (nat_le len 64) (and_parts (nat_le 16 len && nat_le len 64) (len % 4 == 0) e).0).1

-- where a cut has a length, the longest cut has one
longest_is_cut : (space : Space) (len : ℕ) → is_cut_length space len ≡ true → is_cut_length space (longest_cut space) ≡ true
longest_is_cut Asn len e = e
longest_is_cut Ipv4 len e = refl
longest_is_cut Ipv6 len e = refl

-- the first cut is the widest at the range's front
pub reverse_cuts-front : (r : PlainRange) (cut : ℕ) → IsFrontBlock r cut → is_cut_length r.space cut ≡ true
    → ((len : ℕ) → is_cut_length r.space len ≡ true → IsFrontBlock r len → cut ≤ len)
    → reverse_cuts r ≡ block_of r.space r.first cut ∷ option_map_or reverse_cuts (behind_front r cut) []
unfolding reverse_cuts
reverse_cuts-front r cut front is_cut widest =
    let starts = front.starts in
    blocks-step (is_cut_length r.space) reverse_cuts r (longest_cut r.space) cut (λ _ _. refl) (longest_cut_within r.space)
    (record {
      is_asked = is_cut;
      deep = cut_length_within r.space cut is_cut;
      aligned = starts.2;
      fits = front.ends;
      widest = λ k shorter is_asked aligned fits.
          let no_shorter = widest k is_asked (record { starts = (omega arith, starts.1, aligned); ends = fits }) in
          omega arith;
    })
    starts.1

-- a range that starts at a multiple of the smallest cuts' size has none where none is at its front
pub reverse_cuts-none : (r : PlainRange) → r.first % block_size r.space (longest_cut r.space) ≡ 0
    → ((len : ℕ) → is_cut_length r.space len ≡ true → IsFrontBlock r len → ⊥) → reverse_cuts r ≡ []
unfolding reverse_cuts
reverse_cuts-none r aligned none =
    let longest : ℕ = longest_cut r.space in
    let whole = size_of_whole r.space in
    let top = top-below r.space in
    let within = longest_cut_within r.space in
    blocks-none (is_cut_length r.space) r longest longest 0 0 (place-whole r.space longest within)
    (λ k at h is_asked inside.
    let parts = inside_parts r k at inside in
    let before = h.before in
    let smaller = size_falls r.space k longest h.deep in
    let pos = size_pos r.space k in
    let small = size_pos r.space longest in
    none longest (longest_is_cut r.space k is_asked) (record { starts = (within, omega arith, aligned); ends = omega arith }))

-- a front block of a length that is no shorter than another front block's
pub front-longer : (r : PlainRange) (n len : ℕ) → IsFrontBlock r n → n ≤ len → len ≤ width_of r.space → IsFrontBlock r len
front-longer r n len front le within =
    let starts = front.starts in
    let ends = front.ends in
    let smaller = size_falls r.space n len le in
    let pos = size_pos r.space len in
    record {
      starts = (within, starts.1, multiple_of_longer r.space r.first n len le starts.2);
      ends = omega arith;
    }

pub front-cut : (r : PlainRange) (n : ℕ) (cut : Option ℕ) → IsFrontBlock r n → IfSome cut (λ len. is_cut_length r.space len ≡ true)
    → IfSome cut (λ len. n ≤ len) → IfSome cut (λ len. IsFrontBlock r len)
front-cut r n None front is_cut no_less = tt
front-cut r n (Some len) front is_cut no_less =
    let deep = cut_length_within r.space len is_cut in
    let within = longest_cut_within r.space in
    front-longer r n len front no_less (omega arith)

-- ---- a range has the cuts that it has from the next multiple of the smallest cuts' size on

abbrev pub cut_start : PlainRange → ℕ
cut_start r = next_multiple_of r.first (block_size r.space (longest_cut r.space))

cuts-from : (r : PlainRange) → reverse_cuts r ≡ reverse_cuts (with_ends r (cut_start r) r.last)
unfolding reverse_cuts
cuts-from r =
    let longest : ℕ = longest_cut r.space in
    let next = next_multiple r.first (block_size r.space longest) (size_pos r.space longest) in
    blocks-agree (is_cut_length r.space) r (cut_start r) r.last longest longest 0 0 (place-whole r.space longest (longest_cut_within r.space))
    (λ k at h.
    ap (λ b. b && nat_le (at + (block_size r.space k - 1)) r.last)
    (elim (cases_lt at (cut_start r)) [
      | inl before ↦
          let apart : at + block_size r.space longest ≤ cut_start r =
          multiples_apart at (cut_start r) (block_size r.space longest) (multiple_of_longer r.space at k longest h.deep h.aligned) next.2 before in
          lt-leb r.first at (omega arith) ∙ sym (lt-leb (cut_start r) at before)
      | inr after ↦ le-leb r.first at (omega arith) ∙ sym (le-leb (cut_start r) at after)
    ]))

-- there is none where that multiple is past the range
pub reverse_cuts-past : (r : PlainRange) → r.last < cut_start r → reverse_cuts r ≡ []
unfolding reverse_cuts
reverse_cuts-past r past =
    let longest : ℕ = longest_cut r.space in
    let rest : PlainRange = with_ends r (cut_start r) r.last in
    cuts-from r
    ∙ blocks-empty (is_cut_length r.space) rest longest longest 0 0 (place-whole r.space longest (longest_cut_within r.space)) past

-- what is left from there on, where that is a range
pub reverse_cuts-from : (r : PlainRange) (rest : Option PlainRange) → IsRange r → (IsSome rest ↔ ((cut_start r ≤ r.last) × (r.last ≤ top_of r.space)))
    → IfSome rest (λ s. s ≡ with_ends r (cut_start r) r.last) → reverse_cuts r ≡ option_map_or reverse_cuts rest []
reverse_cuts-from r None range fits is =
    elim (cases_lt r.last (cut_start r)) [
      | inl past ↦ reverse_cuts-past r past
      | inr within ↦ absurd (false≢true (fits.1 (within, range.1)))
    ]
reverse_cuts-from r (Some s) range fits is = cuts-from r ∙ ap reverse_cuts (sym is)

-- ---- which blocks are cuts

cut-is : (r : PlainRange) (k at : ℕ) → IsWithin r.space (longest_cut r.space) 0 0 k at → is_cut_length r.space k ≡ true → is_inside r k at ≡ true
    → IsNotHeld (is_cut_length r.space) r k at → IsReverseCut r (block_of r.space at k)
cut-is r k at within is_asked inside clear =
    let parts = inside_parts r k at inside in
    let pos = size_pos r.space k in
    record {
      length = k;
      is_cut = record {
        cut_length = is_asked;
        starts = block-within r.space (longest_cut r.space) k at (longest_cut_within r.space) within;
        is_block = refl;
        inside = (refl, parts.0, parts.1);
      };
      widest = λ wider shorter lt cut h.
          let last : wider.last ≡ wider.first + (block_size r.space shorter - 1) = ap (λ (b : PlainRange). b.last) cut.is_block in
          let size = size_pos r.space shorter in
          clear shorter wider.first lt cut.cut_length cut.starts.2
          (inside_from r shorter wider.first cut.inside.1 (let high = cut.inside.2 in omega arith))
          h.1 (let end = h.2 in omega arith);
    }

cut-found : (r b : PlainRange) → IsReverseCut r b → Contains (reverse_cuts r) b
unfolding reverse_cuts
cut-found r b is_cut =
    let longest : ℕ = longest_cut r.space in
    let len : ℕ = is_cut.length in
    let cut = is_cut.is_cut in
    let starts = cut.starts in
    let pos = size_pos r.space len in
    let last : b.last ≡ b.first + (block_size r.space len - 1) = ap (λ (c : PlainRange). c.last) cut.is_block in
    subst (Contains (reverse_cuts r)) (sym cut.is_block)
    (blocks-contain (is_cut_length r.space) r longest longest 0 0 len b.first (place-whole r.space longest (longest_cut_within r.space))
    cut.cut_length
    (inside_from r len b.first cut.inside.1 (let high = cut.inside.2 in omega arith))
    (λ k at shorter is_asked aligned inside low high.
    let parts = inside_parts r k at inside in
    let size = size_pos r.space k in
    let wide = longest_cut_within r.space in
    let top = starts.1 in
    is_cut.widest (block_of r.space at k) k shorter
    (record { cut_length = is_asked; starts = (omega arith, omega arith, aligned); is_block = refl; inside = (refl, parts.0, parts.1) })
    (sym (ap (λ (c : PlainRange). c.space) (sym cut.is_block)), low, omega arith))
    (record {
      deep = cut_length_within r.space len cut.cut_length;
      after = omega arith;
      before = let ends = block-ends r.space len b.first starts in omega arith;
      aligned = starts.2;
    })
    (omega arith))

pub reverse_cuts-are : (r b : PlainRange) → Contains (reverse_cuts r) b ↔ IsReverseCut r b
unfolding reverse_cuts
reverse_cuts-are r b =
    let longest : ℕ = longest_cut r.space in
    let found = blocks_inside (is_cut_length r.space) r longest 0 0 in (
      λ h.
          All-contains (IsReverseCut r) found b
          (All-from_recursion (IsReverseCut r) found
          (blocks-all (IsReverseCut r) (is_cut_length r.space) r longest longest 0 0 (place-whole r.space longest (longest_cut_within r.space))
          (not-held-whole (is_cut_length r.space) r) (cut-is r)))
          h,
      cut-found r b,
    )

pub reverse_cuts-rise : (r : PlainRange) → IsRising (reverse_cuts r)
unfolding reverse_cuts
reverse_cuts-rise r = blocks-are_rising (is_cut_length r.space) r (longest_cut r.space) (longest_cut_within r.space)
