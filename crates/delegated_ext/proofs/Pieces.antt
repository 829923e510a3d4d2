-- The records of a space's pieces, and of the whole pool.
use Rattle.std.proofs.Common.{◌≡◌, ℕ, ◌+◌, ◌≤◌, Bool, true, false, cond, ◌&&◌, nat_le, List, [], ◌∷◌, ◌++◌, map, filter, append-nil, inl, inr, refl, sym, ◌∙◌, ap, subst, ◌↔◌, arith}
use Rattle.std.specs.List.{All, flat_map, sum_by}
use Rattle.std.proofs.lemmas.Bool.{cases_Bool, cond-true, cond-false}
use Rattle.std.proofs.lemmas.List.Elements.{filter-append}
use Rattle.num_range.specs.declared.space.Space.{Space}
use Rattle.num_range.specs.declared.space.Space.TheVariants.{Asn, Ipv4, Ipv6}
use Rattle.num_range.specs.Space.{same_space, top_of}
use Rattle.num_range.specs.Number.{PlainNumber}
use Rattle.num_range.specs.Range.{PlainRange, IsRange, Holds, size_of, range_holds}
use Rattle.num_range.specs.Cover.{least_cover}
use Rattle.cidr_cover.specs.Blocks.{IsCoverOf, IsRising}
use Rattle.reg_entry.specs.declared.card.Card.{Card}
use Rattle.reg_entry.specs.declared.piece.Piece.{Piece}
use Rattle.reg_entry.specs.Pieces.{piece_holds, cards_at, size_sum, RisesFrom, IsPieceOf, AllPiecesOf}
use Rattle.reg_entry.specs.Partition.{IsPartition}
use Rattle.reg_entry.specs.Register.{Register, register_pieces}
use Rattle.delegated_ext.specs.declared.record_line.RecordLine.{RecordLine}
use Rattle.delegated_ext.specs.Records.{record_line, written_ranges, piece_records, records_in, record_lines}
use Rattle.delegated_ext.specs.Conserved.{record_has, cards_in_records, records_size}
use Rattle.delegated_ext.proofs.Ranges.{has-range, cards_of_rising, sizes_inside, sizes_outside, cover_rises, cover_holds, cover_inside}

-- ---- lists of records

cards-append : (ls ms : List RecordLine) (n : PlainNumber) → cards_in_records (ls ++ ms) n ≡ cards_in_records ls n ++ cards_in_records ms n
cards-append ls ms n = ap (map (λ (l : RecordLine). l.card)) (filter-append (record_has n) ls ms) ∙ parted (filter (record_has n) ls)
  where
    parted : (us : List RecordLine) → map (λ (l : RecordLine). l.card) (us ++ filter (record_has n) ms)
        ≡ map (λ (l : RecordLine). l.card) us ++ map (λ (l : RecordLine). l.card) (filter (record_has n) ms)
    parted [] = refl
    parted (u ∷ us) = ap (λ (cs : List Card). u.card ∷ cs) (parted us)

size-append : (ls ms : List RecordLine) (space : Space) → records_size (ls ++ ms) space ≡ records_size ls space + records_size ms space
size-append [] ms space = omega arith
size-append (l ∷ ls) ms space = let rest = size-append ls ms space in omega arith

-- ---- a piece

-- what the least cover of each range is
pub record CoverLaws : Type 0 where
  pub exact : (r : PlainRange) → IsRange r → IsCoverOf r (least_cover r)
  pub rises : (r : PlainRange) → IsRising (least_cover r)
  pub sizes : (r : PlainRange) → IsRange r → sum_by size_of (least_cover r) ≡ size_of r
  pub holds : (r : PlainRange) (n : PlainNumber) → (range_holds r n ≡ true) ↔ Holds r n

module _ (laws : CoverLaws) where
  one_record : (card : Card) (r : PlainRange) (n : PlainNumber) → IsRange r
      → cards_in_records (record_line card r ∷ []) n ≡ cond (range_holds r n) (card ∷ []) []
  one_record card r n valid =
      elim (cases_Bool (range_holds r n)) [
        | inl t ↦
            ap (map (λ (l : RecordLine). l.card)) (cond-true (record_has n (record_line card r)) _ _ (has-range card r n valid.0 ∙ t))
            ∙ sym (cond-true (range_holds r n) (card ∷ []) [] t)
        | inr f ↦
            ap (map (λ (l : RecordLine). l.card)) (cond-false (record_has n (record_line card r)) _ _ (has-range card r n valid.0 ∙ f))
            ∙ sym (cond-false (range_holds r n) (card ∷ []) [] f)
      ]

  range_cards : (space : Space) (card : Card) (r : PlainRange) (n : PlainNumber) → IsRange r
      → cards_in_records (map (record_line card) (written_ranges space r)) n ≡ cond (range_holds r n) (card ∷ []) []
  range_cards Asn card r n valid = one_record card r n valid
  range_cards Ipv4 card r n valid = one_record card r n valid
  range_cards Ipv6 card r n valid =
      let cover = laws.exact r valid in
      cards_of_rising card 0 (least_cover r) n (cover_rises r (least_cover r) cover (laws.rises r))
      ∙ ap (λ b. cond b (card ∷ []) []) (cover_holds laws.holds r (least_cover r) n cover)

  cover_space : (r : PlainRange) (space : Space) (b : Bool) → IsRange r → same_space r.space space ≡ b
      → All (λ (c : PlainRange). same_space c.space space ≡ b) (least_cover r)
  cover_space r space b valid h k d lt =
      ap (λ s. same_space s space) (sym (cover_inside r (least_cover r) (laws.exact r valid) k d lt).0) ∙ h

  range_size : (kind : Space) (card : Card) (r : PlainRange) (space : Space) → IsRange r → same_space r.space space ≡ true
      → records_size (map (record_line card) (written_ranges kind r)) space ≡ size_of r
  range_size Asn card r space valid h = let one = cond-true (same_space r.space space) (size_of r) 0 h in omega arith
  range_size Ipv4 card r space valid h = let one = cond-true (same_space r.space space) (size_of r) 0 h in omega arith
  range_size Ipv6 card r space valid h =
      sizes_inside card space (least_cover r) (cover_space r space true valid h) ∙ laws.sizes r valid

  range_elsewhere : (kind : Space) (card : Card) (r : PlainRange) (space : Space) → IsRange r → same_space r.space space ≡ false
      → records_size (map (record_line card) (written_ranges kind r)) space ≡ 0
  range_elsewhere Asn card r space valid h = let one = cond-false (same_space r.space space) (size_of r) 0 h in omega arith
  range_elsewhere Ipv4 card r space valid h = let one = cond-false (same_space r.space space) (size_of r) 0 h in omega arith
  range_elsewhere Ipv6 card r space valid h =
      sizes_outside card space (least_cover r) (cover_space r space false valid h)

  -- ---- the pieces of a space

  valid_piece : (space : Space) (low : ℕ) (p : Piece) (ps : List Piece) → RisesFrom low (p ∷ ps) → IsPieceOf space p → IsRange p.range
  valid_piece space low p ps rises of = (rises.1, subst (λ s. p.range.last ≤ top_of s) (sym of.of_space) of.within)

  piece_cards : (space : Space) (p : Piece) (n : PlainNumber) → IsRange p.range → p.range.space ≡ space → same_space space n.space ≡ true
      → cards_in_records (piece_records p) n ≡ cond (piece_holds p n.value) (p.card ∷ []) []
  piece_cards space p n valid is h =
      let here : same_space p.range.space n.space ≡ true = ap (λ s. same_space s n.space) is ∙ h in
      range_cards p.range.space p.card p.range n valid
      ∙ ap (λ b. cond (b && nat_le p.range.first n.value && nat_le n.value p.range.last) (p.card ∷ []) []) here

  piece_no_cards : (space : Space) (p : Piece) (n : PlainNumber) → IsRange p.range → p.range.space ≡ space → same_space space n.space ≡ false
      → cards_in_records (piece_records p) n ≡ []
  piece_no_cards space p n valid is h =
      let here : same_space p.range.space n.space ≡ false = ap (λ s. same_space s n.space) is ∙ h in
      range_cards p.range.space p.card p.range n valid
      ∙ ap (λ b. cond (b && nat_le p.range.first n.value && nat_le n.value p.range.last) (p.card ∷ []) []) here

  space_cards : (space : Space) (low : ℕ) (ps : List Piece) (n : PlainNumber) → RisesFrom low ps → AllPiecesOf space ps
      → same_space space n.space ≡ true → cards_in_records (flat_map piece_records ps) n ≡ cards_at ps n.value
  space_cards space low [] n rises of h = refl
  space_cards space low (p ∷ ps) n rises of h =
      cards-append (piece_records p) (flat_map piece_records ps) n
      ∙ ap (λ (cs : List Card). cs ++ cards_in_records (flat_map piece_records ps) n)
      (piece_cards space p n (valid_piece space low p ps rises of.0) of.0.of_space h)
      ∙ ap (λ (cs : List Card). cond (piece_holds p n.value) (p.card ∷ []) [] ++ cs) (space_cards space (p.range.last + 1) ps n rises.2 of.1 h)
      ∙ joins (piece_holds p n.value)
    where
      joins : (b : Bool) → cond b (p.card ∷ []) [] ++ cards_at ps n.value
          ≡ map (λ (q : Piece). q.card) (cond b (p ∷ filter (λ (q : Piece). piece_holds q n.value) ps) (filter (λ (q : Piece). piece_holds q n.value) ps))
      joins true = refl
      joins false = refl

  space_no_cards : (space : Space) (low : ℕ) (ps : List Piece) (n : PlainNumber) → RisesFrom low ps → AllPiecesOf space ps
      → same_space space n.space ≡ false → cards_in_records (flat_map piece_records ps) n ≡ []
  space_no_cards space low [] n rises of h = refl
  space_no_cards space low (p ∷ ps) n rises of h =
      cards-append (piece_records p) (flat_map piece_records ps) n
      ∙ ap (λ (cs : List Card). cs ++ cards_in_records (flat_map piece_records ps) n)
      (piece_no_cards space p n (valid_piece space low p ps rises of.0) of.0.of_space h)
      ∙ space_no_cards space (p.range.last + 1) ps n rises.2 of.1 h

  space_size : (space : Space) (low : ℕ) (ps : List Piece) (asked : Space) → RisesFrom low ps → AllPiecesOf space ps
      → same_space space asked ≡ true → records_size (flat_map piece_records ps) asked ≡ size_sum ps
  space_size space low [] asked rises of h = refl
  space_size space low (p ∷ ps) asked rises of h =
      let whole = size-append (piece_records p) (flat_map piece_records ps) asked in
      let one = range_size p.range.space p.card p.range asked (valid_piece space low p ps rises of.0) (ap (λ s. same_space s asked) of.0.of_space ∙ h) in
      let rest = space_size space (p.range.last + 1) ps asked rises.2 of.1 h in
      omega arith

  space_no_size : (space : Space) (low : ℕ) (ps : List Piece) (asked : Space) → RisesFrom low ps → AllPiecesOf space ps
      → same_space space asked ≡ false → records_size (flat_map piece_records ps) asked ≡ 0
  space_no_size space low [] asked rises of h = refl
  space_no_size space low (p ∷ ps) asked rises of h =
      let whole = size-append (piece_records p) (flat_map piece_records ps) asked in
      let one = range_elsewhere p.range.space p.card p.range asked (valid_piece space low p ps rises of.0) (ap (λ s. same_space s asked) of.0.of_space ∙ h) in
      let rest = space_no_size space (p.range.last + 1) ps asked rises.2 of.1 h in
      omega arith

  -- ---- the pool

  module _ (r : Register) (pool : IsPartition r.pool) where
    here_cards : (space : Space) (n : PlainNumber) → same_space space n.space ≡ true
        → cards_in_records (records_in r space) n ≡ cards_at (register_pieces r space) n.value
    here_cards space n h = space_cards space 0 (register_pieces r space) n (pool.each space).rises (pool.each space).each h

    no_cards : (space : Space) (n : PlainNumber) → same_space space n.space ≡ false → cards_in_records (records_in r space) n ≡ []
    no_cards space n h = space_no_cards space 0 (register_pieces r space) n (pool.each space).rises (pool.each space).each h

    three : (n : PlainNumber) → cards_in_records (record_lines r) n
        ≡ cards_in_records (records_in r Asn) n ++ (cards_in_records (records_in r Ipv4) n ++ cards_in_records (records_in r Ipv6) n)
    three n =
        cards-append (records_in r Asn) (records_in r Ipv4 ++ records_in r Ipv6) n
        ∙ ap (λ (cs : List Card). cards_in_records (records_in r Asn) n ++ cs) (cards-append (records_in r Ipv4) (records_in r Ipv6) n)

    pub pool_cards : (n : PlainNumber) (space : Space) → n.space ≡ space
        → cards_in_records (record_lines r) n ≡ cards_at (register_pieces r space) n.value
    pool_cards n Asn is =
        three n ∙ rw (here_cards Asn n (ap (same_space Asn) is), no_cards Ipv4 n (ap (same_space Ipv4) is), no_cards Ipv6 n (ap (same_space Ipv6) is)) (append-nil _)
    pool_cards n Ipv4 is =
        three n ∙ rw (no_cards Asn n (ap (same_space Asn) is), here_cards Ipv4 n (ap (same_space Ipv4) is), no_cards Ipv6 n (ap (same_space Ipv6) is)) (append-nil _)
    pool_cards n Ipv6 is =
        three n ∙ rw (no_cards Asn n (ap (same_space Asn) is), no_cards Ipv4 n (ap (same_space Ipv4) is), here_cards Ipv6 n (ap (same_space Ipv6) is)) refl

    here_size : (space asked : Space) → same_space space asked ≡ true → records_size (records_in r space) asked ≡ size_sum (register_pieces r space)
    here_size space asked h = space_size space 0 (register_pieces r space) asked (pool.each space).rises (pool.each space).each h

    no_size : (space asked : Space) → same_space space asked ≡ false → records_size (records_in r space) asked ≡ 0
    no_size space asked h = space_no_size space 0 (register_pieces r space) asked (pool.each space).rises (pool.each space).each h

    three_sizes : (asked : Space) → records_size (record_lines r) asked
        ≡ records_size (records_in r Asn) asked + (records_size (records_in r Ipv4) asked + records_size (records_in r Ipv6) asked)
    three_sizes asked =
        size-append (records_in r Asn) (records_in r Ipv4 ++ records_in r Ipv6) asked
        ∙ ap (λ k. records_size (records_in r Asn) asked + k) (size-append (records_in r Ipv4) (records_in r Ipv6) asked)

    pub pool_sizes : (asked : Space) → records_size (record_lines r) asked ≡ size_sum (register_pieces r asked)
    pool_sizes Asn =
        let all = three_sizes Asn in
        let a = here_size Asn Asn refl in
        let b = no_size Ipv4 Asn refl in
        let c = no_size Ipv6 Asn refl in
        all ∙ rw (a, b, c) (omega arith)
    pool_sizes Ipv4 =
        let all = three_sizes Ipv4 in
        let a = no_size Asn Ipv4 refl in
        let b = here_size Ipv4 Ipv4 refl in
        let c = no_size Ipv6 Ipv4 refl in
        all ∙ rw (a, b, c) (omega arith)
    pool_sizes Ipv6 =
        let all = three_sizes Ipv6 in
        let a = no_size Asn Ipv6 refl in
        let b = no_size Ipv4 Ipv6 refl in
        let c = here_size Ipv6 Ipv6 refl in
        all ∙ rw (a, b, c) (omega arith)
