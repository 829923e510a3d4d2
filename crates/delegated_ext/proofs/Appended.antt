-- Texts of a list's items, appended one by one.
use Rattle.std.proofs.Common.{◌≡◌, ℕ, ◌^◌, ◌<◌, List, [], ◌∷◌, ◌++◌, map, append_assoc, append-nil, refl, sym, ◌∙◌, ap, arith}
use Rattle.std.specs.List.{flat_map, sum_by, AllByRecursion}
use Rattle.std.proofs.lemmas.Grind.{flat_map-append}
use Rattle.std.proofs.lemmas.List.Sums.{sum_by-cons}
use Rattle.num_range.specs.declared.space.Space.{Space}
use Rattle.num_range.specs.declared.space.Space.TheVariants.{Asn, Ipv4, Ipv6}
use Rattle.num_range.specs.Range.{PlainRange, IsRange, size_of}
use Rattle.num_range.specs.Cover.{least_cover}
use Rattle.reg_entry.specs.declared.piece.Piece.{Piece}
use Rattle.reg_entry.specs.Pieces.{IsPieceOf, AllPiecesOf}
use Rattle.reg_entry.specs.Register.{Register, register_pieces}
use Rattle.reg_entry.specs.Whole.{IsWholeRegister, HaveCardsIn}
use Rattle.delegated_ext.specs.declared.record_line.RecordLine.{RecordLine}
use Rattle.delegated_ext.specs.Records.{records_in, record_lines}
use Rattle.delegated_ext.specs.Writable.{IsWritable}

-- ---- one item more

-- what was appended to the text before, and the texts of what is left, are those of all
abbrev pub IsAppended : {X : Type 0} → (X → List ℕ) → List ℕ → List ℕ → List X → List X → Type 0
IsAppended text before now left all = now ++ flat_map text left ≡ before ++ flat_map text all

pub none_appended : {X : Type 0} (text : X → List ℕ) (before : List ℕ) (left all : List X) → left ≡ all → IsAppended text before before left all
none_appended {X} text before left all e = ap (λ (xs : List X). before ++ flat_map text xs) e

pub one_appended : {X : Type 0} (text : X → List ℕ) (before was now : List ℕ) (left rest all : List X) (x : X) → left ≡ x ∷ rest
    → now ≡ was ++ text x → IsAppended text before was left all → IsAppended text before now rest all
one_appended {X} text before was now left rest all x e more h =
    ap (λ (us : List ℕ). us ++ flat_map text rest) more
    ∙ append_assoc was (text x) (flat_map text rest)
    ∙ sym (ap (λ (xs : List X). was ++ flat_map text xs) e)
    ∙ h

pub all_appended : {X : Type 0} (text : X → List ℕ) (before now : List ℕ) (left all : List X) → left ≡ [] → IsAppended text before now left all
    → now ≡ before ++ flat_map text all
all_appended {X} text before now left all e h =
    sym (append-nil now) ∙ sym (ap (λ (xs : List X). now ++ flat_map text xs) e) ∙ h

-- ---- texts of lists of lists

pub texts_of_lists : {X Y : Type 0} (text : Y → List ℕ) (f : X → List Y) (xs : List X)
    → flat_map text (flat_map f xs) ≡ flat_map (λ x. flat_map text (f x)) xs
texts_of_lists text f [] = refl
texts_of_lists {X} {Y} text f (x ∷ xs) =
    flat_map-append text (f x) (flat_map f xs) ∙ ap (λ (us : List ℕ). flat_map text (f x) ++ us) (texts_of_lists text f xs)

pub texts_of_mapped : {X Y : Type 0} (text : Y → List ℕ) (f : X → Y) (xs : List X) → flat_map text (map f xs) ≡ flat_map (λ x. text (f x)) xs
texts_of_mapped text f [] = refl
texts_of_mapped text f (x ∷ xs) = ap (λ (us : List ℕ). text (f x) ++ us) (texts_of_mapped text f xs)

pub texts_of_spaces : (text : RecordLine → List ℕ) (r : Register)
    → flat_map text (record_lines r) ≡ flat_map text (records_in r Asn) ++ (flat_map text (records_in r Ipv4) ++ flat_map text (records_in r Ipv6))
texts_of_spaces text r =
    flat_map-append text (records_in r Asn) (records_in r Ipv4 ++ records_in r Ipv6)
    ∙ ap (λ (us : List ℕ). flat_map text (records_in r Asn) ++ us) (flat_map-append text (records_in r Ipv4) (records_in r Ipv6))

-- ---- what can be written

-- ranges whose sizes add up to a bounded sum are bounded
pub all_counted : (n : ℕ) (bs : List PlainRange) → sum_by size_of bs < n → AllByRecursion (λ b. size_of b < n) bs
all_counted n [] h = tt
all_counted n (b ∷ bs) h = let sum = sum_by-cons size_of b bs in (omega arith, all_counted n bs (omega arith))

pub blocks_counted : ((r : PlainRange) → IsRange r → sum_by size_of (least_cover r) ≡ size_of r)
    → (r : PlainRange) → IsRange r → size_of r < 2 ^ 128 → AllByRecursion (λ b. size_of b < 2 ^ 128) (least_cover r)
blocks_counted sizes r valid h =
    let sum = sizes r valid in
    all_counted (2 ^ 128) (least_cover r) (omega arith)

piece_counted : (space : Space) (p : Piece) → IsPieceOf space p → size_of p.range < 2 ^ 128
piece_counted Asn p h = let top = h.within in omega arith
piece_counted Ipv4 p h = let top = h.within in omega arith
piece_counted Ipv6 p h = let top = (h.pooled h.of_space).1 in omega arith

pieces_writable : (r : Register) → IsWholeRegister r → (space : Space) (ps : List Piece) → AllPiecesOf space ps → HaveCardsIn r ps
    → AllByRecursion IsWritable ps
pieces_writable r whole space [] of cards = tt
pieces_writable r whole space (p ∷ ps) of cards =
    let day = cards.0.day in
    let last = whole.days.1 in
    ((omega arith, piece_counted space p of.0), pieces_writable r whole space ps of.1 cards.1)

-- the days and the ranges of a register's pieces can be written
pub register_writable : (r : Register) (space : Space) → IsWholeRegister r → AllByRecursion IsWritable (register_pieces r space)
register_writable r space whole =
    pieces_writable r whole space (register_pieces r space) (whole.pieces.each space).each (whole.cards space)
