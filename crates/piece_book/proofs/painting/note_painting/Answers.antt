use Rattle.std.proofs.Common.{◌≡◌, ◌+◌, ◌≤◌, List, [], ◌∷◌, ◌++◌, Option, Some, length, take, sym, ◌∙◌, ap, subst, arith}
use Rattle.std.specs.Option.{IfSome}
use Rattle.num_range.specs.Range.{PlainRange, IsRange}
use Rattle.reg_entry.specs.declared.card.Status.{Status}
use Rattle.reg_entry.specs.declared.piece.Piece.{Piece}
use Rattle.reg_entry.specs.Pieces.{ArePieces}
use Rattle.piece_book.specs.GivesWay.{giving_way, first_of, last_of, rest_below, new_first, rest_above, new_last}
use Rattle.piece_book.proofs.Painted.{built, first_near, last_near, last_space}
use Rattle.piece_book.proofs.painting.note_painting.Goals as goal

of_found : (P : Piece → Type 0) (found : Option Piece) (p : Piece) → IfSome found P → found ≡ Some p → P p
of_found P found p h e = subst (λ (o : Option Piece). IfSome o P) e h

abbrev IsAlone : PlainRange → Status → List Piece → Piece → Type 0
IsAlone r s ps p = giving_way r s ps ≡ p ∷ []

pub low_end-low-requires : goal.low_end-low-requires
low_end-low-requires c =
    let s : Status = c.args.card.now.status in
    let near : (p : Piece) → c.piece_around-around.result ≡ Some p → c.args.range.now.first ≤ p.range.last + 1 =
    λ p e. first_near c.args.range.now s c.args.book.now.pieces p (ap first_of (of_found (IsAlone c.args.range.now s c.args.book.now.pieces) _ p c.piece_around-around.ensures.alone e)) in
    record { near = near }

pub high_end-high-requires-clause-near : goal.high_end-high-requires-clause-near
high_end-high-requires-clause-near c =
    let s : Status = c.args.card.now.status in
    λ p e. last_near c.args.range.now s c.args.book.now.pieces p (ap last_of (of_found (IsAlone c.args.range.now s c.args.book.now.pieces) _ p c.piece_around-around.ensures.alone e))

pub high_end-high-requires-clause-space : goal.high_end-high-requires-clause-space
high_end-high-requires-clause-space c =
    let s : Status = c.args.card.now.status in
    λ p e.
    last_space c.args.book.now.space c.args.range.now s c.args.book.now.pieces p (of_found (λ _. ArePieces c.args.book.now.space c.args.book.now.pieces) _ p c.piece_around-around.ensures.pieces e).each
    (ap last_of (of_found (IsAlone c.args.range.now s c.args.book.now.pieces) _ p c.piece_around-around.ensures.alone e))
    ∙ c.requires.space

pub line_up-requires-clause-ordered : goal.line_up-requires-clause-ordered
line_up-requires-clause-ordered c =
    let valid : IsRange c.args.range.now = of_found (λ _. IsRange c.args.range.now) _ c.in-Some.piece c.piece_around-around.ensures.valid c.in-Some.is in
    omega (arith, valid.0, c.low_end-low.ensures.within, c.high_end-high.ensures.within)

pub returns-in-Some-clause-built : goal.returns-in-Some-clause-built
returns-in-Some-clause-built c =
    let r : PlainRange = c.args.range.now in
    let s : Status = c.args.card.now.status in
    let ps : List Piece = c.args.book.now.pieces in
    let p : Piece = c.in-Some.piece in
    let around = c.piece_around-around.ensures in
    let alone : giving_way r s ps ≡ p ∷ [] = of_found (IsAlone r s ps) _ p around.alone c.in-Some.is in
    let pieces : ArePieces c.args.book.now.space ps = of_found (λ _. ArePieces c.args.book.now.space ps) _ p around.pieces c.in-Some.is in
    let valid : IsRange r = of_found (λ _. IsRange r) _ p around.valid c.in-Some.is in
    let first : c.piece_around-around.result ≡ first_of (giving_way r s ps) = c.in-Some.is ∙ sym (ap first_of alone) in
    let last : c.piece_around-around.result ≡ last_of (giving_way r s ps) = c.in-Some.is ∙ sym (ap last_of alone) in
    built ps r c.args.card.now _ _ _ _ 1 _ _ (subst (λ x. ArePieces x ps) c.requires.space pieces) valid.0 c.requires.plain c.requires.one
    (record {
      low_is = c.low_end-low.ensures.rest ∙ ap (λ (o : Option Piece). rest_below r s o) first;
      first_is = c.low_end-low.ensures.value ∙ ap (λ (o : Option Piece). new_first r s o) first;
      high_is = c.high_end-high.ensures.rest ∙ ap (λ (o : Option Piece). rest_above r s o) last;
      last_is = c.high_end-high.ensures.value ∙ ap (λ (o : Option Piece). new_last r s o) last;
      count_is = sym (ap (λ (xs : List Piece). length xs) alone);
      few_is = c.push.ensures.items ∙ ap (λ (xs : List Piece). xs ++ p ∷ []) c.requires.before ∙ sym (ap (λ (xs : List Piece). take 3 xs) alone);
    }) c.line_up.ensures
