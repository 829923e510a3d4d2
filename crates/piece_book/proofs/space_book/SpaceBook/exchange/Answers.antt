use Rattle.std.proofs.Common.{◌≡◌, ◌+◌, ◌≤◌, ℕ, List, length, map, sym, ◌∙◌, ap, subst, arith}
use Rattle.std.proofs.lemmas.List.{length-map}
use Rattle.std.specs.Ordering.{nat_cmp}
use Rattle.reg_entry.specs.declared.piece.Piece.{Piece}
use Rattle.reg_entry.specs.Pieces.{RisesFrom, ArePieces}
use Rattle.page_dir.specs.Sorted.{rank}
use Rattle.page_dir.specs.Splices.{spliced}
use Rattle.piece_book.specs.declared.part.Part.{Part}
use Rattle.piece_book.specs.Exchange.{start_of, exchanged, place_of}
use Rattle.piece_book.specs.Pairs.{piece_of_pair, pieces_of_pairs, pair_of_piece}
use Rattle.piece_book.specs.SpaceBook.{PlainSpace}
use Rattle.piece_book.proofs.Pairing.{exchange_is, exchange_there, rises_of}
use Rattle.piece_book.proofs.space_book.SpaceBook.exchange.Goals as goal

start : (c : goal.After-deref-3) → c.start_of-start.result ≡ start_of c.args.change.now.after.items
start c = c.start_of-start.ensures ∙ ap (λ (xs : List Piece). start_of xs) c.deref-2.ensures.0

pieces : (c : goal.After-deref-3)
    → ArePieces c.self.inside.space
    (exchanged c.args.change.now.before.items c.args.change.now.after.items (pieces_of_pairs c.self.inside.space c.self.inside.parts.pairs))
pieces c =
    subst (λ (b : PlainSpace). ArePieces b.space (exchanged c.args.change.now.before.items c.args.change.now.after.items b.pieces)) (sym c.self.view_is) c.requires.pieces

-- the pairs after are the pieces after
after : (c : goal.After-deref-3)
    → pieces_of_pairs c.self.inside.space (spliced (rank nat_cmp c.start_of-start.result c.self.inside.parts.pairs) c.len-gone.result c.deref-3.result.now c.self.inside.parts.pairs)
    ≡ exchanged c.args.change.now.before.items c.args.change.now.after.items (pieces_of_pairs c.self.inside.space c.self.inside.parts.pairs)
after c =
    exchange_is c.self.inside.space c.self.inside.parts.pairs c.deref-3.result.now c.args.change.now.before.items c.args.change.now.after.items _ _ (start c) c.len-gone.ensures.value
    (c.deref-3.ensures.0 ∙ c.pairs_of_pieces-pairs.ensures ∙ ap (λ (xs : List Piece). map pair_of_piece xs) c.deref.ensures.0) (pieces c).each

pub replace_run-requires-clause-there : goal.replace_run-requires-clause-there
replace_run-requires-clause-there c =
    let gone = c.args.change.now.before.items in
    let come = c.args.change.now.after.items in
    exchange_there c.self.inside.space c.self.inside.parts.pairs gone come _ _ (start c) c.len-gone.ensures.value
    (subst (λ (b : PlainSpace). place_of come b.pieces + length gone ≤ length b.pieces) (sym c.self.view_is) c.requires.there)

pub replace_run-requires-clause-rises : goal.replace_run-requires-clause-rises
replace_run-requires-clause-rises c =
    rises_of c.self.inside.space 0 _ (subst (λ (xs : List Piece). RisesFrom 0 xs) (sym (after c)) (pieces c).rises)

pub replace_run-requires-clause-room : goal.replace_run-requires-clause-room
replace_run-requires-clause-room c =
    let gone = c.args.change.now.before.items in
    let come = c.args.change.now.after.items in
    let pairs : List (ℕ × Part) = spliced (rank nat_cmp c.start_of-start.result c.self.inside.parts.pairs) c.len-gone.result c.deref-3.result.now c.self.inside.parts.pairs in
    let long = length-map pairs (piece_of_pair c.self.inside.space) in
    let same = ap (λ (xs : List Piece). length xs) (after c) in
    let fits = subst (λ (b : PlainSpace). length (exchanged gone come b.pieces) ≤ b.room) (sym c.self.view_is) c.requires.room in
    omega (arith, long, same, fits)

pub invariant_of-self : goal.invariant_of-self
invariant_of-self c =
    subst (λ (xs : List Piece). ArePieces c.self.inside.space xs)
    (sym (ap (λ (ps : List (ℕ × Part)). pieces_of_pairs c.self.inside.space ps) c.replace_run.ensures.pairs ∙ after c.before)) (pieces c.before)

pub returns : goal.returns
returns c =
    let gone = c.args.change.now.before.items in
    let come = c.args.change.now.after.items in
    let space = c.self.inside.space in
    ap (λ (ps : List (ℕ × Part)). let b : PlainSpace = record { space = space; pieces = pieces_of_pairs space ps; room = c.replace_run.new.self.room } in b) c.replace_run.ensures.pairs
    ∙ ap (λ (xs : List Piece). let b : PlainSpace = record { space = space; pieces = xs; room = c.replace_run.new.self.room } in b) (after c.before)
    ∙ ap (λ (n : ℕ). let b : PlainSpace = record { space = space; pieces = exchanged gone come (pieces_of_pairs space c.self.inside.parts.pairs); room = n } in b) c.replace_run.ensures.room
    ∙ ap (λ (p : PlainSpace). let b : PlainSpace = record { space = p.space; pieces = exchanged gone come p.pieces; room = p.room } in b) c.self.view_is
