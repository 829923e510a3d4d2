-- The numbers of one space as a list of pieces, and how painting a card over a range changes it.
use Rattle.std.specs.Prelude.{◌≡◌, ℕ, ◌+◌, ◌-◌, ◌^◌, ◌<◌, ◌≤◌, min, max, Bool, true, false, ◌&&◌, ◌==◌, nat_lt, nat_le, if◌then◌else◌, List, [], ◌∷◌, ◌++◌, Option, None, Some, MatchOption, IsSome, find, filter, map}
use Rattle.std.specs.List.{flat_map}
use Rattle.std.specs.Option.{option_map}
use Rattle.num_range.specs.declared.space.Space.{Space}
use Rattle.num_range.specs.declared.space.Space.TheVariants.{Ipv6}
use Rattle.num_range.specs.Space.{top_of}
use Rattle.num_range.specs.Range.{PlainRange, size_of}
use Rattle.reg_entry.specs.declared.card.Card.{Card}
use Rattle.reg_entry.specs.declared.piece.Piece.{Piece}
use Rattle.reg_entry.specs.Card.{is_available, plain_card}

-- ---- looking up

-- the value is one of the piece's numbers
abbrev pub piece_holds : Piece → ℕ → Bool
piece_holds p x = nat_le p.range.first x && nat_le x p.range.last

-- the piece and the range have a number in common
abbrev pub piece_meets : PlainRange → Piece → Bool
piece_meets r p = nat_le p.range.first r.last && nat_le r.first p.range.last

-- the piece that holds the value
abbrev pub piece_at : List Piece → ℕ → Option Piece
piece_at ps x = find (λ p. piece_holds p x) ps

-- the card of the piece that holds the value
abbrev pub card_at : List Piece → ℕ → Option Card
card_at ps x = option_map (λ p. p.card) (piece_at ps x)

-- the cards of all pieces that hold the value: of pieces that rise it is one card at most
abbrev pub cards_at : List Piece → ℕ → List Card
cards_at ps x = map (λ p. p.card) (filter (λ p. piece_holds p x) ps)

-- the first piece that has a number in common with the range
abbrev pub first_met : List Piece → PlainRange → Option Piece
first_met ps r = find (piece_meets r) ps

-- the least number of the range that some piece has
abbrev pub overlap : List Piece → PlainRange → Option ℕ
overlap ps r = option_map (λ p. max r.first p.range.first) (first_met ps r)

-- the least number of the range that some piece holds, or none where no piece holds any
abbrev pub IsLeastTaken : List Piece → PlainRange → Option ℕ → Type 0
IsLeastTaken ps r None = (x : ℕ) → r.first ≤ x → x ≤ r.last → piece_at ps x ≡ None
IsLeastTaken ps r (Some n) =
    (r.first ≤ n) × (n ≤ r.last) × IsSome (piece_at ps n) × ((x : ℕ) → r.first ≤ x → x < n → piece_at ps x ≡ None)

-- how many numbers the pieces have in all
abbrev pub size_sum : List Piece → ℕ
size_sum [] = 0
size_sum (p ∷ ps) = size_of p.range + size_sum ps

-- ---- painting

-- what a piece keeps below the range
abbrev pub part_below : PlainRange → Piece → List Piece
part_below r p =
    if nat_lt p.range.first r.first
    then record { range = record { space = p.range.space; first = p.range.first; last = min p.range.last (r.first - 1) }; card = p.card } ∷ []
    else []

-- what a piece keeps above the range
abbrev pub part_above : PlainRange → Piece → List Piece
part_above r p =
    if nat_lt r.last p.range.last
    then record { range = record { space = p.range.space; first = max p.range.first (r.last + 1); last = p.range.last }; card = p.card } ∷ []
    else []

-- the pieces touch, and both are available
abbrev pub can_join : Piece → Piece → Bool
can_join p q = (p.range.last + 1 == q.range.first) && is_available p.card.status && is_available q.card.status

-- one available piece in the place of two
abbrev pub joined_pair : Piece → Piece → Piece
joined_pair p q = record { range = record { space = p.range.space; first = p.range.first; last = q.range.last }; card = p.card }

-- the pieces after p, each two neighbours that touch and are both available made one
abbrev pub joined_after : Piece → List Piece → List Piece
joined_after p [] = p ∷ []
joined_after p (q ∷ qs) = if can_join p q then joined_after (joined_pair p q) qs else p ∷ joined_after q qs

abbrev pub joined : List Piece → List Piece
joined [] = []
joined (p ∷ ps) = joined_after p ps

-- the pieces after the card was painted over the range
abbrev pub laid : List Piece → PlainRange → Card → List Piece
laid ps r c = joined (flat_map (part_below r) ps ++ record { range = r; card = c } ∷ flat_map (part_above r) ps)

-- ---- what the pieces of a space are

-- the pieces lie at or above a number, rise and are disjoint
abbrev pub RisesFrom : ℕ → List Piece → Type 0
RisesFrom low [] = Unit {0}
RisesFrom low (p ∷ ps) = (low ≤ p.range.first) × (p.range.first ≤ p.range.last) × RisesFrom (p.range.last + 1) ps

-- no two neighbours after p touch and are both available
abbrev pub IsSettledAfter : Piece → List Piece → Type 0
IsSettledAfter p [] = Unit {0}
IsSettledAfter p (q ∷ qs) = (can_join p q ≡ false) × IsSettledAfter q qs

abbrev pub IsSettled : List Piece → Type 0
IsSettled [] = Unit {0}
IsSettled (p ∷ ps) = IsSettledAfter p ps

-- IPv6 numbers are pooled from global unicast alone, 2000::/3 (RFC 4291 2.4)
abbrev pub IsPoolRange : PlainRange → Type 0
IsPoolRange r = r.space ≡ Ipv6 → (2 ^ 125 ≤ r.first) × (r.last < 2 ^ 126)

-- an available card is the plain one
abbrev pub IsCard : Card → Type 0
IsCard c = is_available c.status ≡ true → c ≡ plain_card

-- what each piece of a space is
pub record IsPieceOf (space : Space) (p : Piece) : Type 0 where
  pub of_space : p.range.space ≡ space
  pub within : p.range.last ≤ top_of space
  pub pooled : IsPoolRange p.range
  pub plain : IsCard p.card

abbrev pub AllPiecesOf : Space → List Piece → Type 0
AllPiecesOf space [] = Unit {0}
AllPiecesOf space (p ∷ ps) = IsPieceOf space p × AllPiecesOf space ps

-- the pieces of a space: they rise and are disjoint, no two touching ones are both available, and each is a piece of it
pub record ArePieces (space : Space) (ps : List Piece) : Type 0 where
  pub rises : RisesFrom 0 ps
  pub settled : IsSettled ps
  pub each : AllPiecesOf space ps

-- the range lies inside one piece, or has no number in common with any
abbrev pub IsInOnePieceOrNone : List Piece → PlainRange → Type 0
IsInOnePieceOrNone ps r =
    MatchOption (first_met ps r) (Unit {0}) (λ p. (p.range.first ≤ r.first) × (r.last ≤ p.range.last))
