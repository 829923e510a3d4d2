-- The definitions tried on worked examples: each computes.
use Rattle.std.proofs.Common.{◌≡◌, ℕ, List, [], ◌∷◌, None, Some, refl}
use Rattle.num_range.specs.declared.space.Space.TheVariants.{Ipv4}
use Rattle.reg_entry.specs.declared.card.Card.{Card}
use Rattle.reg_entry.specs.declared.card.Status.TheVariants.{Allocated, Reserved}
use Rattle.reg_entry.specs.declared.piece.Piece.{Piece}
use Rattle.num_range.specs.Range.{PlainRange}
use Rattle.reg_entry.specs.Card.{plain_card}
use Rattle.reg_entry.specs.Pieces.{card_at, laid, overlap, size_sum}
use Rattle.reg_entry.specs.Blocks.{least_block}

abbrev range4 : ℕ → ℕ → PlainRange
range4 first last = record { space = Ipv4; first = first; last = last }

abbrev piece4 : ℕ → ℕ → Card → Piece
piece4 first last card = record { range = range4 first last; card = card }

abbrev allocated : Card
allocated = record { status = Allocated; holder = Some 0; day = 19783; until = 0 }

abbrev reserved : Card
reserved = record { status = Reserved; holder = None; day = 19783; until = 0 }

-- 192.0.2.0/24 received, and the least /26 of it allocated
abbrev received : List Piece
received = laid [] (range4 0xc0000200 0xc00002ff) plain_card

abbrev delegated : List Piece
delegated = laid received (range4 0xc0000200 0xc000023f) allocated

first_block : least_block received Ipv4 64 ≡ Some 0xc0000200
first_block = refl

after_delegation : delegated ≡ piece4 0xc0000200 0xc000023f allocated ∷ piece4 0xc0000240 0xc00002ff plain_card ∷ []
after_delegation = refl

last_number_taken : overlap delegated (range4 0xc00002ff 0xc00002ff) ≡ Some 0xc00002ff
last_number_taken = refl

no_whole_block : least_block delegated Ipv4 256 ≡ None
no_whole_block = refl

-- with .64 reserved the next /26 starts at .128, since the block at .64 isn't wholly available and .65 isn't aligned
next_block : least_block (laid delegated (range4 0xc0000240 0xc0000240) reserved) Ipv4 64 ≡ Some 0xc0000280
next_block = refl

-- touching blocks that are received one after the other are one piece
touching : laid received (range4 0xc0000300 0xc00003ff) plain_card ≡ piece4 0xc0000200 0xc00003ff plain_card ∷ []
touching = refl

card_of_delegated : card_at delegated 0xc000023f ≡ Some allocated
card_of_delegated = refl

card_of_rest : card_at delegated 0xc0000240 ≡ Some plain_card
card_of_rest = refl

card_of_none : card_at delegated 0xc0000300 ≡ None
card_of_none = refl

size_stays : size_sum delegated ≡ 256
size_stays = refl
