-- A book stays one where the pieces of a space give way to others of it, within the room.
use Rattle.std.proofs.Common.{◌≡◌, ℕ, ◌+◌, ◌≤◌, List, length, refl, sym, subst, arith}
use Rattle.num_range.specs.declared.space.Space.{Space}
use Rattle.num_range.specs.declared.space.Space.TheVariants.{Asn, Ipv4, Ipv6}
use Rattle.reg_entry.specs.declared.piece.Piece.{Piece}
use Rattle.reg_entry.specs.Pieces.{ArePieces}
use Rattle.reg_entry.specs.Partition.{Partition, pieces_in, with_pieces, piece_count, IsPartition}
use Rattle.piece_book.specs.Book.{PlainBook}
use Rattle.piece_book.specs.Exchange.{exchanged}
use Rattle.piece_book.specs.Free.{PlainIndex, IsIndexOf, IsPoolChange}
use Rattle.piece_book.specs.Room.{IsReserved, partition_of}
use Rattle.piece_book.specs.SpaceBook.{PlainSpace}
use Rattle.piece_book.specs.Touched.{IsTouched}

each_kept : (p : Partition) (space : Space) (ps : List Piece) → IsPartition p → ArePieces space ps → (s : Space) → ArePieces s (pieces_in (with_pieces p space ps) s)
each_kept p Asn ps h a Asn = a
each_kept p Asn ps h a Ipv4 = h.each Ipv4
each_kept p Asn ps h a Ipv6 = h.each Ipv6
each_kept p Ipv4 ps h a Asn = h.each Asn
each_kept p Ipv4 ps h a Ipv4 = a
each_kept p Ipv4 ps h a Ipv6 = h.each Ipv6
each_kept p Ipv6 ps h a Asn = h.each Asn
each_kept p Ipv6 ps h a Ipv4 = h.each Ipv4
each_kept p Ipv6 ps h a Ipv6 = a

-- the pieces that a space is to have
pub record AreToBe (p : Partition) (space : Space) (ps : List Piece) (room : ℕ) : Type 0 where
  pub pieces : ArePieces space ps
  pub within : piece_count (with_pieces p space ps) ≤ room

pub to_be : (book inside : PlainBook) (space s : Space) (gone come : List Piece) → inside ≡ book → space ≡ s
    → ArePieces space (exchanged gone come (pieces_in book.partition space))
    → piece_count (with_pieces book.partition space (exchanged gone come (pieces_in book.partition space))) ≤ book.room
    → AreToBe inside.partition s (exchanged gone come (pieces_in inside.partition s)) inside.room
to_be book inside space s gone come e is h within =
    subst (λ (x : Space). AreToBe inside.partition x (exchanged gone come (pieces_in inside.partition x)) inside.room) is
    (subst (λ (b : PlainBook). AreToBe b.partition space (exchanged gone come (pieces_in b.partition space)) b.room) (sym e) (record { pieces = h; within = within }))

abbrev with_new : PlainSpace → List Piece → PlainSpace
with_new b ps = record { space = b.space; pieces = ps; room = b.room }

pub asn_kept : (asn ipv4 ipv6 new : PlainSpace) (ps : List Piece) (room : ℕ) → IsReserved asn ipv4 ipv6 room → AreToBe (partition_of asn ipv4 ipv6) Asn ps room
    → new ≡ with_new asn ps → IsReserved new ipv4 ipv6 room
asn_kept asn ipv4 ipv6 new ps room h a e =
    subst (λ (x : PlainSpace). IsReserved x ipv4 ipv6 room) (sym e) (record {
      pieces = record { each = each_kept (partition_of asn ipv4 ipv6) Asn ps h.pieces a.pieces };
      within = a.within;
      at_most = h.at_most;
      asn_is = record { of_space = h.asn_is.of_space; reserved = h.asn_is.reserved };
      ipv4_is = h.ipv4_is;
      ipv6_is = h.ipv6_is;
    })

pub ipv4_kept : (asn ipv4 ipv6 new : PlainSpace) (ps : List Piece) (room : ℕ) → IsReserved asn ipv4 ipv6 room → AreToBe (partition_of asn ipv4 ipv6) Ipv4 ps room
    → new ≡ with_new ipv4 ps → IsReserved asn new ipv6 room
ipv4_kept asn ipv4 ipv6 new ps room h a e =
    subst (λ (x : PlainSpace). IsReserved asn x ipv6 room) (sym e) (record {
      pieces = record { each = each_kept (partition_of asn ipv4 ipv6) Ipv4 ps h.pieces a.pieces };
      within = a.within;
      at_most = h.at_most;
      asn_is = h.asn_is;
      ipv4_is = record { of_space = h.ipv4_is.of_space; reserved = h.ipv4_is.reserved };
      ipv6_is = h.ipv6_is;
    })

pub ipv6_kept : (asn ipv4 ipv6 new : PlainSpace) (ps : List Piece) (room : ℕ) → IsReserved asn ipv4 ipv6 room → AreToBe (partition_of asn ipv4 ipv6) Ipv6 ps room
    → new ≡ with_new ipv6 ps → IsReserved asn ipv4 new room
ipv6_kept asn ipv4 ipv6 new ps room h a e =
    subst (λ (x : PlainSpace). IsReserved asn ipv4 x room) (sym e) (record {
      pieces = record { each = each_kept (partition_of asn ipv4 ipv6) Ipv6 ps h.pieces a.pieces };
      within = a.within;
      at_most = h.at_most;
      asn_is = h.asn_is;
      ipv4_is = h.ipv4_is;
      ipv6_is = record { of_space = h.ipv6_is.of_space; reserved = h.ipv6_is.reserved };
    })

-- how many pieces there are in all, where a space has others
pub count_with : (p : Partition) (space : Space) (ps : List Piece) → piece_count (with_pieces p space ps) + length (pieces_in p space) ≡ piece_count p + length ps
count_with p Asn ps = omega arith
count_with p Ipv4 ps = omega arith
count_with p Ipv6 ps = omega arith

-- ---- the index of free blocks

pieces_in-same : (p : Partition) (space : Space) (ps : List Piece) → pieces_in (with_pieces p space ps) space ≡ ps
pieces_in-same p Asn ps = refl
pieces_in-same p Ipv4 ps = refl
pieces_in-same p Ipv6 ps = refl

-- the pieces after, of one space and of all
abbrev new_in : Partition → Space → List Piece → List Piece → List Piece
new_in p space gone come = exchanged gone come (pieces_in p space)

abbrev pub new_pool : Partition → Space → List Piece → List Piece → Partition
new_pool p space gone come = with_pieces p space (new_in p space gone come)

-- the change of the pool that the index is told of
pub pool_change : (book inside : PlainBook) (free : PlainIndex) (space : Space) (gone come : List Piece) → inside ≡ book
    → IsIndexOf free.keys inside.partition → free.room ≡ inside.room → IsPartition inside.partition → piece_count inside.partition ≤ inside.room
    → ArePieces space (new_in book.partition space gone come) → piece_count (new_pool book.partition space gone come) ≤ book.room
    → IsTouched (pieces_in book.partition space) (new_in book.partition space gone come) gone come
    → (change : IsPoolChange free gone come) × (change.next ≡ new_pool inside.partition space gone come)
pool_change book inside free space gone come e indexed room was within =
    subst
    (λ (b : PlainBook). ArePieces space (new_in b.partition space gone come) → piece_count (new_pool b.partition space gone come) ≤ b.room
    → IsTouched (pieces_in b.partition space) (new_in b.partition space gone come) gone come
    → (change : IsPoolChange free gone come) × (change.next ≡ new_pool inside.partition space gone come))
    e
    (λ pieces fits touched. (
      record {
        pool = inside.partition;
        next = new_pool inside.partition space gone come;
        space = space;
        pieces = new_in inside.partition space gone come;
        changed = refl;
        touched = subst (λ (ps : List Piece). IsTouched (pieces_in inside.partition space) ps gone come)
            (sym (pieces_in-same inside.partition space (new_in inside.partition space gone come))) touched;
        indexed = indexed;
        was = was;
        is = record { each = each_kept inside.partition space (new_in inside.partition space gone come) was pieces };
        fitted = subst (λ (n : ℕ). piece_count inside.partition ≤ n) (sym room) within;
        fits = subst (λ (n : ℕ). piece_count (new_pool inside.partition space gone come) ≤ n) (sym room) fits;
      },
      refl,
    ))

pub asn_indexed : (asn ipv4 ipv6 new : PlainSpace) (space : Space) (gone come : List Piece) (free : PlainIndex) → space ≡ Asn
    → IsIndexOf free.keys (new_pool (partition_of asn ipv4 ipv6) space gone come) → new ≡ with_new asn (exchanged gone come asn.pieces)
    → IsIndexOf free.keys (partition_of new ipv4 ipv6)
asn_indexed asn ipv4 ipv6 new space gone come free is h e =
    subst (λ (x : PlainSpace). IsIndexOf free.keys (partition_of x ipv4 ipv6)) (sym e)
    (subst (λ (s : Space). IsIndexOf free.keys (new_pool (partition_of asn ipv4 ipv6) s gone come)) is h)

pub ipv4_indexed : (asn ipv4 ipv6 new : PlainSpace) (space : Space) (gone come : List Piece) (free : PlainIndex) → space ≡ Ipv4
    → IsIndexOf free.keys (new_pool (partition_of asn ipv4 ipv6) space gone come) → new ≡ with_new ipv4 (exchanged gone come ipv4.pieces)
    → IsIndexOf free.keys (partition_of asn new ipv6)
ipv4_indexed asn ipv4 ipv6 new space gone come free is h e =
    subst (λ (x : PlainSpace). IsIndexOf free.keys (partition_of asn x ipv6)) (sym e)
    (subst (λ (s : Space). IsIndexOf free.keys (new_pool (partition_of asn ipv4 ipv6) s gone come)) is h)

pub ipv6_indexed : (asn ipv4 ipv6 new : PlainSpace) (space : Space) (gone come : List Piece) (free : PlainIndex) → space ≡ Ipv6
    → IsIndexOf free.keys (new_pool (partition_of asn ipv4 ipv6) space gone come) → new ≡ with_new ipv6 (exchanged gone come ipv6.pieces)
    → IsIndexOf free.keys (partition_of asn ipv4 new)
ipv6_indexed asn ipv4 ipv6 new space gone come free is h e =
    subst (λ (x : PlainSpace). IsIndexOf free.keys (partition_of asn ipv4 x)) (sym e)
    (subst (λ (s : Space). IsIndexOf free.keys (new_pool (partition_of asn ipv4 ipv6) s gone come)) is h)
