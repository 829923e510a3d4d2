-- What each board keeps: a register that a legal list of entries gives.
use Rattle.std.specs.Prelude.{◌≡◌, ℕ, List, length}
use Rattle.num_range.specs.declared.space.Space.{Space}
use Rattle.reg_entry.specs.declared.rooms.Rooms.{Rooms}
use Rattle.reg_entry.specs.Rooms.{AreRooms}
use Rattle.reg_entry.specs.Register.{Register}
use Rattle.reg_entry.specs.Sums.{held, allocated, used}
use Rattle.reg_entry.specs.declared.sub_card.SubCard.{SubCard}
use Rattle.reg_entry.specs.Entry.{PlainEntry}
use Rattle.reg_entry.specs.Next.{IsNextEntry}
use Rattle.reg_entry.specs.Operations.{PlainBoard}
use Rattle.reg_entry.specs.Whole.{IsWholeRegister}
use Rattle.holder_book.specs.HoldingBook.{PlainHoldingBook, held_in, allocated_in, used_in}
use Rattle.sub_book.specs.Book.{PlainRangeBook}
use Rattle.piece_book.specs.Book.{PlainBook}
use Rattle.holder_book.specs.Book.{PlainHolderBook}
use Rattle.reg_laws.specs.Reached.{IsReached}
use Rattle.op_feed.specs.ReachedBoard.{IsReachedBoard}
use Rattle.board.specs.Noted.{PlainOperations}

-- the register of these parts
abbrev pub register_of : Rooms → ℕ → ℕ → ℕ → PlainBook → PlainHolderBook → PlainRangeBook SubCard → PlainRangeBook (List (List ℕ)) → Register
register_of rooms entries first_day last_day pieces holders subs reverse = record {
  rooms = rooms;
  entries = entries;
  first_day = first_day;
  last_day = last_day;
  pool = pieces.partition;
  holders = holders.holders;
  subs = subs.ranges;
  reverses = reverse.ranges;
}

-- the parts of a register but for its pieces and subs
pub record Rest : Type 0 where
  pub rooms : Rooms
  pub entries : ℕ
  pub first_day : ℕ
  pub last_day : ℕ
  pub holders : PlainHolderBook
  pub reverse : PlainRangeBook (List (List ℕ))

abbrev pub register_with : Rest → PlainBook → PlainRangeBook SubCard → Register
register_with rest pieces subs = register_of rest.rooms rest.entries rest.first_day rest.last_day pieces rest.holders subs rest.reverse

-- the entry may come next after a whole register of these pieces and subs, which has room for so many pieces
pub record IsNextFor (pieces : PlainBook) (subs : PlainRangeBook SubCard) (e : PlainEntry) (rest : Rest) : Type 0 where
  pub whole : IsWholeRegister (register_with rest pieces subs)
  pub next : IsNextEntry (register_with rest pieces subs) e
  pub room : pieces.room ≡ rest.rooms.pieces

-- the holdings are what the pieces and the subs say of each holder
pub record AreHoldingsIn (r : Register) (book : PlainHoldingBook) : Type 0 where
  pub count : length book.holdings ≡ length r.holders
  pub held : (holder : ℕ) (space : Space) → held_in book holder space ≡ held r holder space
  pub allocated : (holder : ℕ) (space : Space) → allocated_in book holder space ≡ allocated r holder space
  pub used : (holder : ℕ) (space : Space) → used_in book holder space ≡ used r holder space

-- the holdings are those of the register before the entry, and there is room for as many holders as it may have
pub record AreHeldFor (pieces : PlainBook) (subs : PlainRangeBook SubCard) (e : PlainEntry) (book : PlainHoldingBook) (rest : Rest) : Type 0 where
  pub next : IsNextFor pieces subs e rest
  pub holdings : AreHoldingsIn (register_with rest pieces subs) book
  pub room : book.room ≡ rest.rooms.holders

-- the register is reached, and the books have the rooms that it has
pub record IsKeptIn (r : Register) (piece_room holder_room sub_room reverse_room : ℕ) (book : PlainHoldingBook) : Type 0 where
  pub reached : IsReached r
  pub rooms : AreRooms r.rooms
  pub pieces : piece_room ≡ r.rooms.pieces
  pub holders : holder_room ≡ r.rooms.holders
  pub subs : sub_room ≡ r.rooms.subs
  pub reverse : reverse_room ≡ r.rooms.reverse
  pub holding_room : book.room ≡ r.rooms.holders
  pub holdings : AreHoldingsIn r book

abbrev pub board_of : Register → PlainOperations → PlainBoard
board_of r ops = record { register = r; serial = ops.serial; kept = ops.kept }

-- the board is reached, and it keeps as many operations as its register has a window for
pub record IsKeptBoard (r : Register) (piece_room holder_room sub_room reverse_room : ℕ) (book : PlainHoldingBook) (ops : PlainOperations) : Type 0 where
  pub books : IsKeptIn r piece_room holder_room sub_room reverse_room book
  pub board : IsReachedBoard (board_of r ops)
  pub window : ops.window ≡ r.rooms.window
