-- What a request speaks of: the piece and the holder that its rules, its cover and its card ask for.
use Rattle.std.specs.Prelude.{◌≡◌, ℕ, List, Option, None, IfSome}
use Rattle.num_range.specs.Number.{PlainNumber, number_before}
use Rattle.num_range.specs.Range.{first_number}
use Rattle.reg_entry.specs.declared.piece.Piece.{Piece}
use Rattle.reg_entry.specs.declared.request.Request.{Request}
use Rattle.reg_entry.specs.declared.request.Request.TheVariants.{Receive, AddHolder, EditHolder, Delegate, Reserve, Unreserve, SubAssign, SubReturn, Return, Release, Split, Join, Transfer, SetReverse, ClearReverse}
use Rattle.reg_entry.specs.Holders.{holder_number}
use Rattle.reg_entry.specs.Register.{Register, piece_of}
use Rattle.board.specs.declared.subject.Subject.{Subject}
use Rattle.board.specs.FoundPiece.{IsFoundIn, HasKnownHolder}

-- the piece that holds the number, where there is one, and what is known of it
pub record IsPieceAt (r : Register) (n : PlainNumber) (piece : Option Piece) : Type 0 where
  pub is : piece ≡ piece_of r.pool n
  pub found : IfSome piece (IsFoundIn n.space 0 n.value)
  pub known : IfSome piece (HasKnownHolder r)

abbrev pub HasNoPiece : Subject → Type 0
HasNoPiece s = (s.piece ≡ None) × (s.left ≡ None)

abbrev pub HasPieceAt : Register → PlainNumber → Subject → Type 0
HasPieceAt r n s = IsPieceAt r n s.piece × (s.left ≡ None)

-- the pieces on either side of the number
abbrev pub HasPiecesRound : Register → PlainNumber → Subject → Type 0
HasPiecesRound r n s = IsPieceAt r n s.piece × IsPieceAt r (number_before n) s.left

abbrev pub HasNoHolder : Subject → Type 0
HasNoHolder s = s.holder ≡ None

abbrev pub HasHolder : Register → List ℕ → Subject → Type 0
HasHolder r handle s = s.holder ≡ holder_number r.holders handle

-- a transfer speaks of who gets the numbers
abbrev pub IsSubjectOf : Register → Request → Subject → Type 0
IsSubjectOf r (Receive range) s = HasNoPiece s × HasNoHolder s
IsSubjectOf r (AddHolder holder) s = HasNoPiece s × HasHolder r holder.handle s
IsSubjectOf r (EditHolder holder) s = HasNoPiece s × HasHolder r holder.handle s
IsSubjectOf r (Delegate space amount status handle) s = HasNoPiece s × HasHolder r handle s
IsSubjectOf r (Reserve range) s = HasPieceAt r (first_number range) s × HasNoHolder s
IsSubjectOf r (Unreserve range) s = HasPieceAt r (first_number range) s × HasNoHolder s
IsSubjectOf r (SubAssign range handle) s = HasPieceAt r (first_number range) s × HasHolder r handle s
IsSubjectOf r (SubReturn range) s = HasNoPiece s × HasNoHolder s
IsSubjectOf r (Return range handle) s = HasPieceAt r (first_number range) s × HasHolder r handle s
IsSubjectOf r (Release range) s = HasPieceAt r (first_number range) s × HasNoHolder s
IsSubjectOf r (Split at) s = HasPieceAt r at s × HasNoHolder s
IsSubjectOf r (Join at) s = HasPiecesRound r at s × HasNoHolder s
IsSubjectOf r (Transfer range from to) s = HasPieceAt r (first_number range) s × HasHolder r to s
IsSubjectOf r (SetReverse range servers) s = HasPieceAt r (first_number range) s × HasNoHolder s
IsSubjectOf r (ClearReverse range) s = HasNoPiece s × HasNoHolder s
