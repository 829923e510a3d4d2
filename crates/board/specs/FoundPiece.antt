-- What is known of the piece that holds a number.
use Rattle.std.specs.Prelude.{ℕ, ◌<◌, ◌≤◌, not, nat_eq, Option, Some, length, IfSome}
use Rattle.std.specs.Option.{option_and_then, option_eq}
use Rattle.num_range.specs.declared.space.Space.{Space}
use Rattle.reg_entry.specs.declared.piece.Piece.{Piece}
use Rattle.reg_entry.specs.declared.refusal.Refusal.{Refusal}
use Rattle.reg_entry.specs.declared.refusal.Refusal.TheVariants.{NotHolder}
use Rattle.reg_entry.specs.Decision.{refuse_if}
use Rattle.reg_entry.specs.Holders.{handle_at}
use Rattle.reg_entry.specs.Pieces.{IsPieceOf}
use Rattle.reg_entry.specs.Register.{Register}

-- the piece has the number, is one of the space, and lies no lower than a bound
pub record IsFoundIn (space : Space) (low x : ℕ) (p : Piece) : Type 0 where
  pub begins : p.range.first ≤ x
  pub ends : x ≤ p.range.last
  pub above : low ≤ p.range.first
  pub of_space : IsPieceOf space p

-- the register has the piece's holder, where it has one
abbrev pub HasKnownHolder : Register → Piece → Type 0
HasKnownHolder r p = IfSome p.card.holder (λ number. number < length r.holders)

-- refuses where the piece that was found has a holder of another number than this
abbrev pub of_other_holder : Register → Option ℕ → Option Piece → Option Refusal
of_other_holder r found piece =
    option_and_then
    (λ p.
    option_and_then (λ holder. refuse_if (not (option_eq nat_eq (Some holder) found)) (NotHolder (handle_at r.holders holder))) p.card.holder)
    piece
