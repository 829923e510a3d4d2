use Rattle.std.proofs.Common.{◌≡◌, ℕ, List, Bool, Option, Some, sym, ◌∙◌, ap}
use Rattle.std.specs.Option.{option_map}
use Rattle.reg_entry.specs.declared.holder.Holder.{Holder}
use Rattle.reg_entry.specs.declared.piece.Piece.{Piece}
use Rattle.reg_entry.specs.Objects.{same_object, block_of_piece}
use Rattle.plain_register.proofs.Counting.{compared_block}
use Rattle.plain_register.proofs.register.PlainRegister.compare_block.Goals as goal

abbrev like : List (Holder × ℕ) → Piece → List (Holder × ℕ) → Piece → Bool
like hs p others q = same_object (block_of_piece hs p) (block_of_piece others q)

pub returns-in_err-other : goal.returns-in_err-other
returns-in_err-other c =
    let r = c.args.self.now in
    c.from_residual.ensures
    ∙ sym (compared_block r c.args.holders.now c.args.piece.now
    ∙ ap (λ (o : Option Piece). option_map (like c.args.holders.now c.args.piece.now r.holders) o) (sym c.find_block.ensures ∙ c.in_err-other.was))

pub returns : goal.returns
returns c =
    let r = c.args.self.now in
    let holders : c.deref.result.now ≡ r.holders = c.deref.ensures.value ∙ ap (λ s. s.holders) c.self.view_is in
    ap (λ (b : Bool). Some b)
    (c.same_block.ensures ∙ ap (λ (hs : List (Holder × ℕ)). like c.args.holders.now c.args.piece.now hs c.in_ok-other.other) holders)
    ∙ sym (compared_block r c.args.holders.now c.args.piece.now
    ∙ ap (λ (o : Option Piece). option_map (like c.args.holders.now c.args.piece.now r.holders) o) (sym c.find_block.ensures ∙ c.in_ok-other.was))
