use Rattle.std.proofs.Common.{◌<◌, ◌^◌, ℕ, List, filter, sym, subst, arith}
use Rattle.num_range.specs.Range.{PlainRange}
use Rattle.reg_entry.specs.declared.piece.Piece.{Piece}
use Rattle.reg_entry.specs.declared.sub_card.SubCard.{SubCard}
use Rattle.reg_entry.specs.Register.{register_pieces}
use Rattle.reg_entry.specs.Sums.{is_allocated_to, lies_in_one, ranges_size, used}
use Rattle.plain_register.proofs.register.PlainRegister.used.Goals as goal

abbrev used_in : List Piece → ℕ → List (PlainRange × SubCard) → ℕ
used_in ps holder subs = ranges_size (filter (λ s. lies_in_one (filter (is_allocated_to holder) ps) s.0) subs)

pub used_size-requires : goal.used_size-requires
used_size-requires c =
    let r = c.args.self.now in
    let part = c.use_is_bounded.ensures.part r c.args.holder c.args.space c.is_whole.ensures.whole in
    let more = c.holdings_are_bounded.ensures.part r c.args.holder c.args.space in
    let most = c.holdings_are_bounded.ensures.bound r c.args.holder c.args.space c.is_whole.ensures.whole in
    let bound : used r c.args.holder c.args.space < 2 ^ 128 = omega arith in
    subst (λ ss. used_in c.pieces_in.result.now c.args.holder ss < 2 ^ 128) (sym c.deref.ensures.value)
    (subst (λ ps. used_in ps c.args.holder c.self.inside.subs.items < 2 ^ 128) (sym c.pieces_in.ensures.pieces)
    (subst (λ s. used_in (register_pieces r c.args.space) c.args.holder s.subs < 2 ^ 128) (sym c.self.view_is) bound))
