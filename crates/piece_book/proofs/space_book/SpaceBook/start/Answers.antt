use Rattle.std.proofs.Common.{◌-◌, ℕ, drop, sym, ◌∙◌, ap, arith}
use Rattle.piece_book.specs.Exchange.{begun_below}
use Rattle.piece_book.specs.GivesWay.{giving_way}
use Rattle.piece_book.proofs.Finding.{stay_before}
use Rattle.piece_book.proofs.space_book.SpaceBook.start.Goals as goal

pub returns-in-Some : goal.returns-in-Some
returns-in-Some c =
    λ range status begins ordered.
    let ps = c.args.self.now.pieces in
    ap (λ (n : ℕ). giving_way range status (drop (begun_below n ps) ps)) c.first.ensures.first
    ∙ stay_before 0 (c.args.value - 1) range status ps c.in-Some.piece c.last_begun.ensures.valid.rises (sym c.last_begun.ensures.found ∙ c.in-Some.is) (omega arith)
