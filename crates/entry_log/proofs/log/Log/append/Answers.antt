use Rattle.std.proofs.Common.{sym, ◌∙◌, ap, rules}
use Rattle.entry_log.proofs.Appending.{appends_moves}
use Rattle.entry_log.proofs.log.Log.append.Goals as goal

pub compare_exchange-found-requires : goal.compare_exchange-found-requires
compare_exchange-found-requires c =
    let h = c.self.invariant in
    let offer = c.plain-offer.ensures in
    let pen = c.no_pen-pen.ensures in (
      ap (λ w. w.tracked) h,
      c.requires.book ∙ sym c.self.view_is,
      pen.0 ∙ (c.requires.book ∙ sym c.self.view_is),
      offer.0,
      rw (ap (λ w. w.key) h, pen.1, offer.1, offer.3) (appends_moves c.args.seen.now.log c.args.append c.args.appends (sym c.requires.appends)),
    )

pub returns-clause-log : goal.returns-clause-log
returns-clause-log c = search rules
