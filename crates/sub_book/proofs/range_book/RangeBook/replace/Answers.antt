use Rattle.std.proofs.Common.{List, sym, ◌∙◌, subst}
use Rattle.num_range.specs.Range.{PlainRange}
use Rattle.reg_entry.specs.Ranges.{AreApart}
use Rattle.sub_book.proofs.Replaced.{replaced}
use Rattle.sub_book.proofs.range_book.RangeBook.replace.Goals as goal

pub replace_run-requires-clause-there : goal.replace_run-requires-clause-there
replace_run-requires-clause-there g c =
    (replaced c.args.r.now c.args.gone c.args.value _ c.ending_at.result c.deref.result.now _ c.args.self.now c.self.view_is c.first_number.ensures c.ending_at.ensures
    (c.deref.ensures.value ∙ c.hold.ensures.items) c.requires.there c.requires.apart c.requires.room).there

pub replace_run-requires-clause-rises : goal.replace_run-requires-clause-rises
replace_run-requires-clause-rises g c =
    (replaced c.args.r.now c.args.gone c.args.value _ c.ending_at.result c.deref.result.now _ c.args.self.now c.self.view_is c.first_number.ensures c.ending_at.ensures
    (c.deref.ensures.value ∙ c.hold.ensures.items) c.requires.there c.requires.apart c.requires.room).rises

pub replace_run-requires-clause-room : goal.replace_run-requires-clause-room
replace_run-requires-clause-room g c =
    (replaced c.args.r.now c.args.gone c.args.value _ c.ending_at.result c.deref.result.now _ c.args.self.now c.self.view_is c.first_number.ensures c.ending_at.ensures
    (c.deref.ensures.value ∙ c.hold.ensures.items) c.requires.there c.requires.apart c.requires.room).within

pub invariant_of-self : goal.invariant_of-self
invariant_of-self g c = record {
  apart =
      subst (λ (ps : List (PlainRange × g.row.T.Denot)). AreApart ps) (sym c.replace_run.ensures.pairs)
      (replaced c.args.r.now c.args.gone c.args.value _ c.ending_at.result c.deref.result.now _ c.args.self.now c.self.view_is c.first_number.ensures c.ending_at.ensures
      (c.deref.ensures.value ∙ c.hold.ensures.items) c.requires.there c.requires.apart c.requires.room).apart;
  reserved = c.hold.ensures.capacity;
}

pub returns-clause-ranges : goal.returns-clause-ranges
returns-clause-ranges g c =
    c.replace_run.ensures.pairs
    ∙ (replaced c.args.r.now c.args.gone c.args.value _ c.ending_at.result c.deref.result.now _ c.args.self.now c.self.view_is c.first_number.ensures c.ending_at.ensures
    (c.deref.ensures.value ∙ c.hold.ensures.items) c.requires.there c.requires.apart c.requires.room).is
