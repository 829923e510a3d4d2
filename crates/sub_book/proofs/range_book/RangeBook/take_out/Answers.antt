use Rattle.std.proofs.Common.{◌∙◌}
use Rattle.sub_book.proofs.Changed.{take_change}
use Rattle.sub_book.proofs.range_book.RangeBook.take_out.Goals as goal

pub replace-requires-clause-there : goal.replace-requires-clause-there
replace-requires-clause-there g c =
    (take_change c.args.r.now c.args.self.now.ranges c.args.self.now.room c.first-first.ensures.valid c.are_apart.ensures.apart c.are_apart.ensures.within c.requires).there

pub replace-requires-clause-apart : goal.replace-requires-clause-apart
replace-requires-clause-apart g c =
    (take_change c.args.r.now c.args.self.now.ranges c.args.self.now.room c.first-first.ensures.valid c.are_apart.ensures.apart c.are_apart.ensures.within c.requires).apart

pub replace-requires-clause-room : goal.replace-requires-clause-room
replace-requires-clause-room g c =
    (take_change c.args.r.now c.args.self.now.ranges c.args.self.now.room c.first-first.ensures.valid c.are_apart.ensures.apart c.are_apart.ensures.within c.requires).within

pub returns-clause-ranges : goal.returns-clause-ranges
returns-clause-ranges g c =
    c.replace.ensures.ranges
    ∙ (take_change c.args.r.now c.args.self.now.ranges c.args.self.now.room c.first-first.ensures.valid c.are_apart.ensures.apart c.are_apart.ensures.within c.requires).is
