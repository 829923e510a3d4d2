use Rattle.std.proofs.Common.{◌∙◌}
use Rattle.sub_book.proofs.Changed.{drop_change}
use Rattle.sub_book.proofs.range_book.RangeBook.drop_inside.Goals as goal

pub replace-requires-clause-there : goal.replace-requires-clause-there
replace-requires-clause-there g c =
    (drop_change c.args.r.now c.args.self.now.ranges c.count_inside-gone.result c.args.self.now.room c.are_apart.ensures.apart c.are_apart.ensures.within c.requires c.count_inside-gone.ensures).there

pub replace-requires-clause-apart : goal.replace-requires-clause-apart
replace-requires-clause-apart g c =
    (drop_change c.args.r.now c.args.self.now.ranges c.count_inside-gone.result c.args.self.now.room c.are_apart.ensures.apart c.are_apart.ensures.within c.requires c.count_inside-gone.ensures).apart

pub replace-requires-clause-room : goal.replace-requires-clause-room
replace-requires-clause-room g c =
    (drop_change c.args.r.now c.args.self.now.ranges c.count_inside-gone.result c.args.self.now.room c.are_apart.ensures.apart c.are_apart.ensures.within c.requires c.count_inside-gone.ensures).within

pub returns-clause-ranges : goal.returns-clause-ranges
returns-clause-ranges g c =
    c.replace.ensures.ranges
    ∙ (drop_change c.args.r.now c.args.self.now.ranges c.count_inside-gone.result c.args.self.now.room c.are_apart.ensures.apart c.are_apart.ensures.within c.requires c.count_inside-gone.ensures).is
