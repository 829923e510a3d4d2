use Rattle.std.proofs.Common.{◌∙◌}
use Rattle.sub_book.proofs.Changed.{put_change}
use Rattle.sub_book.proofs.range_book.RangeBook.put.Goals as goal

pub replace-requires-clause-there : goal.replace-requires-clause-there
replace-requires-clause-there g c =
    (put_change c.args.r c.args.value c.args.self.now.ranges c.count_exact-gone.result c.args.self.now.room c.first-first.ensures.valid c.are_apart.ensures.apart c.are_apart.ensures.within
    c.requires.free c.requires.room c.count_exact-gone.ensures).there

pub replace-requires-clause-apart : goal.replace-requires-clause-apart
replace-requires-clause-apart g c =
    (put_change c.args.r c.args.value c.args.self.now.ranges c.count_exact-gone.result c.args.self.now.room c.first-first.ensures.valid c.are_apart.ensures.apart c.are_apart.ensures.within
    c.requires.free c.requires.room c.count_exact-gone.ensures).apart

pub replace-requires-clause-room : goal.replace-requires-clause-room
replace-requires-clause-room g c =
    (put_change c.args.r c.args.value c.args.self.now.ranges c.count_exact-gone.result c.args.self.now.room c.first-first.ensures.valid c.are_apart.ensures.apart c.are_apart.ensures.within
    c.requires.free c.requires.room c.count_exact-gone.ensures).within

pub returns-clause-ranges : goal.returns-clause-ranges
returns-clause-ranges g c =
    c.replace.ensures.ranges
    ∙ (put_change c.args.r c.args.value c.args.self.now.ranges c.count_exact-gone.result c.args.self.now.room c.first-first.ensures.valid c.are_apart.ensures.apart c.are_apart.ensures.within
    c.requires.free c.requires.room c.count_exact-gone.ensures).is
