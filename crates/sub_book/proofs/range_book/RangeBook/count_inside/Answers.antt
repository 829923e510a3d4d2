use Rattle.std.proofs.Common.{arith}
use Rattle.sub_book.proofs.Ends.{ends_of, last_is}
use Rattle.sub_book.proofs.range_book.RangeBook.count_inside.Goals as goal

pub returns-then-ending-eq0 : goal.returns-then-ending-eq0
returns-then-ending-eq0 g c =
    let are = ends_of c.args.r.now c.args.self.now.ranges _ _ c.count_ending-ending.result c.last.ensures.valid c.are_apart.ensures.apart c.first_number-first.ensures
    (last_is c.args.r.now c.of-last.result c.space.result c.last.result c.of-last.ensures c.space.ensures c.last.ensures.last) c.count_ending-ending.ensures in
    let all = are.none c.if-ending-eq0.true in
    omega (arith, all, c.count_next-at_end.ensures)

pub returns : goal.returns
returns g c =
    let are = ends_of c.args.r.now c.args.self.now.ranges _ _ c.count_ending-ending.result c.last.ensures.valid c.are_apart.ensures.apart c.first_number-first.ensures
    (last_is c.args.r.now c.of-last.result c.space.result c.last.result c.of-last.ensures c.space.ensures c.last.ensures.last) c.count_ending-ending.ensures in
    let all = are.some (omega (arith, c.if-ending-eq0.false)) in
    omega (arith, all, c.count_next-at_end.ensures, c.count_next.ensures)
