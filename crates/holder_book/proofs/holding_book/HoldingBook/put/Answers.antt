use Rattle.std.proofs.Common.{rules}
use Rattle.holder_book.proofs.Counting.{put_counts}
use Rattle.holder_book.proofs.holding_book.HoldingBook.put.Goals as goal

pub returns-clause-held : goal.returns-clause-held
returns-clause-held c = λ other t.
    put_counts (λ x. x.held) c.args.self.now c.self.inside.holdings.items c.args.holder other c.index.result.now c.with.result c.args.space t c.args.numbers
    (search rules) c.index.ensures c.requires c.with.ensures

pub returns-clause-allocated : goal.returns-clause-allocated
returns-clause-allocated c = λ other t.
    put_counts (λ x. x.allocated) c.args.self.now c.self.inside.holdings.items c.args.holder other c.index.result.now c.with.result c.args.space t c.args.numbers
    (search rules) c.index.ensures c.requires c.with.ensures

pub returns-clause-used : goal.returns-clause-used
returns-clause-used c = λ other t.
    put_counts (λ x. x.used) c.args.self.now c.self.inside.holdings.items c.args.holder other c.index.result.now c.with.result c.args.space t c.args.numbers
    (search rules) c.index.ensures c.requires c.with.ensures
