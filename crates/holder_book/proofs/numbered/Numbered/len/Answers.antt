use Rattle.std.proofs.Common.{◌≡◌, ◌≤◌, length, subst, arith}
use Rattle.holder_book.proofs.Numbers.{count_placed}
use Rattle.holder_book.proofs.numbered.Numbered.len.Goals as goal

pub overflow_cast-result : goal.overflow_cast-result
overflow_cast-result c = omega (arith, c.self.invariant.left, c.self.invariant.small)

pub returns-clause-count : goal.returns-clause-count
returns-clause-count c =
    subst (λ b. c.len.result ≡ length b.holders) c.self.view_is (omega (arith, count_placed c.self.invariant, c.len.ensures))

pub returns-clause-within : goal.returns-clause-within
returns-clause-within c =
    subst (λ b. length b.holders ≤ b.room) c.self.view_is (omega (arith, count_placed c.self.invariant, c.self.invariant.left))
