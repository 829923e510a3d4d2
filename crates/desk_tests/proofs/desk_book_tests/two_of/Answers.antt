use Rattle.std.proofs.Common.{◌≡◌, Some}
use Rattle.std.proofs.lemmas.List.Elements.{All-pop}
use Rattle.desk_tests.proofs.desk_book_tests.two_of.Goals as goal

pub returns-in-Some-Some : goal.returns-in-Some-Some
returns-in-Some-Some c first all =
    let front = All-pop (λ p. p ≡ first) _ c.pop.new.self.items (Some c.in-Some-Some.one) c.in-Some-Some.ensures.items all in
    let rest = All-pop (λ p. p ≡ first) _ c.pop-2.new.self.items (Some c.in-Some-Some.two) c.in-Some-Some.ensures'.items front.0 in
    ((front.1, rest.1), rest.0)
