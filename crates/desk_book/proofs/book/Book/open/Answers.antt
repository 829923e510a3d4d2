use Rattle.std.proofs.Common.{rules, ◌≡◌, ◌∙◌, ap, List}
use Rattle.reg_entry.specs.Entry.{PlainEntry}
use Rattle.snapshot_pub.specs.Pass.{PlainPass}
use Rattle.desk_book.proofs.book.Book.open.Goals as goal

pub returns-clause-passes : goal.returns-clause-passes
returns-clause-passes g c k d there =
    let seen : List PlainEntry → PlainPass =
    λ es. record { book = c.in_ok-press.press.book; rooms = c.in_ok-press.press.rooms; entries = es; shuts = 0 } in
    let same : c.in_ok-press.press.published ≡ c.new.result.items = search rules in
    c.in_ok-press.ensures.passes k d there ∙ ap seen same
