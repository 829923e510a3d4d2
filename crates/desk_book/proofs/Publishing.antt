-- What is published goes on with what was.
use Rattle.std.proofs.Common.{◌≡◌, List, [], ◌∷◌, inl, inr, sym, ap, subst, ◌∙◌}
use Rattle.std.proofs.lemmas.List.{append-nil}
use mathlib.Core.List.{IsPrefix}
use Rattle.reg_entry.specs.Entry.{PlainEntry}
use Rattle.desk_book.specs.Book.{PlainBook, settled, IsAllButOne}

begins_all : (published entries : List PlainEntry) → IsAllButOne published entries → IsPrefix published entries
begins_all published entries (inl same) = ([], append-nil published ∙ same)
begins_all published entries (inr more) = (more.0 ∷ [], more.1)

pub published_once : (before after : PlainBook) → IsAllButOne before.published before.entries → after ≡ settled before → IsPrefix before.published after.published
published_once before after all is =
    subst (λ (l : List PlainEntry). IsPrefix before.published l) (sym (ap (λ (b : PlainBook). b.published) is)) (begins_all before.published before.entries all)
