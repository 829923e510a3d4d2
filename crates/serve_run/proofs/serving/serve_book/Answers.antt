use Rattle.serve_run.proofs.Both.{passes_of_none}
use Rattle.serve_run.proofs.serving.serve_book.Goals as goal

pub serve_desk-served-requires-clause-http : goal.serve_desk-served-requires-clause-http
serve_desk-served-requires-clause-http g c κs lives =
    passes_of_none _ _ c.args.book _ c.requires.named.0 c.requires.named.1 c.requires.empty c.requires.http

pub serve_desk-served-requires-clause-line : goal.serve_desk-served-requires-clause-line
serve_desk-served-requires-clause-line g c κs lives =
    passes_of_none _ _ c.args.book _ c.requires.named.0 c.requires.named.1 c.requires.empty c.requires.line
