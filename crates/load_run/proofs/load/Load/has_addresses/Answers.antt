use Rattle.std.proofs.Common.{◌≡◌, Some, nat_le, ap, subst, sym, ◌∙◌}
use Rattle.std.proofs.lemmas.Bool.{leb-true}
use Rattle.num_range.specs.Number.{PlainNumber}
use Rattle.reg_entry.specs.Partition.{Partition, pieces_in}
use Rattle.reg_entry.specs.Pieces.{piece_at}
use Rattle.load_gen.specs.Load.{PlainLoad}
use Rattle.load_run.proofs.Drawn.{all_drawn}
use Rattle.load_run.proofs.load.Load.has_addresses.Goals as goal

pub returns-in-Some : goal.returns-in-Some
returns-in-Some c = λ long.
    let pool : c.pieces.result.now.partition ≡ c.args.self.now.register.pool = c.pieces.ensures.pool ∙ ap (λ (l : PlainLoad). l.register.pool) c.self.view_is in
    let there : piece_at (pieces_in c.pieces.result.now.partition c.of-first.result.space) c.of-first.result.value ≡ Some c.in-Some.piece =
    sym c.piece_at.ensures ∙ c.in-Some.is in
    let at = subst (λ (n : PlainNumber). piece_at (pieces_in c.pieces.result.now.partition n.space) n.value ≡ Some c.in-Some.piece) c.of-first.ensures there in
    all_drawn c.args.self.now.register.pool c.in-Some.piece (subst (λ (p : Partition). piece_at p.ipv4 167772160 ≡ Some c.in-Some.piece) pool at)
    (leb-true 168034303 c.in-Some.piece.range.last (ap (λ n. nat_le 168034303 n) (sym c.last.ensures.last) ∙ long))
