use Rattle.std.proofs.Common.{append_assoc, refl}
use Rattle.nrtm_stream.proofs.stream.append_not_kept.Goals as goal

pub returns : goal.returns
returns c =
    simp (
      c.in_ok-append-3.ensures.ok,
      c.in_ok-append_serials-2.ensures,
      c.in_ok-append-2.ensures.ok,
      c.in_ok-append_serials.ensures,
      c.in_ok-append.ensures.ok,
      c.kept-first_kept.ensures.first,
      c.kept-first_kept.ensures.last,
      append_assoc,
    )
    refl
