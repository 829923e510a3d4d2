use Rattle.std.proofs.Common.{append_assoc, refl}
use Rattle.nrtm_stream.proofs.stream.append_start.Goals as goal

pub returns : goal.returns
returns c =
    simp (
      c.in_ok-append-5.ensures.ok,
      c.in_ok-append_number-2.ensures,
      c.in_ok-append-4.ensures.ok,
      c.in_ok-append_number.ensures,
      c.in_ok-append-3.ensures.ok,
      c.in_ok-append-2.ensures.ok,
      c.in_ok-append.ensures.ok,
      append_assoc,
    )
    refl
