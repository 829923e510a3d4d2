use Rattle.std.proofs.Common.{◌≡◌, ℕ, ◌+◌, ◌-◌, ◌^◌, ◌<◌, ◌≤◌, Option, None, Some, IfSome, sym, subst, arith}
use Rattle.std.proofs.lemmas.Nat.{pow_pos}
use Rattle.num_range.specs.declared.space.Space.{Space}
use Rattle.num_range.specs.declared.space.Space.TheVariants.{Asn, Ipv4, Ipv6}
use Rattle.num_range.specs.Space.{top_of}
use Rattle.reg_entry.specs.Blocks.{IsLeastBlock}
use Rattle.reg_entry.specs.Partition.{pieces_in}
use Rattle.fit_search.specs.Sought.{IsSought}
use Rattle.fit_search.proofs.found_start.Goals as goal

positive : (space : Space) (size : ℕ) → IsSought space size → 0 < size
positive Asn size h = omega (arith, h.0)
positive Ipv4 size h = omega (arith, h.2, pow_pos h.0)
positive Ipv6 size h = omega (arith, h.2, pow_pos h.0)

least : (c : goal.After-least_start) → IsLeastBlock (pieces_in c.args.pieces.now.partition c.args.space) c.args.space c.args.size c.least_start.result
least c =
    subst (IsLeastBlock (pieces_in c.args.pieces.now.partition c.args.space) c.args.space c.args.size) (sym c.least_start.ensures)
    (c.block_is_least.ensures c.args.space (pieces_in c.args.pieces.now.partition c.args.space) c.args.size (c.are_pieces.ensures.pieces.each c.args.space)
    (positive c.args.space c.args.size c.requires))

pub returns-clause-least : goal.returns-clause-least
returns-clause-least c = least c

pub returns-clause-within : goal.returns-clause-within
returns-clause-within c = within c.least_start.result (least c)
  where
    within : (start : Option ℕ) → IsLeastBlock (pieces_in c.args.pieces.now.partition c.args.space) c.args.space c.args.size start → IfSome start (λ first. first + (c.args.size - 1) ≤ top_of c.args.space)
    within None h = tt
    within (Some first) h = h.0.within
