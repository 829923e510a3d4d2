use Rattle.std.proofs.Common.{sym, subst}
use Rattle.num_range.specs.declared.space.Space.{Space}
use Rattle.num_range.specs.declared.space.Space.TheVariants.{Asn, Ipv4, Ipv6}
use Rattle.reg_entry.specs.Pieces.{ArePieces}
use Rattle.piece_book.proofs.book.PieceBook.in_space.Goals as goal

pub returns-in-Asn-clause-valid : goal.returns-in-Asn-clause-valid
returns-in-Asn-clause-valid c = subst (λ (s : Space). ArePieces s c.self.inside.asn.pieces) (sym c.in-Asn.is) (c.self.invariant.reserved.pieces.each Asn)

pub returns-in-Ipv4-clause-valid : goal.returns-in-Ipv4-clause-valid
returns-in-Ipv4-clause-valid c = subst (λ (s : Space). ArePieces s c.self.inside.ipv4.pieces) (sym c.in-Ipv4.is) (c.self.invariant.reserved.pieces.each Ipv4)

pub returns-in-Ipv6-clause-valid : goal.returns-in-Ipv6-clause-valid
returns-in-Ipv6-clause-valid c = subst (λ (s : Space). ArePieces s c.self.inside.ipv6.pieces) (sym c.in-Ipv6.is) (c.self.invariant.reserved.pieces.each Ipv6)
