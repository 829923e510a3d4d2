use Rattle.std.proofs.Common.{◌∙◌, subst}
use Rattle.num_range.specs.declared.space.Space.TheVariants.{Asn, Ipv4, Ipv6}
use Rattle.reg_entry.specs.Partition.{Partition}
use Rattle.piece_book.specs.Free.{IsIndexOf}
use Rattle.piece_book.proofs.Kept.{to_be, asn_kept, ipv4_kept, ipv6_kept, pool_change, asn_indexed, ipv4_indexed, ipv6_indexed}
use Rattle.piece_book.proofs.book.PieceBook.exchange.Goals as goal

pub exchange-requires : goal.exchange-requires
exchange-requires c =
    let kept = c.self.invariant in
    (pool_change c.args.self.now _ c.self.inside.free c.args.space c.args.change.now.before.items c.args.change.now.after.items c.self.view_is kept.indexed
    kept.free_room kept.reserved.pieces kept.reserved.within c.requires.pieces c.requires.room c.requires.touched).0

pub invariant_of-self : goal.invariant_of-self
invariant_of-self c =
    let gone = c.args.change.now.before.items in
    let come = c.args.change.now.after.items in
    let kept = c.self.invariant in
    let change = pool_change c.args.self.now _ c.self.inside.free c.args.space gone come c.self.view_is kept.indexed kept.free_room
    kept.reserved.pieces kept.reserved.within c.requires.pieces c.requires.room c.requires.touched in
    record {
      reserved = asn_kept c.self.inside.asn c.self.inside.ipv4 c.self.inside.ipv6 _ _ _ kept.reserved
          (to_be c.args.self.now _ c.args.space Asn gone come c.self.view_is c.in-Asn.is c.requires.pieces c.requires.room) c.exchange-in-Asn.ensures;
      indexed = asn_indexed c.self.inside.asn c.self.inside.ipv4 c.self.inside.ipv6 _ c.args.space gone come c.exchange.new.self c.in-Asn.is
          (subst (λ (p : Partition). IsIndexOf c.exchange.new.self.keys p) change.1 (c.exchange.ensures.index change.0)) c.exchange-in-Asn.ensures;
      free_room = c.exchange.ensures.room ∙ kept.free_room;
    }

pub invariant_of-self-in-Ipv4 : goal.invariant_of-self-in-Ipv4
invariant_of-self-in-Ipv4 c =
    let gone = c.args.change.now.before.items in
    let come = c.args.change.now.after.items in
    let kept = c.self.invariant in
    let change = pool_change c.args.self.now _ c.self.inside.free c.args.space gone come c.self.view_is kept.indexed kept.free_room
    kept.reserved.pieces kept.reserved.within c.requires.pieces c.requires.room c.requires.touched in
    record {
      reserved = ipv4_kept c.self.inside.asn c.self.inside.ipv4 c.self.inside.ipv6 _ _ _ kept.reserved
          (to_be c.args.self.now _ c.args.space Ipv4 gone come c.self.view_is c.in-Ipv4.is c.requires.pieces c.requires.room) c.exchange-in-Ipv4.ensures;
      indexed = ipv4_indexed c.self.inside.asn c.self.inside.ipv4 c.self.inside.ipv6 _ c.args.space gone come c.exchange.new.self c.in-Ipv4.is
          (subst (λ (p : Partition). IsIndexOf c.exchange.new.self.keys p) change.1 (c.exchange.ensures.index change.0)) c.exchange-in-Ipv4.ensures;
      free_room = c.exchange.ensures.room ∙ kept.free_room;
    }

pub invariant_of-self-in-Ipv6 : goal.invariant_of-self-in-Ipv6
invariant_of-self-in-Ipv6 c =
    let gone = c.args.change.now.before.items in
    let come = c.args.change.now.after.items in
    let kept = c.self.invariant in
    let change = pool_change c.args.self.now _ c.self.inside.free c.args.space gone come c.self.view_is kept.indexed kept.free_room
    kept.reserved.pieces kept.reserved.within c.requires.pieces c.requires.room c.requires.touched in
    record {
      reserved = ipv6_kept c.self.inside.asn c.self.inside.ipv4 c.self.inside.ipv6 _ _ _ kept.reserved
          (to_be c.args.self.now _ c.args.space Ipv6 gone come c.self.view_is c.in-Ipv6.is c.requires.pieces c.requires.room) c.exchange-in-Ipv6.ensures;
      indexed = ipv6_indexed c.self.inside.asn c.self.inside.ipv4 c.self.inside.ipv6 _ c.args.space gone come c.exchange.new.self c.in-Ipv6.is
          (subst (λ (p : Partition). IsIndexOf c.exchange.new.self.keys p) change.1 (c.exchange.ensures.index change.0)) c.exchange-in-Ipv6.ensures;
      free_room = c.exchange.ensures.room ∙ kept.free_room;
    }
