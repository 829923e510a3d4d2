-- The objects of a register with those of some pieces of one space set apart.
use Rattle.std.proofs.Common.{◌≡◌, ℕ, List, [], ◌++◌, refl, ◌∙◌, ap, append_assoc}
use Rattle.std.proofs.lemmas.List.{append-nil, map-append}
use Rattle.num_range.specs.declared.space.Space.{Space}
use Rattle.num_range.specs.declared.space.Space.TheVariants.{Asn, Ipv4, Ipv6}
use Rattle.reg_entry.specs.declared.holder.Holder.{Holder}
use Rattle.reg_entry.specs.declared.object.Object.{Object}
use Rattle.reg_entry.specs.declared.piece.Piece.{Piece}
use Rattle.reg_entry.specs.Objects.{block_of_piece, blocks_of}
use Rattle.reg_entry.specs.Partition.{Partition, pieces_in, with_pieces}

-- all objects, from those of the holders, subs and reverse entries and from the pool
abbrev pub all_objects : List Object → List (Holder × ℕ) → Partition → List Object → List Object → List Object
all_objects orgs hs pool subs cuts =
    orgs ++ blocks_of hs pool.asn ++ blocks_of hs pool.ipv4 ++ blocks_of hs pool.ipv6 ++ subs ++ cuts

-- the objects that stand before and behind those of some pieces of the space
abbrev pub before_those : List Object → List (Holder × ℕ) → Partition → Space → List Piece → List Object
before_those orgs hs pool Asn front = orgs ++ blocks_of hs front
before_those orgs hs pool Ipv4 front = orgs ++ (blocks_of hs pool.asn ++ blocks_of hs front)
before_those orgs hs pool Ipv6 front = orgs ++ (blocks_of hs pool.asn ++ (blocks_of hs pool.ipv4 ++ blocks_of hs front))

abbrev pub behind_those : List (Holder × ℕ) → Partition → List Object → Space → List Piece → List Object
behind_those hs pool subs Asn back = blocks_of hs back ++ (blocks_of hs pool.ipv4 ++ (blocks_of hs pool.ipv6 ++ subs))
behind_those hs pool subs Ipv4 back = blocks_of hs back ++ (blocks_of hs pool.ipv6 ++ subs)
behind_those hs pool subs Ipv6 back = blocks_of hs back ++ subs

blocks_in_parts : (hs : List (Holder × ℕ)) (front mid back : List Piece)
    → blocks_of hs (front ++ (mid ++ back)) ≡ blocks_of hs front ++ (blocks_of hs mid ++ blocks_of hs back)
blocks_in_parts hs front mid back =
    map-append (block_of_piece hs) front (mid ++ back) ∙ ap (λ xs. blocks_of hs front ++ xs) (map-append (block_of_piece hs) mid back)

in_asn : (o f m k v w s c : List Object) → o ++ (f ++ (m ++ k)) ++ v ++ w ++ s ++ c ≡ (o ++ f) ++ (m ++ ((k ++ (v ++ (w ++ s))) ++ (c ++ [])))
in_asn o f m k v w s c = simp (append_assoc, append-nil)

in_ipv4 : (o a f m k w s c : List Object) → o ++ a ++ (f ++ (m ++ k)) ++ w ++ s ++ c ≡ (o ++ (a ++ f)) ++ (m ++ ((k ++ (w ++ s)) ++ (c ++ [])))
in_ipv4 o a f m k w s c = simp (append_assoc, append-nil)

in_ipv6 : (o a v f m k s c : List Object) → o ++ a ++ v ++ (f ++ (m ++ k)) ++ s ++ c ≡ (o ++ (a ++ (v ++ f))) ++ (m ++ ((k ++ s) ++ (c ++ [])))
in_ipv6 o a v f m k s c = simp (append_assoc, append-nil)

pub set_apart : (orgs : List Object) (hs : List (Holder × ℕ)) (pool : Partition) (subs cuts : List Object) (space : Space) (front mid back : List Piece)
    → pieces_in pool space ≡ front ++ (mid ++ back)
    → all_objects orgs hs pool subs cuts
    ≡ before_those orgs hs pool space front ++ (blocks_of hs mid ++ (behind_those hs pool subs space back ++ (cuts ++ [])))
set_apart orgs hs pool subs cuts Asn front mid back e =
    ap (λ xs. orgs ++ xs ++ blocks_of hs pool.ipv4 ++ blocks_of hs pool.ipv6 ++ subs ++ cuts)
    (ap (blocks_of hs) e ∙ blocks_in_parts hs front mid back)
    ∙ in_asn orgs (blocks_of hs front) (blocks_of hs mid) (blocks_of hs back) (blocks_of hs pool.ipv4) (blocks_of hs pool.ipv6) subs cuts
set_apart orgs hs pool subs cuts Ipv4 front mid back e =
    ap (λ xs. orgs ++ blocks_of hs pool.asn ++ xs ++ blocks_of hs pool.ipv6 ++ subs ++ cuts)
    (ap (blocks_of hs) e ∙ blocks_in_parts hs front mid back)
    ∙ in_ipv4 orgs (blocks_of hs pool.asn) (blocks_of hs front) (blocks_of hs mid) (blocks_of hs back) (blocks_of hs pool.ipv6) subs cuts
set_apart orgs hs pool subs cuts Ipv6 front mid back e =
    ap (λ xs. orgs ++ blocks_of hs pool.asn ++ blocks_of hs pool.ipv4 ++ xs ++ subs ++ cuts)
    (ap (blocks_of hs) e ∙ blocks_in_parts hs front mid back)
    ∙ in_ipv6 orgs (blocks_of hs pool.asn) (blocks_of hs pool.ipv4) (blocks_of hs front) (blocks_of hs mid) (blocks_of hs back) subs cuts

-- other pieces of the space leave what stands before and behind them
pub before_kept : (orgs : List Object) (hs : List (Holder × ℕ)) (pool : Partition) (space : Space) (ps front : List Piece)
    → before_those orgs hs (with_pieces pool space ps) space front ≡ before_those orgs hs pool space front
before_kept orgs hs pool Asn ps front = refl
before_kept orgs hs pool Ipv4 ps front = refl
before_kept orgs hs pool Ipv6 ps front = refl

pub behind_kept : (hs : List (Holder × ℕ)) (pool : Partition) (subs : List Object) (space : Space) (ps back : List Piece)
    → behind_those hs (with_pieces pool space ps) subs space back ≡ behind_those hs pool subs space back
behind_kept hs pool subs Asn ps back = refl
behind_kept hs pool subs Ipv4 ps back = refl
behind_kept hs pool subs Ipv6 ps back = refl

-- the subs, and the reverse cuts, set apart
pub subs_apart : (orgs : List Object) (hs : List (Holder × ℕ)) (pool : Partition) (front mid back cuts : List Object)
    → all_objects orgs hs pool (front ++ (mid ++ back)) cuts
    ≡ (orgs ++ blocks_of hs pool.asn ++ blocks_of hs pool.ipv4 ++ blocks_of hs pool.ipv6 ++ front) ++ (mid ++ (back ++ cuts))
subs_apart orgs hs pool front mid back cuts = simp append_assoc

pub cuts_apart : (orgs : List Object) (hs : List (Holder × ℕ)) (pool : Partition) (subs front mid back : List Object)
    → all_objects orgs hs pool subs (front ++ (mid ++ back))
    ≡ (orgs ++ blocks_of hs pool.asn ++ blocks_of hs pool.ipv4 ++ blocks_of hs pool.ipv6 ++ subs ++ front) ++ (mid ++ back)
cuts_apart orgs hs pool subs front mid back = simp append_assoc

pub orgs_apart : (front mid back : List Object) (hs : List (Holder × ℕ)) (pool : Partition) (subs cuts : List Object)
    → all_objects (front ++ (mid ++ back)) hs pool subs cuts
    ≡ front ++ (mid ++ (back ++ (blocks_of hs pool.asn ++ (blocks_of hs pool.ipv4 ++ (blocks_of hs pool.ipv6 ++ (subs ++ cuts))))))
orgs_apart front mid back hs pool subs cuts = simp append_assoc

pub orgs_first : (orgs : List Object) (hs : List (Holder × ℕ)) (pool : Partition) (subs cuts : List Object)
    → all_objects orgs hs pool subs cuts
    ≡ orgs ++ (blocks_of hs pool.asn ++ (blocks_of hs pool.ipv4 ++ (blocks_of hs pool.ipv6 ++ (subs ++ cuts))))
orgs_first orgs hs pool subs cuts = simp append_assoc
