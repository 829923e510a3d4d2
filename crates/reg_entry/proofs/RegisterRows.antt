-- The decision and the step of the register tried on worked examples: each computes.
use Rattle.std.proofs.Common.{◌≡◌, ℕ, ◌+◌, ◌-◌, ◌*◌, ◌^◌, Bool, true, false, nat_le, List, [], ◌∷◌, ◌++◌, Option, None, Some, map, filter, refl}
use Rattle.std.specs.Prelude.{Result, Ok, Err, codes}
use Rattle.num_range.specs.declared.space.Space.TheVariants.{Asn, Ipv4, Ipv6}
use Rattle.num_range.specs.Number.{PlainNumber}
use Rattle.num_range.specs.Range.{PlainRange}
use Rattle.num_range.specs.Cover.{reverse_cuts, blocks_inside}
use Rattle.reg_entry.specs.declared.card.Status.TheVariants.{Available, Quarantine, Allocated, Assigned}
use Rattle.reg_entry.specs.declared.kind.Kind.TheVariants.{Lir, EndUser}
use Rattle.reg_entry.specs.declared.kind.Kind.{Kind}
use Rattle.reg_entry.specs.declared.holder.Holder.{Holder}
use Rattle.reg_entry.specs.declared.rooms.Rooms.{Rooms}
use Rattle.reg_entry.specs.declared.policy.Row.{Row}
use Rattle.reg_entry.specs.declared.entry.Reply.{Reply}
use Rattle.reg_entry.specs.declared.entry.Reply.TheVariants.{Accepted, Refused}
use Rattle.reg_entry.specs.declared.refusal.Refusal.{Refusal}
use Rattle.reg_entry.specs.declared.refusal.Refusal.TheVariants.{OutsidePool, NotOnePiece, WrongStatus, UnknownHolder, NotHolder, HandleTaken, Overlap, NoSub, NoReverse, LengthOutOfPolicy, HolderKind, OverCap, UnderUsed, HoldTime, NotDue, HasSubs, Straddled, NoBlock, NoReverseSpace, RegisterFull, HoldersFull, JournalFull, SubsFull, ReverseFull}
use Rattle.reg_entry.specs.declared.request.Delegation.TheVariants.{Allocate, Assign}
use Rattle.reg_entry.specs.declared.request.Request.{Request}
use Rattle.reg_entry.specs.declared.request.Request.TheVariants.{Receive, AddHolder, Delegate, Reserve, Unreserve, SubAssign, SubReturn, Return, Release, Split, Join, Transfer, SetReverse, ClearReverse}
use Rattle.reg_entry.specs.declared.object.Object.{Object}
use Rattle.reg_entry.specs.declared.object.Object.TheVariants.{Block, Cut}
use Rattle.reg_entry.specs.declared.object.Act.{Act}
use Rattle.reg_entry.specs.declared.object.Act.TheVariants.{Add, Del}
use Rattle.reg_entry.specs.declared.found.Found.{Found}
use Rattle.reg_entry.specs.declared.found.Found.TheVariants.{Piece as ThePiece, Sub as TheSub}
use Rattle.reg_entry.specs.Entry.{PlainEntry}
use Rattle.reg_entry.specs.Op.{PlainOp}
use Rattle.reg_entry.specs.Request.{is_request}
use Rattle.reg_entry.specs.Policy.{PlainPolicy, PlainRows}
use Rattle.reg_entry.specs.Entries.{last_card}
use Rattle.reg_entry.specs.Register.{Register, empty_register, after_entry, register_after, card_of}
use Rattle.reg_entry.specs.Decision.{decision}
use Rattle.reg_entry.specs.Sums.{narrowest}
use Rattle.reg_entry.specs.Objects.{objects_of}
use Rattle.reg_entry.specs.Operations.{operations_of, objects_after}

-- ---- the policies and requests of the examples

abbrev row : ℕ → ℕ → ℕ → ℕ → Bool → Row
row least most cap percent enduser =
    record { least = least; most = most; cap = cap; percent = percent; lir = true; enduser = enduser }

abbrev rows : Row → Row → PlainRows
rows a b = record { allocated = a; assigned = b }

abbrev policy : ℕ → ℕ → PlainPolicy
policy cap percent = record {
  registry = codes "exreg";
  quarantine_days = 30;
  hold_days = 365;
  hostmasters = (codes "local", codes "k-local-0001") ∷ [];
  zone = record {
    mname = codes "ns1.exreg.example";
    rname = codes "hostmaster.exreg.example";
    ttl = 172800;
    refresh = 7200;
    retry = 1800;
    expire = 604800;
    minimum = 3600;
    servers = codes "ns1.exreg.example" ∷ [];
  };
  asn = rows (row 1 1024 (2 ^ 32) 0 false) (row 1 1024 (2 ^ 32) 0 true);
  ipv4 = rows (row 20 32 cap percent false) (row 20 32 (2 ^ 32) 0 true);
  ipv6 = rows (row 20 64 (2 ^ 125) 0 false) (row 32 64 (2 ^ 125) 0 true);
}

-- an ample policy, and one with a cap of 128 IPv4 addresses of which four fifths have to be used
abbrev ample : PlainPolicy
ample = policy (2 ^ 32) 0

abbrev strict : PlainPolicy
strict = policy 128 80

abbrev rooms_for : ℕ → ℕ → ℕ → ℕ → ℕ → Rooms
rooms_for pieces holders subs reverse entries =
    record { pieces = pieces; holders = holders; subs = subs; reverse = reverse; entries = entries; window = 64 }

abbrev large : Rooms
large = rooms_for 1000 1000 1000 1000 1000

abbrev holder : Kind → List ℕ → List ℕ → Holder
holder kind handle name = record { handle = handle; kind = kind; cc = codes "DE"; name = name; email = codes "noc@alpha.example" }

abbrev a : List ℕ
a = codes "ORG-A"

abbrev b : List ℕ
b = codes "ORG-B"

abbrev e : List ℕ
e = codes "ORG-E"

abbrev alpha : Holder
alpha = holder Lir a (codes "Alpha Net")

abbrev beta : Holder
beta = holder Lir b (codes "Beta Net")

abbrev eve : Holder
eve = holder EndUser e (codes "Eve")

-- a range of 192.0.2.0/24
abbrev net : ℕ → ℕ → PlainRange
net first last = record { space = Ipv4; first = 0xc0000200 + first; last = 0xc0000200 + last }

abbrev host : ℕ → PlainNumber
host n = record { space = Ipv4; value = 0xc0000200 + n }

-- a prefix of this length for ORG-A
abbrev prefix : ℕ → Request
prefix len = Delegate Ipv4 len Allocate a

-- 2024-03-01
abbrev march : ℕ
march = 19783

-- ---- a script: requests with their days

abbrev after_reply : Register → Reply → Register
after_reply r (Accepted entry) = after_entry r entry
after_reply r (Refused refusal) = r

-- the cover of an accepted request, or the refusal
abbrev said : Reply → Result (Option PlainRange) Refusal
said (Accepted entry) = Ok entry.cover
said (Refused refusal) = Err refusal

abbrev answers : PlainPolicy → Register → List (ℕ × Request) → List (Result (Option PlainRange) Refusal)
answers p r [] = []
answers p r (q ∷ qs) =
    said (decision r p q.0 (codes "local") q.1) ∷ answers p (after_reply r (decision r p q.0 (codes "local") q.1)) qs

-- the entries of the requests that are accepted
abbrev accepted : Reply → List PlainEntry
accepted (Accepted entry) = entry ∷ []
accepted (Refused refusal) = []

abbrev entries_of : PlainPolicy → Register → List (ℕ × Request) → List PlainEntry
entries_of p r [] = []
entries_of p r (q ∷ qs) =
    accepted (decision r p q.0 (codes "local") q.1) ++ entries_of p (after_reply r (decision r p q.0 (codes "local") q.1)) qs

abbrev ok : ℕ → ℕ → Result (Option PlainRange) Refusal
ok first last = Ok (Some (net first last))

abbrev refused : Refusal → Result (Option PlainRange) Refusal
refused refusal = Err refusal

-- all on one day
abbrev on : ℕ → List Request → List (ℕ × Request)
on day qs = map (λ q. (day, q)) qs

-- 192.0.2.0/24 is received, and ORG-A becomes a holder
abbrev start : List (ℕ × Request)
start = on march (Receive (net 0 255) ∷ AddHolder alpha ∷ [])

abbrev register_of : PlainPolicy → Rooms → List (ℕ × Request) → Register
register_of p rooms qs = register_after rooms (entries_of p (empty_register rooms) qs)

abbrev after_start : PlainPolicy → Rooms → List (ℕ × Request) → List (Result (Option PlainRange) Refusal)
after_start p rooms qs = answers p (register_of p rooms start) qs

-- ---- laying and joining

least_blocks :
    after_start ample large (on march (prefix 26 ∷ Reserve (net 64 64) ∷ prefix 26 ∷ prefix 26 ∷ prefix 26 ∷ []))
    ≡ ok 0 63 ∷ ok 64 64 ∷ ok 128 191 ∷ ok 192 255 ∷ refused NoBlock ∷ []
least_blocks = refl

quarantine_ends :
    after_start ample large
    (on march (prefix 26 ∷ Reserve (net 64 64) ∷ prefix 26 ∷ prefix 26 ∷ Return (net 0 63) a ∷ prefix 26 ∷ [])
    ++ (19812, Release (net 0 63)) ∷ (19813, Release (net 0 63)) ∷ (19813, prefix 26) ∷ [])
    ≡ ok 0 63 ∷ ok 64 64 ∷ ok 128 191 ∷ ok 192 255 ∷ ok 0 63 ∷ refused NoBlock
    ∷ refused (NotDue 19813) ∷ ok 0 63 ∷ ok 0 63 ∷ []
quarantine_ends = refl

-- ---- operations

abbrev piece_object : ℕ → ℕ → Object
piece_object first last = Block (net first last) Available None 0 0

abbrev op : ℕ → Act → Object → PlainOp
op serial act object = record { serial = serial; act = act; object = object }

abbrev last_ops : ℕ → List (ℕ × Request) → List PlainOp
last_ops serial qs =
    filter (λ o. nat_le serial o.serial) (operations_of large (entries_of ample (empty_register large) qs))

released_pieces_join :
    last_ops 11
    (start ++ on march (Reserve (net 0 63) ∷ prefix 26 ∷ Unreserve (net 0 63) ∷ Return (net 64 127) a ∷ [])
    ++ (19813, Release (net 64 127)) ∷ [])
    ≡ op 11 Del (piece_object 0 63)
    ∷ op 12 Del (Block (net 64 127) Quarantine None 19783 19813)
    ∷ op 13 Del (piece_object 128 255) ∷ op 14 Add (piece_object 0 255) ∷ []
released_pieces_join = refl

-- the key stays, so there is one operation
whole_block_delegated :
    last_ops 3 (start ++ on march (prefix 24 ∷ [])) ≡ op 3 Add (Block (net 0 255) Allocated (Some a) march 0) ∷ []
whole_block_delegated = refl

-- ---- refusals

outside_and_overlap :
    after_start ample large
    (on march (Receive (record { space = Ipv4; first = 0xc00002ff; last = 0xc000030a })
    ∷ Receive (record { space = Ipv6; first = 2 ^ 126; last = 2 ^ 126 + (2 ^ 112 - 1) }) ∷ []))
    ≡ refused (Overlap (host 255)) ∷ refused (OutsidePool (record { space = Ipv6; value = 2 ^ 126 })) ∷ []
outside_and_overlap = refl

room_for_two_pieces :
    after_start ample (rooms_for 2 9 9 9 99) (on march (prefix 25 ∷ prefix 26 ∷ prefix 25 ∷ []))
    ≡ ok 0 127 ∷ refused (RegisterFull 3 2) ∷ ok 128 255 ∷ []
room_for_two_pieces = refl

room_for_one :
    after_start ample (rooms_for 9 1 1 1 99)
    (on march (AddHolder beta ∷ prefix 25 ∷ SubAssign (net 0 31) a ∷ SubAssign (net 32 63) a ∷ SetReverse (net 0 127) (codes "ns1.a.example" ∷ [])
    ∷ SetReverse (net 0 127) (codes "ns2.a.example" ∷ []) ∷ prefix 26 ∷ SetReverse (net 128 191) (codes "ns1.a.example" ∷ []) ∷ []))
    ≡ refused (HoldersFull 1) ∷ ok 0 127 ∷ ok 0 31 ∷ refused (SubsFull 1) ∷ Ok None ∷ Ok None ∷ ok 128 191 ∷ refused (ReverseFull 1) ∷ []
room_for_one = refl

room_for_two_entries : after_start ample (rooms_for 9 9 9 9 2) (on march (prefix 25 ∷ [])) ≡ refused (JournalFull 2) ∷ []
room_for_two_entries = refl

-- ---- splitting and joining

split_and_join :
    after_start ample large
    (on march (prefix 25 ∷ SubAssign (net 32 63) a ∷ Split (host 48) ∷ Split (host 64) ∷ Join (host 64) ∷ []))
    ≡ ok 0 127 ∷ ok 32 63 ∷ refused (Straddled (net 32 63)) ∷ ok 0 127 ∷ ok 0 127 ∷ []
split_and_join = refl

-- ---- the narrowest registration round a range

-- the first /25 is allocated, with a sub in it
abbrev with_sub : ℕ → ℕ → Register
with_sub first last = register_of ample large (start ++ on march (prefix 25 ∷ SubAssign (net first last) a ∷ []))

abbrev half : Option Found
half = Some (ThePiece (record { range = net 0 127; card = record { status = Allocated; holder = Some 0; day = march; until = 0 } }))

abbrev sub_in_half : ℕ → ℕ → Option Found
sub_in_half first last = Some (TheSub (net first last) (record { holder = 0; day = march }) (net 0 127))

-- a number of the sub, a number of the piece alone, two numbers of which one is the sub's, the whole piece, and the /24
-- round it
narrowest_found :
    map (narrowest (with_sub 64 127)) (net 100 100 ∷ net 63 63 ∷ net 63 64 ∷ net 0 127 ∷ net 0 255 ∷ [])
    ≡ sub_in_half 64 127 ∷ half ∷ half ∷ half ∷ None ∷ []
narrowest_found = refl

-- of one size with its piece, the sub
narrowest_on_a_tie : narrowest (with_sub 0 127) (net 0 127) ≡ sub_in_half 0 127
narrowest_on_a_tie = refl

-- ---- days

hold_time :
    answers ample (register_of ample large (start ++ on march (AddHolder beta ∷ prefix 26 ∷ [])))
    ((march, Transfer (net 0 63) a b) ∷ (march, Transfer (net 0 63) b a) ∷ (19417, Transfer (net 0 63) b a)
    ∷ (20148, Transfer (net 0 63) b a) ∷ [])
    ≡ ok 0 63 ∷ refused (HoldTime 20148) ∷ refused (HoldTime 20148) ∷ ok 0 63 ∷ []
hold_time = refl

-- ---- name servers

abbrev server : List ℕ
server = codes "ns1.a.example"

-- a reverse entry of none is no request, nor is one of five
one_to_four_servers :
    map (λ servers. is_request (SetReverse (net 0 255) servers))
    ([] ∷ (server ∷ []) ∷ (server ∷ server ∷ server ∷ server ∷ []) ∷ (server ∷ server ∷ server ∷ server ∷ server ∷ []) ∷ [])
    ≡ false ∷ true ∷ true ∷ false ∷ []
one_to_four_servers = refl

-- ---- reverse cuts

-- 2001:db8::/32
abbrev documentation : PlainRange
documentation = record { space = Ipv6; first = 0x20010db8 * 2 ^ 96; last = 0x20010db8 * 2 ^ 96 + (2 ^ 96 - 1) }

abbrev is_cut : Object → Bool
is_cut (Cut block servers) = true
is_cut object = false

one_cut :
    filter is_cut
    (objects_of (register_of ample large
    (on march (Receive documentation ∷ AddHolder alpha ∷ Delegate Ipv6 32 Allocate a ∷ SetReverse documentation (codes "ns1.alpha.example" ∷ []) ∷ []))))
    ≡ Cut documentation (codes "ns1.alpha.example" ∷ []) ∷ []
unfolding reverse_cuts blocks_inside
one_cut = refl

-- ---- each reason in turn

reasons :
    answers ample (register_of ample large (start ++ on march (AddHolder beta ∷ prefix 25 ∷ [])))
    (on march (Reserve (net 256 256) ∷ Reserve (net 120 130) ∷ Reserve (net 5 5) ∷ Return (net 0 63) a ∷ Return (net 0 127) (codes "ORG-X")
    ∷ Return (net 0 127) b ∷ AddHolder beta ∷ SubReturn (net 0 31) ∷ ClearReverse (net 0 127) ∷ prefix 19 ∷ []))
    ≡ refused (OutsidePool (host 256)) ∷ refused (NotOnePiece (net 0 127)) ∷ refused (WrongStatus Allocated) ∷ refused (NotOnePiece (net 0 127))
    ∷ refused (UnknownHolder (codes "ORG-X")) ∷ refused (NotHolder a) ∷ refused HandleTaken ∷ refused NoSub ∷ refused NoReverse
    ∷ refused (LengthOutOfPolicy 20 32) ∷ []
reasons = refl

kinds :
    answers ample (register_of ample large (start ++ on march (AddHolder eve ∷ [])))
    (on march (Delegate Ipv4 26 Allocate e ∷ Delegate Ipv4 26 Assign e ∷ SubAssign (net 0 0) e ∷ []))
    ≡ refused (HolderKind EndUser) ∷ ok 0 63 ∷ refused (WrongStatus Assigned) ∷ []
kinds = refl

strict_policy :
    after_start strict large (on march (prefix 26 ∷ prefix 26 ∷ SubAssign (net 0 50) a ∷ prefix 26 ∷ prefix 26 ∷ Return (net 0 63) a ∷ []))
    ≡ ok 0 63 ∷ refused (UnderUsed 0 64) ∷ ok 0 50 ∷ ok 64 127 ∷ refused (OverCap 192 128) ∷ refused (HasSubs 1) ∷ []
strict_policy = refl

-- a transfer of a piece to its own holder doesn't count the piece twice
to_itself :
    after_start strict large (on march (prefix 25 ∷ Transfer (net 0 127) a a ∷ [])) ≡ ok 0 127 ∷ ok 0 127 ∷ []
to_itself = refl

no_reverse_names_of_as_numbers :
    answers ample (empty_register large)
    (on march (Receive (record { space = Asn; first = 64496; last = 64511 }) ∷ AddHolder alpha ∷ Delegate Asn 4 Assign a
    ∷ SetReverse (record { space = Asn; first = 64496; last = 64496 }) (codes "ns1.a.example" ∷ []) ∷ []))
    ≡ Ok (Some (record { space = Asn; first = 64496; last = 64511 })) ∷ Ok None ∷ Ok (Some (record { space = Asn; first = 64496; last = 64499 }))
    ∷ refused NoReverseSpace ∷ []
no_reverse_names_of_as_numbers = refl

-- ---- the stream

-- the objects of the register are those that its operations lead to, and each number has the card of its last entry
abbrev worked : List PlainEntry
worked = entries_of ample (empty_register large) (on march (Receive (net 0 255) ∷ Reserve (net 0 63) ∷ Reserve (net 96 99) ∷ Unreserve (net 0 63) ∷ []))

stream_leads_to_objects : objects_after (operations_of large worked) ≡ objects_of (register_after large worked)
unfolding reverse_cuts blocks_inside
stream_leads_to_objects = refl

last_cards_stand :
    map (λ n. card_of (register_after large worked).pool (host n)) (0 ∷ 63 ∷ 64 ∷ 96 ∷ 99 ∷ 100 ∷ 255 ∷ 256 ∷ [])
    ≡ map (λ n. last_card worked (host n)) (0 ∷ 63 ∷ 64 ∷ 96 ∷ 99 ∷ 100 ∷ 255 ∷ 256 ∷ [])
last_cards_stand = refl
