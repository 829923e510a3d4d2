-- Whole loads tried on their summaries: each computes.
use Rattle.std.proofs.Common.{◌≡◌, ℕ, ◌^◌, Bool, true, false, List, [], ◌∷◌, ◌++◌, refl}
use Rattle.std.specs.Prelude.{codes}
use Rattle.std.specs.Fmt.{digits}
use Rattle.reg_entry.specs.declared.policy.Row.{Row}
use Rattle.reg_entry.specs.declared.rooms.Rooms.{Rooms}
use Rattle.reg_entry.specs.Policy.{PlainPolicy, PlainRows}
use Rattle.load_gen.specs.Load.{load_text}

abbrev row : ℕ → ℕ → ℕ → Bool → Row
row least most cap enduser =
    record { least = least; most = most; cap = cap; percent = 0; lir = true; enduser = enduser }

abbrev rows : Row → Row → PlainRows
rows a b = record { allocated = a; assigned = b }

abbrev policy : PlainPolicy
policy = record {
  registry = codes "exreg";
  quarantine_days = 30;
  hold_days = 365;
  hostmasters = (codes "local", codes "k-local-0001") ∷ [];
  zone = record {
    mname = codes "ns1.exreg.example";
    rname = codes "hostmaster.exreg.example";
    ttl = 172800;
    refresh = 7200;
    retry = 1800;
    expire = 604800;
    minimum = 3600;
    servers = codes "ns1.exreg.example" ∷ [];
  };
  asn = rows (row 1 1024 (2 ^ 32) false) (row 1 1024 (2 ^ 32) true);
  ipv4 = rows (row 20 32 (2 ^ 32) false) (row 20 32 (2 ^ 32) true);
  ipv6 = rows (row 20 64 (2 ^ 61) false) (row 32 64 (2 ^ 61) true);
}

abbrev rooms : Rooms
rooms = record { pieces = 100; holders = 100; subs = 100; reverse = 100; entries = 100; window = 64 }

abbrev load : ℕ → ℕ → List ℕ
load = load_text rooms policy (codes "local")

-- the pool is 1,023 AS numbers, 2^24 IPv4 addresses and 2^96 IPv6 addresses
nothing_drawn :
    load 0 0
    ≡ codes "entries: 11\n" ++ (codes "refused: 0\n" ++ (codes "pieces: 3\n" ++ (codes "asn 1023 0 0 0 0\n"
    ++ (codes "ipv4 16777216 0 0 0 0\n" ++ codes "ipv6 79228162514264337593543950336 0 0 0 0\n"))))
unfolding digits
nothing_drawn = refl

-- an available piece can't be transferred
one_refused :
    load 0 1
    ≡ codes "entries: 11\n" ++ (codes "refused: 1\n" ++ (codes "pieces: 3\n" ++ (codes "asn 1023 0 0 0 0\n"
    ++ (codes "ipv4 16777216 0 0 0 0\n" ++ codes "ipv6 79228162514264337593543950336 0 0 0 0\n"))))
unfolding digits
one_refused = refl

-- 10.0.0.0/21 is delegated
one_accepted :
    load 1 1
    ≡ codes "entries: 12\n" ++ (codes "refused: 0\n" ++ (codes "pieces: 4\n" ++ (codes "asn 1023 0 0 0 0\n"
    ++ (codes "ipv4 16775168 0 0 2048 0\n" ++ codes "ipv6 79228162514264337593543950336 0 0 0 0\n"))))
unfolding digits
one_accepted = refl
