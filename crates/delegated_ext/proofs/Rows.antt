-- The statistics file tried on worked examples: each computes.
use Rattle.std.proofs.Common.{◌≡◌, ℕ, ◌+◌, ◌*◌, ◌^◌, [], ◌∷◌, List, Option, None, Some, codes, refl}
use Rattle.std.specs.Fmt.{digits}
use Rattle.std.specs.Net.Text.{hex_groups_text, hex}
use Rattle.num_range.specs.declared.space.Space.TheVariants.{Asn, Ipv4, Ipv6}
use Rattle.num_range.specs.Range.{PlainRange}
use Rattle.num_range.specs.Block.{block_of}
use Rattle.num_range.specs.Cover.{least_cover, blocks_inside}
use Rattle.reg_entry.specs.declared.card.Card.{Card}
use Rattle.reg_entry.specs.declared.card.Status.TheVariants.{Reserved, Allocated, Assigned}
use Rattle.reg_entry.specs.declared.kind.Kind.TheVariants.{Lir}
use Rattle.reg_entry.specs.declared.holder.Holder.{Holder}
use Rattle.reg_entry.specs.declared.rooms.Rooms.{Rooms}
use Rattle.reg_entry.specs.declared.request.Delegation.TheVariants.{Allocate, Assign}
use Rattle.reg_entry.specs.declared.request.Request.{Request}
use Rattle.reg_entry.specs.declared.request.Request.TheVariants.{Receive, AddHolder, Delegate, Reserve}
use Rattle.reg_entry.specs.Card.{plain_card}
use Rattle.reg_entry.specs.Days.{date_of_day}
use Rattle.reg_entry.specs.Entry.{PlainEntry}
use Rattle.reg_entry.specs.Register.{register_after}
use Rattle.delegated_ext.specs.StatisticsText.{statistics_text, prefix_length}

abbrev rooms : Rooms
rooms = record { pieces = 100; holders = 100; subs = 100; reverse = 100; entries = 100; window = 64 }

-- an entry of 2024-03-01
abbrev entry : ℕ → Request → Option PlainRange → Option Card → PlainEntry
entry seq request cover card =
    record { seq = seq; day = 19783; who = codes "local"; request = request; cover = cover; card = card }

abbrev received : ℕ → PlainRange → PlainEntry
received seq range = entry seq (Receive range) (Some range) (Some plain_card)

abbrev of_first_holder : Card
of_first_holder = record { status = Allocated; holder = Some 0; day = 19783; until = 0 }

abbrev alpha : Holder
alpha = record { handle = codes "ORG-A"; kind = Lir; cc = codes "DE"; name = codes "Alpha Net"; email = codes "noc@alpha.example" }

abbrev as_numbers : ℕ → ℕ → PlainRange
as_numbers first last = record { space = Asn; first = first; last = last }

-- a block of 192.0.2.0/24, and the block of 2001:db8::/32 with this number in its third group
abbrev block4 : ℕ → PlainRange
block4 len = block_of Ipv4 0xc0000200 len

abbrev block6 : ℕ → ℕ → PlainRange
block6 group len = block_of Ipv6 (0x20010db8 * 2 ^ 96 + group * 2 ^ 80) len

no_entry : statistics_text (register_after rooms []) (codes "exreg")
    ≡ codes "2|exreg|0|0|19700101|19700101|+0000\nexreg|*|asn|*|0|summary\nexreg|*|ipv4|*|0|summary\nexreg|*|ipv6|*|0|summary\n"
unfolding digits date_of_day
no_entry = refl

-- 2001:db8:1:: to 2001:db8:3:ffff:ffff:ffff:ffff:ffff are kept back
abbrev kept_back : PlainRange
kept_back = record { space = Ipv6; first = (block6 1 48).first; last = (block6 3 48).last }

abbrev with_kept_back : List PlainEntry
with_kept_back =
    received 1 (block6 0 32)
    ∷ entry 2 (Reserve kept_back) (Some kept_back) (Some (record { status = Reserved; holder = None; day = 19783; until = 0 }))
    ∷ []

blocks_of_pieces : statistics_text (register_after rooms with_kept_back) (codes "exreg")
    ≡ codes "2|exreg|2|17|20240301|20240301|+0000\nexreg|*|asn|*|0|summary\nexreg|*|ipv4|*|0|summary\nexreg|*|ipv6|*|17|summary\nexreg||ipv6|2001:db8::|48||available|\nexreg||ipv6|2001:db8:1::|48||reserved|\nexreg||ipv6|2001:db8:2::|47||reserved|\nexreg||ipv6|2001:db8:4::|46||available|\nexreg||ipv6|2001:db8:8::|45||available|\nexreg||ipv6|2001:db8:10::|44||available|\nexreg||ipv6|2001:db8:20::|43||available|\nexreg||ipv6|2001:db8:40::|42||available|\nexreg||ipv6|2001:db8:80::|41||available|\nexreg||ipv6|2001:db8:100::|40||available|\nexreg||ipv6|2001:db8:200::|39||available|\nexreg||ipv6|2001:db8:400::|38||available|\nexreg||ipv6|2001:db8:800::|37||available|\nexreg||ipv6|2001:db8:1000::|36||available|\nexreg||ipv6|2001:db8:2000::|35||available|\nexreg||ipv6|2001:db8:4000::|34||available|\nexreg||ipv6|2001:db8:8000::|33||available|\n"
unfolding digits hex_groups_text hex date_of_day least_cover blocks_inside prefix_length
blocks_of_pieces = refl

abbrev days_work : List PlainEntry
days_work =
    received 1 (as_numbers 64496 64511) ∷ received 2 (block4 24) ∷ received 3 (block6 0 32)
    ∷ entry 4 (AddHolder alpha) None None
    ∷ entry 5 (Delegate Asn 4 Assign alpha.handle) (Some (as_numbers 64496 64499)) (Some (record of_first_holder { status = Assigned }))
    ∷ entry 6 (Delegate Ipv4 25 Allocate alpha.handle) (Some (block4 25)) (Some of_first_holder)
    ∷ entry 7 (Delegate Ipv6 32 Allocate alpha.handle) (Some (block6 0 32)) (Some of_first_holder)
    ∷ []

each_space : statistics_text (register_after rooms days_work) (codes "exreg")
    ≡ codes "2|exreg|7|5|20240301|20240301|+0000\nexreg|*|asn|*|2|summary\nexreg|*|ipv4|*|2|summary\nexreg|*|ipv6|*|1|summary\nexreg|DE|asn|64496|4|20240301|assigned|ORG-A\nexreg||asn|64500|12||available|\nexreg|DE|ipv4|192.0.2.0|128|20240301|allocated|ORG-A\nexreg||ipv4|192.0.2.128|128||available|\nexreg|DE|ipv6|2001:db8::|32|20240301|allocated|ORG-A\n"
unfolding digits hex_groups_text hex date_of_day least_cover blocks_inside prefix_length
each_space = refl
