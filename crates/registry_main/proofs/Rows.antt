-- The definitions tried on worked scripts: each computes.
use Rattle.std.proofs.Common.{◌≡◌, ℕ, ◌^◌, Bool, true, false, [], ◌∷◌, refl, codes}
use Rattle.std.specs.Fmt.{digits}
use Rattle.std.specs.Net.Reader.{read_number, read_octet, read_ipv4, read_segment, read_segments, read_ipv6}
use Rattle.addr_text.specs.Reading.{block_of_text, whole_block_of, first_to_last_of}
use Rattle.reg_entry.specs.declared.policy.Row.{Row}
use Rattle.reg_entry.specs.Days.{date_of_day}
use Rattle.reg_entry.specs.Policy.{PlainPolicy, PlainRows}
use Rattle.desk_lang.specs.Grammar.{range_line, number_line, holder_line, delegate_line, range_and_handle}
use Rattle.registry_main.specs.Session.{batch_text}

abbrev rows : ℕ → ℕ → ℕ → PlainRows
rows least most cap = record { allocated = row false; assigned = row true }
  where
    row : Bool → Row
    row enduser = record { least = least; most = most; cap = cap; percent = 0; lir = true; enduser = enduser }

-- what is returned is in quarantine for so many days
abbrev policy : ℕ → PlainPolicy
policy days = record {
  registry = codes "exreg";
  quarantine_days = days;
  hold_days = 365;
  hostmasters = (codes "local", codes "k-local-0001") ∷ [];
  zone = record {
    mname = codes "ns1.exreg.example";
    rname = codes "hostmaster.exreg.example";
    ttl = 172800;
    refresh = 7200;
    retry = 1800;
    expire = 604800;
    minimum = 3600;
    servers = codes "ns1.exreg.example" ∷ [];
  };
  asn = rows 1 1024 (2 ^ 32);
  ipv4 = rows 20 32 (2 ^ 32);
  ipv6 = rows 20 64 (2 ^ 125);
}

worked_requests : batch_text (policy 30) 19783 (codes "receive 192.0.2.0/24\nholder ORG-A lir DE \"Alpha Net\" \"noc@alpha.example\"\ndelegate ipv4 /26 allocated ORG-A\nshow 192.0.2.5\nshow 192.0.3.0\nreceive 192.0.2.255/32\n")
    ≡ codes "ok 1 192.0.2.0 - 192.0.2.255\nok 2 -\nok 3 192.0.2.0 - 192.0.2.63\n192.0.2.0 - 192.0.2.63 allocated ORG-A 20240301 -\nnone\nrefused N16 Overlap 192.0.2.255\n"
unfolding digits read_number read_octet read_ipv4 read_segment read_segments read_ipv6 block_of_text whole_block_of first_to_last_of range_line number_line holder_line delegate_line range_and_handle date_of_day
worked_requests = refl

worked_quarantine : batch_text (policy 30) 19783 (codes "receive 192.0.2.0/24\nholder ORG-A lir DE \"Alpha Net\" \"noc@alpha.example\"\ndelegate ipv4 /26 allocated ORG-A\nreturn 192.0.2.0/26 ORG-A\ndue\nunsub 192.0.2.0/27\n")
    ≡ codes "ok 1 192.0.2.0 - 192.0.2.255\nok 2 -\nok 3 192.0.2.0 - 192.0.2.63\nok 4 192.0.2.0 - 192.0.2.63\ndue 0\nrefused N17 NoSub\n"
unfolding digits read_number read_octet read_ipv4 read_segment read_segments read_ipv6 block_of_text whole_block_of first_to_last_of range_line number_line holder_line delegate_line range_and_handle date_of_day
worked_quarantine = refl

worked_due : batch_text (policy 0) 19783 (codes "receive 192.0.2.0/24\nholder ORG-A lir DE \"Alpha Net\" \"noc@alpha.example\"\ndelegate ipv4 /26 allocated ORG-A\nreturn 192.0.2.0/26 ORG-A\ndue\n")
    ≡ codes "ok 1 192.0.2.0 - 192.0.2.255\nok 2 -\nok 3 192.0.2.0 - 192.0.2.63\nok 4 192.0.2.0 - 192.0.2.63\ndue 1\n192.0.2.0 - 192.0.2.63\n"
unfolding digits read_number read_octet read_ipv4 read_segment read_segments read_ipv6 block_of_text whole_block_of first_to_last_of range_line number_line holder_line delegate_line range_and_handle date_of_day
worked_due = refl

worked_subs : batch_text (policy 30) 19783 (codes "receive 192.0.2.0/24\nholder ORG-A lir DE \"Alpha Net\" \"noc@alpha.example\"\ndelegate ipv4 /25 allocated ORG-A\nsub 192.0.2.32/27 ORG-A\nsplit 192.0.2.48\nsplit 192.0.2.64\njoin 192.0.2.64\n")
    ≡ codes "ok 1 192.0.2.0 - 192.0.2.255\nok 2 -\nok 3 192.0.2.0 - 192.0.2.127\nok 4 192.0.2.32 - 192.0.2.63\nrefused N27 Straddled 192.0.2.32 - 192.0.2.63\nok 5 192.0.2.0 - 192.0.2.127\nok 6 192.0.2.0 - 192.0.2.127\n"
unfolding digits read_number read_octet read_ipv4 read_segment read_segments read_ipv6 block_of_text whole_block_of first_to_last_of range_line number_line holder_line delegate_line range_and_handle date_of_day
worked_subs = refl

-- one holder may hold 128 allocated addresses, of which four fifths have to be used
abbrev strict : PlainPolicy
strict = record (policy 30) {
  ipv4 = record {
    allocated = record { least = 20; most = 32; cap = 128; percent = 80; lir = true; enduser = false };
    assigned = record { least = 20; most = 32; cap = 128; percent = 0; lir = true; enduser = true };
  };
}

worked_use : batch_text strict 19783 (codes "receive 192.0.2.0/24\nholder ORG-A lir DE \"Alpha Net\" \"noc@alpha.example\"\ndelegate ipv4 /26 allocated ORG-A\ndelegate ipv4 /26 allocated ORG-A\nsub 192.0.2.0-192.0.2.50 ORG-A\ndelegate ipv4 /26 allocated ORG-A\ndelegate ipv4 /26 allocated ORG-A\nreturn 192.0.2.0/26 ORG-A\n")
    ≡ codes "ok 1 192.0.2.0 - 192.0.2.255\nok 2 -\nok 3 192.0.2.0 - 192.0.2.63\nrefused N23 UnderUsed 0 64\nok 4 192.0.2.0 - 192.0.2.50\nok 5 192.0.2.64 - 192.0.2.127\nrefused N22 OverCap 192 128\nrefused N26 HasSubs 1\n"
unfolding digits read_number read_octet read_ipv4 read_segment read_segments read_ipv6 block_of_text whole_block_of first_to_last_of range_line number_line holder_line delegate_line range_and_handle date_of_day
worked_use = refl
