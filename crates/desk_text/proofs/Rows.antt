-- The texts tried on worked examples: each computes.
use Rattle.std.proofs.Common.{◌≡◌, [], ◌∷◌, None, Some, codes, refl}
use Rattle.std.specs.Fmt.{digits}
use Rattle.num_range.specs.declared.space.Space.TheVariants.{Ipv4}
use Rattle.num_range.specs.Range.{PlainRange}
use Rattle.reg_entry.specs.declared.card.Status.TheVariants.{Allocated}
use Rattle.reg_entry.specs.declared.kind.Kind.TheVariants.{Lir}
use Rattle.reg_entry.specs.declared.entry.Reply.TheVariants.{Accepted, Refused}
use Rattle.reg_entry.specs.declared.refusal.Refusal.TheVariants.{HoldTime}
use Rattle.reg_entry.specs.declared.request.Delegation.TheVariants.{Allocate}
use Rattle.reg_entry.specs.declared.request.Request.TheVariants.{AddHolder, Delegate, SetReverse}
use Rattle.reg_entry.specs.Days.{date_of_day}
use Rattle.reg_entry.specs.Entry.{PlainEntry}
use Rattle.desk_text.specs.RequestText.{request_text}
use Rattle.desk_text.specs.EntryText.{entry_text}
use Rattle.desk_text.specs.ReplyText.{reply_text}

abbrev first_64 : PlainRange
first_64 = record { space = Ipv4; first = 0xc0000200; last = 0xc000023f }

abbrev delegation : PlainEntry
delegation = record {
  seq = 3;
  day = 19783;
  who = codes "local";
  request = Delegate Ipv4 26 Allocate (codes "ORG-A");
  cover = Some first_64;
  card = Some (record { status = Allocated; holder = Some 0; day = 19783; until = 0 });
}

holder_request : request_text (AddHolder (record { handle = codes "ORG-A"; kind = Lir; cc = codes "DE"; name = codes "Alpha Net"; email = codes "noc@alpha.example" }))
    ≡ codes "holder ORG-A lir DE \"Alpha Net\" \"noc@alpha.example\""
holder_request = refl

reverse_request : request_text (SetReverse first_64 (codes "ns1.alpha.example" ∷ codes "a.b" ∷ []))
    ≡ codes "reverse 192.0.2.0-192.0.2.63 ns1.alpha.example a.b"
unfolding digits
reverse_request = refl

delegation_entry : entry_text delegation
    ≡ codes "3 20240301 local 192.0.2.0-192.0.2.63 allocated 0 20240301 - delegate ipv4 /26 allocated ORG-A"
unfolding digits date_of_day
delegation_entry = refl

accepted_reply : reply_text (Accepted delegation) ≡ codes "ok 3 192.0.2.0 - 192.0.2.63"
unfolding digits
accepted_reply = refl

accepted_without_cover : reply_text (Accepted (record delegation { cover = None })) ≡ codes "ok 3 -"
unfolding digits
accepted_without_cover = refl

refused_reply : reply_text (Refused (HoldTime 20148)) ≡ codes "refused N24 HoldTime 20250301"
unfolding digits date_of_day
refused_reply = refl
