-- The words of the desk language: how kinds, spaces, statuses, amounts and quoted texts are written.
use Rattle.std.specs.Prelude.{ℕ, List, ◌++◌, codes, decimal}
use Rattle.num_range.specs.declared.space.Space.{Space}
use Rattle.num_range.specs.declared.space.Space.TheVariants.{Asn, Ipv4, Ipv6}
use Rattle.reg_entry.specs.declared.card.Status.{Status}
use Rattle.reg_entry.specs.declared.card.Status.TheVariants.{Available, Reserved, Quarantine, Allocated, Assigned}
use Rattle.reg_entry.specs.declared.kind.Kind.{Kind}
use Rattle.reg_entry.specs.declared.kind.Kind.TheVariants.{Lir, EndUser}

abbrev pub space_word : Space → List ℕ
space_word Asn = codes "asn"
space_word Ipv4 = codes "ipv4"
space_word Ipv6 = codes "ipv6"

abbrev pub kind_word : Kind → List ℕ
kind_word Lir = codes "lir"
kind_word EndUser = codes "enduser"

abbrev pub status_word : Status → List ℕ
status_word Available = codes "available"
status_word Reserved = codes "reserved"
status_word Quarantine = codes "quarantine"
status_word Allocated = codes "allocated"
status_word Assigned = codes "assigned"

-- how much is asked for: a count of AS numbers, or `/` and the prefix length of a block (RFC 4632 3.1)
abbrev pub amount_text : Space → ℕ → List ℕ
amount_text Asn amount = decimal amount
amount_text Ipv4 amount = codes "/" ++ decimal amount
amount_text Ipv6 amount = codes "/" ++ decimal amount

-- a text between quotes, so that it may have blanks; it has no quote itself
abbrev pub quoted : List ℕ → List ℕ
quoted text = codes "\"" ++ text ++ codes "\""
