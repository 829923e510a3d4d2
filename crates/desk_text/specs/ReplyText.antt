-- The one text that is written of a reply: what was accepted and what it covers, or the number of a refusal, its name and
-- its values, parted by single blanks.
use Rattle.std.specs.Prelude.{ℕ, ◌≤◌, true, List, [], ◌++◌, Option, None, Some, codes, decimal}
use Rattle.num_range.specs.Range.{PlainRange}
use Rattle.addr_text.specs.Number.{number_text}
use Rattle.addr_text.specs.Range.{range_text}
use Rattle.reg_entry.specs.declared.entry.Reply.{Reply}
use Rattle.reg_entry.specs.declared.entry.Reply.TheVariants.{Accepted, Refused}
use Rattle.reg_entry.specs.declared.refusal.Refusal.{Refusal}
use Rattle.reg_entry.specs.declared.refusal.Refusal.TheVariants.{Malformed, UnknownHostmaster, OutsidePool, NotOnePiece, WrongStatus, UnknownHolder, NotHolder, HandleTaken, Overlap, NoSub, NoReverse, CardsDiffer, LengthOutOfPolicy, HolderKind, OverCap, UnderUsed, HoldTime, NotDue, HasSubs, Straddled, NoBlock, NoReverseSpace, RegisterFull, HoldersFull, JournalFull, SubsFull, ReverseFull}
use Rattle.reg_entry.specs.Days.{last_date, day_text}
use Rattle.desk_text.specs.Vocabulary.{kind_word, status_word}

-- a range with blanks round the `-` between its first and its last number
abbrev pub spaced_range : PlainRange → List ℕ
spaced_range range = range_text true range

-- the refusal's number and its name
abbrev pub refusal_name : Refusal → List ℕ
refusal_name (Malformed place) = codes "N1 Malformed"
refusal_name UnknownHostmaster = codes "N2 UnknownHostmaster"
refusal_name (OutsidePool number) = codes "N10 OutsidePool"
refusal_name (NotOnePiece piece) = codes "N11 NotOnePiece"
refusal_name (WrongStatus status) = codes "N12 WrongStatus"
refusal_name (UnknownHolder handle) = codes "N13 UnknownHolder"
refusal_name (NotHolder holder) = codes "N14 NotHolder"
refusal_name HandleTaken = codes "N15 HandleTaken"
refusal_name (Overlap number) = codes "N16 Overlap"
refusal_name NoSub = codes "N17 NoSub"
refusal_name NoReverse = codes "N18 NoReverse"
refusal_name (CardsDiffer left) = codes "N19 CardsDiffer"
refusal_name (LengthOutOfPolicy least most) = codes "N20 LengthOutOfPolicy"
refusal_name (HolderKind kind) = codes "N21 HolderKind"
refusal_name (OverCap held cap) = codes "N22 OverCap"
refusal_name (UnderUsed used held) = codes "N23 UnderUsed"
refusal_name (HoldTime until) = codes "N24 HoldTime"
refusal_name (NotDue until) = codes "N25 NotDue"
refusal_name (HasSubs count) = codes "N26 HasSubs"
refusal_name (Straddled range) = codes "N27 Straddled"
refusal_name NoBlock = codes "N28 NoBlock"
refusal_name NoReverseSpace = codes "N29 NoReverseSpace"
refusal_name (RegisterFull pieces room) = codes "N30 RegisterFull"
refusal_name (HoldersFull room) = codes "N31 HoldersFull"
refusal_name (JournalFull entries) = codes "N32 JournalFull"
refusal_name (SubsFull room) = codes "N33 SubsFull"
refusal_name (ReverseFull room) = codes "N34 ReverseFull"

-- the refusal's values, each with a blank before it
abbrev pub refusal_values : Refusal → List ℕ
refusal_values (Malformed place) = codes " " ++ decimal place
refusal_values UnknownHostmaster = []
refusal_values (OutsidePool number) = codes " " ++ number_text number
refusal_values (NotOnePiece piece) = codes " " ++ spaced_range piece
refusal_values (WrongStatus status) = codes " " ++ status_word status
refusal_values (UnknownHolder handle) = codes " " ++ handle
refusal_values (NotHolder holder) = codes " " ++ holder
refusal_values HandleTaken = []
refusal_values (Overlap number) = codes " " ++ number_text number
refusal_values NoSub = []
refusal_values NoReverse = []
refusal_values (CardsDiffer left) = codes " " ++ spaced_range left
refusal_values (LengthOutOfPolicy least most) = codes " " ++ decimal least ++ codes " " ++ decimal most
refusal_values (HolderKind kind) = codes " " ++ kind_word kind
refusal_values (OverCap held cap) = codes " " ++ decimal held ++ codes " " ++ decimal cap
refusal_values (UnderUsed used held) = codes " " ++ decimal used ++ codes " " ++ decimal held
refusal_values (HoldTime until) = codes " " ++ day_text until
refusal_values (NotDue until) = codes " " ++ day_text until
refusal_values (HasSubs count) = codes " " ++ decimal count
refusal_values (Straddled range) = codes " " ++ spaced_range range
refusal_values NoBlock = []
refusal_values NoReverseSpace = []
refusal_values (RegisterFull pieces room) = codes " " ++ decimal pieces ++ codes " " ++ decimal room
refusal_values (HoldersFull room) = codes " " ++ decimal room
refusal_values (JournalFull entries) = codes " " ++ decimal entries
refusal_values (SubsFull room) = codes " " ++ decimal room
refusal_values (ReverseFull room) = codes " " ++ decimal room

abbrev pub refusal_text : Refusal → List ℕ
refusal_text refusal = refusal_name refusal ++ refusal_values refusal

abbrev pub accepted_cover : Option PlainRange → List ℕ
accepted_cover None = codes "-"
accepted_cover (Some range) = spaced_range range

abbrev pub reply_text : Reply → List ℕ
reply_text (Accepted e) = codes "ok " ++ decimal e.seq ++ codes " " ++ accepted_cover e.cover
reply_text (Refused refusal) = codes "refused " ++ refusal_text refusal

-- the day of the refusal, if it has one, can be written with a year of four digits
abbrev pub RefusalHasDate : Refusal → Type 0
RefusalHasDate (HoldTime until) = until ≤ last_date
RefusalHasDate (NotDue until) = until ≤ last_date
RefusalHasDate refusal = Unit {0}

abbrev pub ReplyHasDate : Reply → Type 0
ReplyHasDate (Accepted e) = Unit {0}
ReplyHasDate (Refused refusal) = RefusalHasDate refusal
