-- The one text that is written of a request: its words, parted by single blanks.
use Rattle.std.specs.Prelude.{ℕ, false, List, [], ◌∷◌, ◌++◌, codes}
use Rattle.num_range.specs.Range.{PlainRange}
use Rattle.addr_text.specs.Number.{number_text}
use Rattle.addr_text.specs.Range.{range_text}
use Rattle.reg_entry.specs.declared.holder.Holder.{Holder}
use Rattle.reg_entry.specs.declared.request.Request.{Request}
use Rattle.reg_entry.specs.declared.request.Request.TheVariants.{Receive, AddHolder, EditHolder, Delegate, Reserve, Unreserve, SubAssign, SubReturn, Return, Release, Split, Join, Transfer, SetReverse, ClearReverse}
use Rattle.reg_entry.specs.Request.{status_of}
use Rattle.desk_text.specs.Vocabulary.{space_word, kind_word, status_word, amount_text, quoted}

-- a range as one word: its first and its last number with `-` between them
abbrev pub range_word : PlainRange → List ℕ
range_word range = range_text false range

-- a holder's five fields
abbrev pub holder_text : Holder → List ℕ
holder_text h =
    h.handle ++ codes " " ++ kind_word h.kind ++ codes " " ++ h.cc ++ codes " " ++ quoted h.name ++ codes " "
    ++ quoted h.email

-- each host with a blank before it
abbrev pub hosts_text : List (List ℕ) → List ℕ
hosts_text [] = []
hosts_text (host ∷ hosts) = codes " " ++ host ++ hosts_text hosts

abbrev pub request_text : Request → List ℕ
request_text (Receive range) = codes "receive " ++ range_word range
request_text (AddHolder holder) = codes "holder " ++ holder_text holder
request_text (EditHolder holder) = codes "edit " ++ holder_text holder
request_text (Delegate space amount status handle) =
    codes "delegate " ++ space_word space ++ codes " " ++ amount_text space amount ++ codes " "
    ++ status_word (status_of status) ++ codes " " ++ handle
request_text (Reserve range) = codes "reserve " ++ range_word range
request_text (Unreserve range) = codes "unreserve " ++ range_word range
request_text (SubAssign range handle) = codes "sub " ++ range_word range ++ codes " " ++ handle
request_text (SubReturn range) = codes "unsub " ++ range_word range
request_text (Return range handle) = codes "return " ++ range_word range ++ codes " " ++ handle
request_text (Release range) = codes "release " ++ range_word range
request_text (Split at) = codes "split " ++ number_text at
request_text (Join at) = codes "join " ++ number_text at
request_text (Transfer range from to) =
    codes "transfer " ++ range_word range ++ codes " " ++ from ++ codes " " ++ to
request_text (SetReverse range servers) = codes "reverse " ++ range_word range ++ hosts_text servers
request_text (ClearReverse range) = codes "unreverse " ++ range_word range
