use Rattle.std.proofs.Common.{ℕ, List, subst, sym, Ok, arith}
use Rattle.httparse.specs.declared.Error.{Error}
use Rattle.httparse.specs.declared.Status.{Status}
use Rattle.httparse.specs.declared.spans.RequestSpans.{RequestSpans}
use Rattle.httparse.specs.Grammar.{HasNoRequest}
use Rattle.httparse.specs.Outcome.{IfComplete, OnPartial}
use Rattle.httparse.specs.Spans.{RequestOverflows, IsRequestOf, IsRequestWithin}
use Rattle.wire_http.specs.Front.{BeginsWithHead}
use Rattle.wire_http.specs.Head.{PlainHead}
use Rattle.wire_http.proofs.Heads.{head_found, overflow_never, none_in_front, none_in_longest}
use Rattle.wire_http.proofs.front.read_front.Goals as goal

pub returns-in-Ok-Complete : goal.returns-in-Ok-Complete
returns-in-Ok-Complete c =
    let bytes = c.args.bytes.now in
    let front = c.first-front.result.now in
    let headers = c.parse_request.new.headers in
    let spans = c.in-Ok-Complete.spans in
    let of : IsRequestOf front headers spans =
    subst (λ (s : Status RequestSpans). IfComplete {E = Error} (Ok s) (IsRequestOf front headers)) c.in-Ok-Complete.field-0-is c.in-Ok-Complete.ensures.complete in
    let within : IsRequestWithin front headers spans =
    subst (λ (s : Status RequestSpans). IfComplete {E = Error} (Ok s) (IsRequestWithin front headers)) c.in-Ok-Complete.field-0-is c.in-Ok-Complete.ensures.within in (
      of.0,
      subst (λ (head : PlainHead). BeginsWithHead bytes head spans.len of.0) (sym c.new.ensures)
          (head_found bytes front headers spans of.0 c.first-front.ensures (omega (arith, c.parse_request.auto.headers)) within of.1),
    )

pub returns-then-bytes-lt-LONGEST_HEAD : goal.returns-then-bytes-lt-LONGEST_HEAD
returns-then-bytes-lt-LONGEST_HEAD c =
    let front = c.first-front.result.now in
    let none : HasNoRequest front =
    subst (λ (s : Status RequestSpans). OnPartial {E = Error} (Ok s) (HasNoRequest front)) c.in-Ok-Partial.field-0-is c.in-Ok-Partial.ensures.partial in
    (none_in_front c.args.bytes.now (subst (λ (b : List ℕ). HasNoRequest b) c.first-front.ensures none), c.if-bytes-lt-LONGEST_HEAD.true)

pub returns-else-bytes-lt-LONGEST_HEAD : goal.returns-else-bytes-lt-LONGEST_HEAD
returns-else-bytes-lt-LONGEST_HEAD c =
    let front = c.first-front.result.now in
    let none : HasNoRequest front =
    subst (λ (s : Status RequestSpans). OnPartial {E = Error} (Ok s) (HasNoRequest front)) c.in-Ok-Partial.field-0-is c.in-Ok-Partial.ensures.partial in
    none_in_longest c.args.bytes.now (subst (λ (b : List ℕ). HasNoRequest b) c.first-front.ensures none) c.if-bytes-lt-LONGEST_HEAD.false

pub returns-in-Err : goal.returns-in-Err
returns-in-Err c =
    overflow_never c.args.bytes.now (subst (λ (b : List ℕ). RequestOverflows 64 b) c.first-front.ensures c.in-Err.ensures.no_room)
