-- The entries that a script's requests become are a legal list, and the script's register is theirs.
use Rattle.std.proofs.Common.{◌≡◌, ℕ, ◌≤◌, true, List, [], ◌∷◌, ◌++◌, Result, Ok, Err, refl}
use Rattle.std.specs.Result.{IfOk}
use Rattle.reg_entry.specs.declared.entry.Reply.{Reply}
use Rattle.reg_entry.specs.declared.entry.Reply.TheVariants.{Accepted, Refused}
use Rattle.reg_entry.specs.declared.request.Request.{Request as ARequest}
use Rattle.reg_entry.specs.Days.{last_date}
use Rattle.reg_entry.specs.Decision.{decision, IfAccepted}
use Rattle.reg_entry.specs.Entry.{PlainEntry}
use Rattle.reg_entry.specs.Next.{IsNextEntry, IsLegalFrom}
use Rattle.reg_entry.specs.Partition.{IsPartition}
use Rattle.reg_entry.specs.Policy.{PlainPolicy, IsPolicy}
use Rattle.reg_entry.specs.Register.{Register, after_entry, after_entries}
use Rattle.reg_entry.specs.Request.{is_request}
use Rattle.reg_entry.specs.Whole.{IsWholeRegister}
use Rattle.desk_lang.specs.declared.line.Line.{Line}
use Rattle.desk_lang.specs.declared.line.Line.TheVariants.{Request, Show, Due, Day, By, Nothing}
use Rattle.desk_lang.specs.declared.rest.Malformed.{Malformed}
use Rattle.desk_lang.specs.Grammar.{line_of, IsValidLine}
use Rattle.registry_main.specs.Session.{PlainSession, with_register, on_day, by_name, decided, after_reply, step_of, session_after, entries_of_reply, entries_of_line, accepted_entries}

-- ---- the register

same_of_reply : (s : PlainSession) (reply : Reply) (more : List (List ℕ))
    → ((t : PlainSession) → (session_after t more).register ≡ after_entries t.register (accepted_entries t more))
    → (session_after (after_reply s reply) more).register
    ≡ after_entries s.register (entries_of_reply reply ++ accepted_entries (after_reply s reply) more)
same_of_reply s (Accepted e) more rest = rest (with_register s (after_entry s.register e))
same_of_reply s (Refused x) more rest = rest s

same_of_line : (s : PlainSession) (line : Result Line Malformed) (more : List (List ℕ))
    → ((t : PlainSession) → (session_after t more).register ≡ after_entries t.register (accepted_entries t more))
    → (session_after (step_of s line).session more).register
    ≡ after_entries s.register (entries_of_line s line ++ accepted_entries (step_of s line).session more)
same_of_line s (Err fault) more rest = rest s
same_of_line s (Ok (Request request)) more rest = same_of_reply s (decided s request) more rest
same_of_line s (Ok (Show n)) more rest = rest s
same_of_line s (Ok Due) more rest = rest s
same_of_line s (Ok (Day day)) more rest = rest (on_day s day)
same_of_line s (Ok (By name)) more rest = rest (by_name s name)
same_of_line s (Ok Nothing) more rest = rest s

pub same_register : (s : PlainSession) (lines : List (List ℕ))
    → (session_after s lines).register ≡ after_entries s.register (accepted_entries s lines)
same_register s [] = refl
same_register s (line ∷ more) = same_of_line s (line_of line) more (λ t. same_register t more)

-- ---- the entries

module _
    (accept : (r : Register) (p : PlainPolicy) (day : ℕ) (who : List ℕ) (request : ARequest) → IsPartition r.pool → r.last_day ≤ last_date
    → IsPolicy p → is_request request ≡ true → IfAccepted (decision r p day who request) (IsNextEntry r))
    (keeps : (r : Register) (e : PlainEntry) → IsWholeRegister r → IsNextEntry r e → IsWholeRegister (after_entry r e))
    (valid : (text : List ℕ) → IfOk (line_of text) IsValidLine) where
  -- the policy is one, and the register whole
  record IsGood (s : PlainSession) : Type 0 where
    policy : IsPolicy s.policy
    whole : IsWholeRegister s.register

  legal_of_reply : (s : PlainSession) (reply : Reply) (more : List (List ℕ)) → IsGood s → IfAccepted reply (IsNextEntry s.register)
      → ((t : PlainSession) → IsGood t → IsLegalFrom t.register (accepted_entries t more))
      → IsLegalFrom s.register (entries_of_reply reply ++ accepted_entries (after_reply s reply) more)
  legal_of_reply s (Accepted e) more good next rest =
      (next, rest (with_register s (after_entry s.register e)) (record { policy = good.policy; whole = keeps s.register e good.whole next }))
  legal_of_reply s (Refused x) more good next rest = rest s good

  decided_next : (s : PlainSession) (request : ARequest) → IsGood s → is_request request ≡ true
      → IfAccepted (decided s request) (IsNextEntry s.register)
  decided_next s request good is =
      let whole = good.whole in
      let days = whole.days in
      accept s.register s.policy s.day s.who request whole.pieces days.1 good.policy is

  legal_of_line : (s : PlainSession) (line : Result Line Malformed) (more : List (List ℕ)) → IsGood s → IfOk line IsValidLine
      → ((t : PlainSession) → IsGood t → IsLegalFrom t.register (accepted_entries t more))
      → IsLegalFrom s.register (entries_of_line s line ++ accepted_entries (step_of s line).session more)
  legal_of_line s (Err fault) more good is rest = rest s good
  legal_of_line s (Ok (Request request)) more good is rest =
      legal_of_reply s (decided s request) more good (decided_next s request good is.0) rest
  legal_of_line s (Ok (Show n)) more good is rest = rest s good
  legal_of_line s (Ok Due) more good is rest = rest s good
  legal_of_line s (Ok (Day day)) more good is rest = rest (on_day s day) (record { policy = good.policy; whole = good.whole })
  legal_of_line s (Ok (By name)) more good is rest = rest (by_name s name) (record { policy = good.policy; whole = good.whole })
  legal_of_line s (Ok Nothing) more good is rest = rest s good

  legal_from : (s : PlainSession) (lines : List (List ℕ)) → IsGood s → IsLegalFrom s.register (accepted_entries s lines)
  legal_from s [] good = tt
  legal_from s (line ∷ more) good = legal_of_line s (line_of line) more good (valid line) (λ t h. legal_from t more h)

  pub legal_entries : (s : PlainSession) (lines : List (List ℕ)) → IsPolicy s.policy → IsWholeRegister s.register
      → IsLegalFrom s.register (accepted_entries s lines)
  legal_entries s lines policy whole = legal_from s lines (record { policy = policy; whole = whole })
