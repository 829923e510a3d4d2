-- The register of a load is reached.
use Rattle.std.proofs.Common.{◌≡◌, ℕ, zero, suc, ◌≤◌, ◌==◌, Bool, true, false, if◌then◌else◌, nat_lt, nat_le, List, [], ◌∷◌, Option, None, Some, refl, sym, subst, inl, inr, arith}
use Rattle.std.specs.List.{list_all}
use Rattle.std.specs.Option.{option_map}
use Rattle.std.proofs.lemmas.Bool.{cases_Bool, and_parts, and_from, leb-true, le-leb, cond-true, cond-false}
use Rattle.num_range.specs.Range.{PlainRange}
use Rattle.num_range.specs.Space.{top_of}
use Rattle.num_range.specs.declared.space.Space.{Space}
use Rattle.reg_entry.specs.declared.entry.Reply.{Reply}
use Rattle.reg_entry.specs.declared.entry.Reply.TheVariants.{Accepted, Refused}
use Rattle.reg_entry.specs.declared.piece.Piece.{Piece}
use Rattle.reg_entry.specs.declared.request.Request.{Request}
use Rattle.reg_entry.specs.declared.rooms.Rooms.{Rooms}
use Rattle.reg_entry.specs.Days.{last_date}
use Rattle.reg_entry.specs.Decision.{decision, IfAccepted}
use Rattle.reg_entry.specs.Entry.{PlainEntry}
use Rattle.reg_entry.specs.Next.{IsNextEntry}
use Rattle.reg_entry.specs.Partition.{IsPartition, pieces_in}
use Rattle.reg_entry.specs.Pieces.{piece_holds, piece_at, AllPiecesOf, IsPieceOf}
use Rattle.reg_entry.specs.Policy.{PlainPolicy, IsPolicy}
use Rattle.reg_entry.specs.Register.{Register, empty_register, after_entry}
use Rattle.reg_entry.specs.Request.{is_range, is_request}
use Rattle.reg_entry.specs.Whole.{IsWholeRegister}
use Rattle.reg_laws.specs.Reached.{IsReached}
use Rattle.load_gen.specs.Draw.{PlainDraw, kind, draw_at, draw_day, drawn_address, first_day}
use Rattle.load_gen.specs.Drawn.{drawn_request}
use Rattle.load_gen.specs.Load.{PlainLoad, new_load, after_reply, after_request, after_requests, drawn_piece, after_naming, after_draw, after_draws, loaded}
use Rattle.load_gen.specs.Opening.{opening_requests}

-- ---- the range that a draw names

abbrev IfRange : Option PlainRange → Type 0
IfRange None = Unit {0}
IfRange (Some range) = is_range range ≡ true

range_of_piece : (space : Space) (p : Piece) (x : ℕ) → IsPieceOf space p → piece_holds p x ≡ true → is_range p.range ≡ true
range_of_piece space p x is holds =
    let both = and_parts (nat_le p.range.first x) (nat_le x p.range.last) holds in
    let low = leb-true p.range.first x both.0 in
    let high = leb-true x p.range.last both.1 in
    and_from (nat_le p.range.first p.range.last) (nat_le p.range.last (top_of p.range.space))
    (le-leb p.range.first p.range.last (omega arith))
    (le-leb p.range.last (top_of p.range.space) (subst (λ s. p.range.last ≤ top_of s) (sym is.of_space) is.within))

range_of_found : (space : Space) (ps : List Piece) (x : ℕ) → AllPiecesOf space ps → IfRange (option_map (λ p. p.range) (piece_at ps x))
range_of_found space [] x each = tt
range_of_found space (p ∷ ps) x each =
    elim (cases_Bool (piece_holds p x)) [
      | inl t ↦ subst (λ o. IfRange (option_map (λ q. q.range) o)) (sym (cond-true (piece_holds p x) (Some p) (piece_at ps x) t))
          (range_of_piece space p x each.0 t)
      | inr f ↦ subst (λ o. IfRange (option_map (λ q. q.range) o)) (sym (cond-false (piece_holds p x) (Some p) (piece_at ps x) f))
          (range_of_found space ps x each.1)
    ]

-- a draw's request is one where the range is one
chosen : (b : Bool) (r s : Request) → is_request r ≡ true → is_request s ≡ true → is_request (if b then r else s) ≡ true
chosen true r s x y = x
chosen false r s x y = y

is_drawn : (d : PlainDraw) (range : PlainRange) → is_range range ≡ true → is_request (drawn_request d range) ≡ true
is_drawn d range is =
    chosen (nat_lt (kind d) 3) _ _ refl
    (chosen (kind d == 3) _ _ refl
    (chosen (kind d == 4) _ _ refl
    (chosen (kind d == 5) _ _ is
    (chosen (kind d == 6) _ _ is is))))

opening_are : list_all is_request opening_requests ≡ true
opening_are = refl

-- ---- the register

module _
    (accept : (r : Register) (p : PlainPolicy) (day : ℕ) (who : List ℕ) (request : Request) → IsPartition r.pool → r.last_day ≤ last_date
    → IsPolicy p → is_request request ≡ true → IfAccepted (decision r p day who request) (IsNextEntry r))
    (empty : (rooms : Rooms) → IsReached (empty_register rooms))
    (next : (r : Register) (e : PlainEntry) → IsReached r → IsNextEntry r e → IsReached (after_entry r e))
    (whole : (r : Register) → IsReached r → IsWholeRegister r) where
  -- the policy is one, and the register reached
  record IsGood (l : PlainLoad) : Type 0 where
    policy : IsPolicy l.policy
    reached : IsReached l.register

  good_after_reply : (l : PlainLoad) (reply : Reply) → IsGood l → IfAccepted reply (IsNextEntry l.register) → IsGood (after_reply l reply)
  good_after_reply l (Accepted e) good may = record { policy = good.policy; reached = next l.register e good.reached may }
  good_after_reply l (Refused refusal) good may = record { policy = good.policy; reached = good.reached }

  good_after_request : (l : PlainLoad) (day : ℕ) (request : Request) → IsGood l → is_request request ≡ true → IsGood (after_request l day request)
  good_after_request l day request good is =
      let w = whole l.register good.reached in
      let days = w.days in
      good_after_reply l (decision l.register l.policy day l.who request) good
      (accept l.register l.policy day l.who request w.pieces days.1 good.policy is)

  good_after_requests : (l : PlainLoad) (requests : List Request) → IsGood l → list_all is_request requests ≡ true
      → IsGood (after_requests l requests)
  good_after_requests l [] good are = good
  good_after_requests l (request ∷ more) good are =
      let both = and_parts (is_request request) (list_all is_request more) are in
      good_after_requests (after_request l first_day request) more (good_after_request l first_day request good both.0) both.1

  good_after_naming : (l : PlainLoad) (d : PlainDraw) (piece : Option PlainRange) → IsGood l → IfRange piece → IsGood (after_naming l d piece)
  good_after_naming l d None good is = good
  good_after_naming l d (Some range) good is = good_after_request l (draw_day d) (drawn_request d range) good (is_drawn d range is)

  good_after_draw : (l : PlainLoad) (d : PlainDraw) → IsGood l → IsGood (after_draw l d)
  good_after_draw l d good =
      let w = whole l.register good.reached in
      let pieces = w.pieces in
      let of_space = pieces.each (drawn_address d).space in
      good_after_naming l d (drawn_piece l.register d) good
      (range_of_found (drawn_address d).space (pieces_in l.register.pool (drawn_address d).space) (drawn_address d).value of_space.each)

  good_after_draws : (l : PlainLoad) (seed k : ℕ) → IsGood l → IsGood (after_draws l seed k)
  good_after_draws l seed zero good = good
  good_after_draws l seed (suc k) good = good_after_draw (after_draws l seed k) (draw_at seed (suc k)) (good_after_draws l seed k good)

  pub reached_by_load : (rooms : Rooms) (p : PlainPolicy) (who : List ℕ) (seed count : ℕ) → IsPolicy p
      → IsReached (loaded rooms p who seed count).register
  reached_by_load rooms p who seed count policy =
      let begun : IsGood (new_load rooms p who) = record { policy = policy; reached = empty rooms } in
      let good = good_after_draws (after_requests (new_load rooms p who) opening_requests) seed count
      (good_after_requests (new_load rooms p who) opening_requests begun opening_are) in
      good.reached
