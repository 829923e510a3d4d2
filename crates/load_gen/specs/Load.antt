-- What a load makes of a register, and the summary that is written of it.
use Rattle.std.specs.Prelude.{ℕ, zero, suc, ◌+◌, List, [], ◌∷◌, ◌++◌, Option, None, Some, codes, decimal}
use Rattle.std.specs.List.{flat_map}
use Rattle.std.specs.Option.{option_map}
use Rattle.num_range.specs.declared.space.Space.{Space}
use Rattle.num_range.specs.declared.space.Space.TheVariants.{Asn, Ipv4, Ipv6}
use Rattle.num_range.specs.Range.{PlainRange}
use Rattle.reg_entry.specs.declared.card.Status.TheVariants.{Available, Reserved, Quarantine, Allocated, Assigned}
use Rattle.reg_entry.specs.declared.entry.Reply.{Reply}
use Rattle.reg_entry.specs.declared.entry.Reply.TheVariants.{Accepted, Refused}
use Rattle.reg_entry.specs.declared.request.Request.{Request}
use Rattle.reg_entry.specs.declared.rooms.Rooms.{Rooms}
use Rattle.reg_entry.specs.Decision.{decision}
use Rattle.reg_entry.specs.Partition.{piece_count}
use Rattle.reg_entry.specs.Policy.{PlainPolicy}
use Rattle.reg_entry.specs.Register.{Register, empty_register, after_entry, register_pieces, piece_of}
use Rattle.reg_entry.specs.Sums.{status_sum}
use Rattle.load_gen.specs.Draw.{PlainDraw, draw_at, first_day, draw_day, drawn_address}
use Rattle.load_gen.specs.Drawn.{drawn_request}
use Rattle.load_gen.specs.Opening.{opening_requests}

-- ---- the load so far

-- the register, how many requests were refused, and by what policy and for whom they are decided
pub record PlainLoad : Type 0 where
  pub register : Register
  pub refused : ℕ
  pub policy : PlainPolicy
  pub who : List ℕ

-- nothing is asked yet
abbrev pub new_load : Rooms → PlainPolicy → List ℕ → PlainLoad
new_load rooms policy who = record { register = empty_register rooms; refused = 0; policy = policy; who = who }

-- an accepted entry joins the register, and a refusal is counted
abbrev pub after_reply : PlainLoad → Reply → PlainLoad
after_reply l (Accepted e) = record { register = after_entry l.register e; refused = l.refused; policy = l.policy; who = l.who }
after_reply l (Refused refusal) = record { register = l.register; refused = l.refused + 1; policy = l.policy; who = l.who }

-- after a request on a day
abbrev pub after_request : PlainLoad → ℕ → Request → PlainLoad
after_request l day request = after_reply l (decision l.register l.policy day l.who request)

-- after requests, all on the first day
abbrev pub after_requests : PlainLoad → List Request → PlainLoad
after_requests l [] = l
after_requests l (q ∷ qs) = after_requests (after_request l first_day q) qs

-- ---- the draws

-- the range of the piece whose numbers a draw may name
abbrev pub drawn_piece : Register → PlainDraw → Option PlainRange
drawn_piece r d = option_map (λ p. p.range) (piece_of r.pool (drawn_address d))

-- the request of a draw names that piece; where no piece has the address, nothing is asked
abbrev pub after_naming : PlainLoad → PlainDraw → Option PlainRange → PlainLoad
after_naming l d None = l
after_naming l d (Some piece) = after_request l (draw_day d) (drawn_request d piece)

abbrev pub after_draw : PlainLoad → PlainDraw → PlainLoad
after_draw l d = after_naming l d (drawn_piece l.register d)

-- after the first k draws of a seed
abbrev pub after_draws : PlainLoad → ℕ → ℕ → PlainLoad
after_draws l seed zero = l
after_draws l seed (suc k) = after_draw (after_draws l seed k) (draw_at seed (suc k))

-- the opening, and then so many draws
abbrev pub loaded : Rooms → PlainPolicy → List ℕ → ℕ → ℕ → PlainLoad
loaded rooms policy who seed n = after_draws (after_requests (new_load rooms policy who) opening_requests) seed n

-- ---- the summary

abbrev pub space_name : Space → List ℕ
space_name Asn = codes "asn"
space_name Ipv4 = codes "ipv4"
space_name Ipv6 = codes "ipv6"

-- a space, and how many of its numbers have each status
abbrev pub space_line : Register → Space → List ℕ
space_line r space =
    space_name space
    ++ (flat_map (λ status. codes " " ++ decimal (status_sum (register_pieces r space) status))
    (Available ∷ Reserved ∷ Quarantine ∷ Allocated ∷ Assigned ∷ [])
    ++ codes "\n")

-- a word, and a count behind it
abbrev pub count_line : List ℕ → ℕ → List ℕ
count_line word n = word ++ (codes ": " ++ (decimal n ++ codes "\n"))

abbrev pub summary_text : PlainLoad → List ℕ
summary_text l =
    count_line (codes "entries") l.register.entries
    ++ (count_line (codes "refused") l.refused
    ++ (count_line (codes "pieces") (piece_count l.register.pool)
    ++ flat_map (space_line l.register) (Asn ∷ Ipv4 ∷ Ipv6 ∷ [])))

-- what is written of so many draws of a seed, each decided for one hostmaster
abbrev pub load_text : Rooms → PlainPolicy → List ℕ → ℕ → ℕ → List ℕ
load_text rooms policy who seed n = summary_text (loaded rooms policy who seed n)
