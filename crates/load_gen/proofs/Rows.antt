-- The definitions tried on values that were worked out apart from the program: each computes.
use Rattle.std.proofs.Common.{◌≡◌, ◌+◌, ◌-◌, ◌*◌, ◌^◌, length, map, [], ◌∷◌, Some, refl}
use Rattle.std.specs.Prelude.{codes, slice_get}
use Rattle.std.specs.Fmt.{digits}
use Rattle.num_range.specs.declared.space.Space.TheVariants.{Asn, Ipv4, Ipv6}
use Rattle.num_range.specs.Range.{PlainRange}
use Rattle.reg_entry.specs.declared.kind.Kind.TheVariants.{Lir}
use Rattle.reg_entry.specs.declared.request.Request.TheVariants.{AddHolder, Delegate, Return, Release, Transfer}
use Rattle.reg_entry.specs.declared.request.Delegation.TheVariants.{Allocate, Assign}
use Rattle.reg_entry.specs.Days.{day_text, date_of_day}
use Rattle.load_gen.specs.Sequence.{number_at}
use Rattle.load_gen.specs.Draw.{draw_at, first_day, draw_day, drawn_address}
use Rattle.load_gen.specs.Drawn.{drawn_request}
use Rattle.load_gen.specs.Opening.{opening_ranges, opening_requests}

abbrev piece : PlainRange
piece = record { space = Ipv4; first = 10 * 2 ^ 24; last = 11 * 2 ^ 24 }

begins_with_2024 : day_text first_day ≡ codes "20240101"
unfolding digits date_of_day
begins_with_2024 = refl

third_number : number_at 1 3 ≡ 11960119808228829710
third_number = refl

-- the greatest seed
wraps_round : number_at (2 ^ 64 - 1) 1 ≡ 13525302890751722018
wraps_round = refl

delegates_ipv4 : drawn_request (draw_at 1 1) piece ≡ Delegate Ipv4 21 Allocate (codes "ORG-L6")
unfolding digits
delegates_ipv4 = refl

delegates_ipv6 : drawn_request (draw_at 1 2) piece ≡ Delegate Ipv6 45 Allocate (codes "ORG-L1")
unfolding digits
delegates_ipv6 = refl

delegates_asn : drawn_request (draw_at 0 9) piece ≡ Delegate Asn 4 Assign (codes "ORG-L0")
unfolding digits
delegates_asn = refl

returns : drawn_request (draw_at (2 ^ 64 - 1) 1) piece ≡ Return piece (codes "ORG-L0")
unfolding digits
returns = refl

releases : drawn_request (draw_at 0 4) piece ≡ Release piece
unfolding digits
releases = refl

transfers : drawn_request (draw_at 0 1) piece ≡ Transfer piece (codes "ORG-L7") (codes "ORG-L6")
unfolding digits
transfers = refl

-- 10.1.236.240
third_address : (drawn_address (draw_at 0 3)).value ≡ 10 * 2 ^ 24 + 126192
third_address = refl

fifteenth_day : draw_day (draw_at 0 15) ≡ 19723
fifteenth_day = refl

sixteenth_day : draw_day (draw_at 0 16) ≡ 19724
sixteenth_day = refl

-- ---- the opening

-- 10.255.255.255, 2001:db8:ffff:ffff:ffff:ffff:ffff:ffff and AS65534
last_numbers : map (λ range. range.last) opening_ranges ≡ 184549375 ∷ 42540766490510755371168322545197776895 ∷ 65534 ∷ []
last_numbers = refl

three_ranges_and_eight_holders : length opening_requests ≡ 11
three_ranges_and_eight_holders = refl

last_of_all :
    slice_get opening_requests 10
    ≡ Some (AddHolder (record { handle = codes "ORG-L7"; kind = Lir; cc = codes "DE"; name = codes "Load 7"; email = codes "load@load.example" }))
unfolding digits
last_of_all = refl
