-- What the workers of both doors leave is a service.
use Rattle.std.proofs.Common.{◌≡◌, ◌≢◌, ℕ, suc, ◌+◌, ◌<◌, ◌≤◌, ◌||◌, Bool, true, false, List, [], ◌∷◌, ◌++◌, length, map, min, All, Option, None, Some, IfSome, Result, Ok, Err, inl, inr, refl, sym, ap, ◌∙◌, subst, append-nil, length-append, true≢false, arith}
use Rattle.std.specs.Result.{IsOk, IfOk}
use Rattle.std.specs.List.{list_any, sum_by, AllZip}
use Rattle.std.proofs.lemmas.List.Sums.{sum_by-append, sum_by-cons}
use Rattle.std.proofs.lemmas.List.{length-map}
use Rattle.std.proofs.lemmas.List.Elements.{All-nil, All-cons, All-head, All-tail, All-append, All-weaker}
use Rattle.logbook.specs.Pages.{Book}
use Rattle.reg_entry.specs.Policy.{PlainPolicy}
use Rattle.reg_entry.specs.declared.rooms.Rooms.{Rooms}
use Rattle.door_face.specs.declared.door.Door.{Door}
use Rattle.door_face.specs.declared.door.Door.TheVariants.{Http, Line}
use Rattle.door_face.specs.declared.outcome.Outcome.{Outcome}
use Rattle.door_face.specs.declared.outcome.Outcome.TheVariants.{Ended, Back}
use Rattle.door_face.specs.Doors.{LinkRecord, more_by}
use Rattle.door_face.specs.Duties.{EndsAs}
use Rattle.snapshot_pub.specs.Pass.{PlainPass}
use Rattle.desk_book.specs.Book.{PlainBook, first_pass}
use Rattle.hall.specs.Desk.{among_others}
use Rattle.serve_run.specs.Along.{PlainWay, HasEnded, with_more}
use Rattle.serve_run.specs.Served.{HasServedConnection, HasServedLine, IsWorked}
use Rattle.serve_run.specs.Gate.{PlainGate, IsNewWay, IsFrontGiven, HasGiven}
use Rattle.serve_run.specs.Duties.{AreDuties}
use Rattle.serve_run.specs.Back.{PlainEnd, IsTold, IfWorked, AreTakenBack, came_back, end_by, most, record_of, worked_ends}
use Rattle.serve_run.specs.Service.{IsServedWay, AreServedWays, AreAllOf, IsServed, pass_of_none}
use Rattle.serve_run.specs.declared.fault.ServeFault.{ServeFault}
use Rattle.serve_run.specs.declared.fault.ServeFault.TheVariants.{NoMemory, Gate as GateFault, Spawn}
use Rattle.serve_run.proofs.Taking.{all_worked}

-- what a worker leaves of a way
abbrev pub LeavesWay : (PlainPass → LinkRecord → PlainPass → Type 0) → PlainPass → PlainWay → PlainEnd → Type 0
LeavesWay serves first way end = (after : PlainPass) × IsWorked serves first way end.connections end.has_failed end.way after

abbrev pub IfLeaves : (PlainPass → LinkRecord → PlainPass → Type 0) → PlainPass → PlainWay → Option PlainEnd → Type 0
IfLeaves serves first way None = Unit {0}
IfLeaves serves first way (Some end) = LeavesWay serves first way end

-- ---- duties and their outcomes

-- what each duty ends as leaves its way
pub ends_leave : {H W D : Type 0} (make : H → W) (done : W → D → Type 0) (Good : H → Type 0) (way_of : H → PlainWay) (end_of : D → PlainEnd)
    (serves : PlainPass → LinkRecord → PlainPass → Type 0) (first : PlainPass)
    → ((h : H) (d : D) → Good h → done (make h) d → LeavesWay serves first (way_of h) (end_of d))
    → (hs : List H) (outs : List (Outcome D)) → All Good hs → AllZip (EndsAs done) (map make hs) outs
    → AllZip (IfLeaves serves first) (map way_of hs) (map (end_by end_of) outs)
ends_leave make done Good way_of end_of serves first leave [] [] all zip = tt
ends_leave make done Good way_of end_of serves first leave [] (_ ∷ outs) all zip = elim zip [ ]
ends_leave make done Good way_of end_of serves first leave (h ∷ hs) [] all zip = elim zip [ ]
ends_leave make done Good way_of end_of serves first leave (h ∷ hs) (Back ∷ outs) all zip =
    (tt, ends_leave make done Good way_of end_of serves first leave hs outs (All-tail Good h hs all) zip.1)
ends_leave make done Good way_of end_of serves first leave (h ∷ hs) (Ended d ∷ outs) all zip =
    (leave h d (All-head Good h hs all) zip.0, ends_leave make done Good way_of end_of serves first leave hs outs (All-tail Good h hs all) zip.1)

-- the outcomes of the duties of one list, and those of the other
pub record AreTwoParts {A B : Type 0} (R : A → B → Type 0) (xs ys : List A) (zs : List B) : Type 0 where
  pub front : List B
  pub rest : List B
  pub joined : zs ≡ front ++ rest
  pub of_front : AllZip R xs front
  pub of_rest : AllZip R ys rest

pub two_parts : {A B : Type 0} (R : A → B → Type 0) (xs ys : List A) (zs : List B) → AllZip R (xs ++ ys) zs → AreTwoParts R xs ys zs
two_parts R [] ys zs zip = record { front = []; rest = zs; joined = refl; of_front = tt; of_rest = zip }
two_parts R (x ∷ xs) ys [] zip = elim zip [ ]
two_parts R (x ∷ xs) ys (z ∷ zs) zip =
    let it = two_parts R xs ys zs zip.1 in
    record { front = z ∷ it.front; rest = it.rest; joined = ap (λ ws. z ∷ ws) it.joined; of_front = (zip.0, it.of_front); of_rest = it.of_rest }

-- duties of the one door and of the other, and what they end as
pub record AreLeft {D : Type 0} (end_of : D → PlainEnd) (http_serves line_serves : PlainPass → LinkRecord → PlainPass → Type 0) (first : PlainPass)
    (at_http at_line : List PlainWay) (outs : List (Outcome D)) : Type 0 where
  pub http_ends : List (Option PlainEnd)
  pub line_ends : List (Option PlainEnd)
  pub joined : map (end_by end_of) outs ≡ http_ends ++ line_ends
  pub http_left : AllZip (IfLeaves http_serves first) at_http http_ends
  pub line_left : AllZip (IfLeaves line_serves first) at_line line_ends

passes_are_first : {H : Type 0} (pass_of : H → PlainPass) (first : PlainPass) (hs : List H) (passes : List PlainPass) → map pass_of hs ++ [] ≡ passes
    → All (λ p. p ≡ first) passes → All (λ h. pass_of h ≡ first) hs
passes_are_first pass_of first hs passes are all = each hs (subst (λ ps. All (λ p. p ≡ first) ps) (sym (sym (append-nil (map pass_of hs)) ∙ are)) all)
  where
    each : (hs : List _) → All (λ p. p ≡ first) (map pass_of hs) → All (λ h. pass_of h ≡ first) hs
    each [] all = All-nil (λ h. pass_of h ≡ first)
    each (h ∷ hs) all = All-cons (λ h. pass_of h ≡ first) h hs (All-head (λ p. p ≡ first) (pass_of h) (map pass_of hs) all)
        (each hs (All-tail (λ p. p ≡ first) (pass_of h) (map pass_of hs) all))

both_are : {H : Type 0} (P Q : H → Type 0) (hs : List H) → All P hs → All Q hs → All (λ h. P h × Q h) hs
both_are P Q [] one two = All-nil (λ h. P h × Q h)
both_are P Q (h ∷ hs) one two =
    All-cons (λ h. P h × Q h) h hs (All-head P h hs one, All-head Q h hs two) (both_are P Q hs (All-tail P h hs one) (All-tail Q h hs two))

ends_joined : {D : Type 0} (end_of : D → PlainEnd) (xs ys : List (Outcome D)) → map (end_by end_of) (xs ++ ys) ≡ map (end_by end_of) xs ++ map (end_by end_of) ys
ends_joined end_of [] ys = refl
ends_joined end_of (x ∷ xs) ys = ap (λ es. end_by end_of x ∷ es) (ends_joined end_of xs ys)

pub all_leave : {H L W D : Type 0} (make_http : H → W) (make_line : L → W) (done : W → D → Type 0) (http_way : H → PlainWay) (line_way : L → PlainWay)
    (http_pass : H → PlainPass) (line_pass : L → PlainPass) (HttpGood : H → Type 0) (LineGood : L → Type 0) (end_of : D → PlainEnd)
    (http_serves line_serves : PlainPass → LinkRecord → PlainPass → Type 0) (first : PlainPass) (http line : ℕ) (old mid late : PlainGate)
    (http_passes line_passes : List PlainPass) (http_duties line_duties duties : List W) (outs : List (Outcome D))
    → (hs : AreDuties make_http http_way http_pass HttpGood Http http old http_passes [] http_duties mid)
    → (ls : AreDuties make_line line_way line_pass LineGood Line line mid line_passes [] line_duties late)
    → All (λ p. p ≡ first) http_passes → All (λ p. p ≡ first) line_passes
    → ((h : H) (d : D) → HttpGood h × (http_pass h ≡ first) → done (make_http h) d → LeavesWay http_serves first (http_way h) (end_of d))
    → ((l : L) (d : D) → LineGood l × (line_pass l ≡ first) → done (make_line l) d → LeavesWay line_serves first (line_way l) (end_of d))
    → duties ≡ http_duties ++ line_duties → AllZip (EndsAs done) duties outs
    → AreLeft end_of http_serves line_serves first (map http_way hs.parts) (map line_way ls.parts) outs
all_leave make_http make_line done http_way line_way http_pass line_pass HttpGood LineGood end_of http_serves line_serves first http line old mid late
    http_passes line_passes http_duties line_duties duties outs hs ls http_first line_first http_leave line_leave joined zip =
    let whole : AllZip (EndsAs done) (map make_http hs.parts ++ map make_line ls.parts) outs =
    subst (λ ds. AllZip (EndsAs done) ds outs) (joined ∙ ap (λ ds. ds ++ line_duties) hs.made ∙ ap (λ ds. map make_http hs.parts ++ ds) ls.made) zip in
    let parts = two_parts (EndsAs done) (map make_http hs.parts) (map make_line ls.parts) outs whole in
    record {
      http_ends = map (end_by end_of) parts.front;
      line_ends = map (end_by end_of) parts.rest;
      joined = ap (λ os. map (end_by end_of) os) parts.joined ∙ ends_joined end_of parts.front parts.rest;
      http_left = ends_leave make_http done (λ h. HttpGood h × (http_pass h ≡ first)) http_way end_of http_serves first http_leave hs.parts parts.front
          (both_are HttpGood (λ h. http_pass h ≡ first) hs.parts hs.good (passes_are_first http_pass first hs.parts http_passes hs.passes_are http_first)) parts.of_front;
      line_left = ends_leave make_line done (λ l. LineGood l × (line_pass l ≡ first)) line_way end_of line_serves first line_leave ls.parts parts.rest
          (both_are LineGood (λ l. line_pass l ≡ first) ls.parts ls.good (passes_are_first line_pass first ls.parts line_passes ls.passes_are line_first)) parts.of_rest;
    }

-- what is worked under a policy, on a clock and with a pass is worked under those that are the same
pub http_leaves : {X : Type 0} (states : X → ℕ → Type 0) (policy other : PlainPolicy) (clock another : X) (first pass : PlainPass) (way new : PlainWay)
    (count : ℕ) (failed : Bool) (after : PlainPass) → other ≡ policy → another ≡ clock → pass ≡ first
    → IsWorked (λ before end after. HasServedConnection (among_others before.rooms other (states another)) before end after) pass way count failed new after
    → IsWorked (λ before end after. HasServedConnection (among_others before.rooms policy (states clock)) before end after) first way count failed new after
http_leaves states policy other clock another first pass way new count failed after same_policy same_clock same_pass worked =
    subst (λ p. IsWorked (λ before end after. HasServedConnection (among_others before.rooms policy (states clock)) before end after) p way count failed new after) same_pass
    (subst (λ x. IsWorked (λ before end after. HasServedConnection (among_others before.rooms policy (states x)) before end after) pass way count failed new after) same_clock
    (subst (λ p. IsWorked (λ before end after. HasServedConnection (among_others before.rooms p (states another)) before end after) pass way count failed new after) same_policy worked))

pub line_leaves : (registry other : List ℕ) (first pass : PlainPass) (way new : PlainWay) (count : ℕ) (failed : Bool) (after : PlainPass)
    → other ≡ registry → pass ≡ first
    → IsWorked (λ before end after. HasServedLine other before end after) pass way count failed new after
    → IsWorked (λ before end after. HasServedLine registry before end after) first way count failed new after
line_leaves registry other first pass way new count failed after same_registry same_pass worked =
    subst (λ p. IsWorked (λ before end after. HasServedLine registry before end after) p way count failed new after) same_pass
    (subst (λ r. IsWorked (λ before end after. HasServedLine r before end after) pass way count failed new after) same_registry worked)

-- as many ways are lent as there are duties
zip_length : {A B : Type 0} (R : A → B → Type 0) (xs : List A) (ys : List B) → AllZip R xs ys → length ys ≡ length xs
zip_length R [] [] zip = refl
zip_length R [] (y ∷ ys) zip = elim zip [ ]
zip_length R (x ∷ xs) [] zip = elim zip [ ]
zip_length R (x ∷ xs) (y ∷ ys) zip = ap (λ n. suc n) (zip_length R xs ys zip.1)

all_lent : (old : Option ℕ) (m n k : ℕ) → k ≡ m + n → IfSome (more_by n (more_by m old)) (λ lent. k ≤ lent)
all_lent None m n k same = tt
all_lent (Some j) m n k same = omega (arith, same)

pub ways_are_lent : {D : Type 0} (end_of : D → PlainEnd) (http_serves line_serves : PlainPass → LinkRecord → PlainPass → Type 0) (first : PlainPass)
    (http line : ℕ) (at_http at_line : List PlainWay) (old mid late : PlainGate) (outs : List (Outcome D))
    → AreLeft end_of http_serves line_serves first at_http at_line outs
    → HasGiven Http http old at_http mid → HasGiven Line line mid at_line late
    → IfSome late.lent (λ n. length outs ≤ n)
ways_are_lent end_of http_serves line_serves first http line at_http at_line old mid late outs left gave_http gave_line =
    let many : length outs ≡ length at_http + length at_line =
    sym (length-map outs (end_by end_of)) ∙ ap (λ (es : List (Option PlainEnd)). length es) left.joined ∙ length-append left.http_ends left.line_ends
    ∙ ap (λ n. n + length left.line_ends) (zip_length (IfLeaves http_serves first) at_http left.http_ends left.http_left)
    ∙ ap (λ n. length at_http + n) (zip_length (IfLeaves line_serves first) at_line left.line_ends left.line_left) in
    subst (λ told. IfSome told (λ n. length outs ≤ n)) (sym (gave_line.lent ∙ ap (λ told. more_by (length at_line) told) gave_http.lent))
    (all_lent old.lent (length at_http) (length at_line) (length outs) many)

-- ---- what a way tells of its failure

has_counted : (failed : Bool) (old new : PlainWay) (links : List LinkRecord) → old.faults ≡ 0 → HasEnded failed old links new
    → (failed ≡ true → 0 < new.faults) × (failed ≡ false → new.faults ≡ 0)
has_counted true old new links none (inl rose) = (λ is. omega (arith, rose), λ is. absurd (true≢false is))
has_counted true old new links none (inr full) = (λ is. omega (arith, full), λ is. absurd (true≢false is))
has_counted false old new links none end = (λ is. absurd (true≢false (sym is)), λ is. end.0 ∙ none)

is_told : (serves : PlainPass → LinkRecord → PlainPass → Type 0) (first : PlainPass) (door : Door) (port : ℕ) (way : PlainWay) (end : PlainEnd)
    → IsNewWay door port way → LeavesWay serves first way end → IsTold end
is_told serves first door port way end fresh left =
    let along = left.1.along in
    let counted = has_counted end.has_failed way end.way along.0 fresh.faults along.1.end in
    record { failed = counted.0; well = counted.1 }

pub all_told : (serves : PlainPass → LinkRecord → PlainPass → Type 0) (first : PlainPass) (door : Door) (port : ℕ) (ways : List PlainWay)
    (ends : List (Option PlainEnd)) → All (IsNewWay door port) ways → AllZip (IfLeaves serves first) ways ends → All (IfWorked IsTold) ends
all_told serves first door port [] [] fresh zip = All-nil (IfWorked IsTold)
all_told serves first door port [] (_ ∷ ends) fresh zip = elim zip [ ]
all_told serves first door port (way ∷ ways) [] fresh zip = elim zip [ ]
all_told serves first door port (way ∷ ways) (None ∷ ends) fresh zip =
    All-cons (IfWorked IsTold) None ends tt (all_told serves first door port ways ends (All-tail (IsNewWay door port) way ways fresh) zip.1)
all_told serves first door port (way ∷ ways) (Some end ∷ ends) fresh zip =
    All-cons (IfWorked IsTold) (Some end) ends (is_told serves first door port way end (All-head (IsNewWay door port) way ways fresh) zip.0)
    (all_told serves first door port ways ends (All-tail (IsNewWay door port) way ways fresh) zip.1)

pub both_told : {D : Type 0} (end_of : D → PlainEnd) (http_serves line_serves : PlainPass → LinkRecord → PlainPass → Type 0) (first : PlainPass)
    (http line : ℕ) (at_http at_line : List PlainWay) (old mid late : PlainGate) (outs : List (Outcome D))
    → AreLeft end_of http_serves line_serves first at_http at_line outs
    → HasGiven Http http old at_http mid → HasGiven Line line mid at_line late
    → All (IfWorked IsTold) (map (end_by end_of) outs)
both_told end_of http_serves line_serves first http line at_http at_line old mid late outs left gave_http gave_line =
    subst (λ es. All (IfWorked IsTold) es) (sym left.joined)
    (All-append (IfWorked IsTold) left.http_ends left.line_ends (all_told http_serves first Http http at_http left.http_ends gave_http.fresh left.http_left)
    (all_told line_serves first Line line at_line left.line_ends gave_line.fresh left.line_left))

-- ---- one way

links_told : (told : Option (List LinkRecord)) (links : List LinkRecord) (after : Option (List LinkRecord)) → IfSome told (λ ls. ls ≡ [])
    → after ≡ with_more told links → IfSome after (λ ls. ls ≡ links)
links_told None links after none is = subst (λ o. IfSome o (λ ls. ls ≡ links)) (sym is) tt
links_told (Some xs) links after none is = subst (λ o. IfSome o (λ ls. ls ≡ links)) (sym is) (ap (λ ys. ys ++ links) none)

all_were_served : (failed : Bool) (old new : PlainWay) (links : List LinkRecord) → failed ≡ false → HasEnded failed old links new
    → IfSome old.links_left (λ n. n ≡ length links)
all_were_served true old new links well end = absurd (true≢false well)
all_were_served false old new links well end = end.1

one_served : (serves : PlainPass → LinkRecord → PlainPass → Type 0) (first : PlainPass) (door : Door) (port : ℕ) (way : PlainWay) (end : PlainEnd)
    → IsNewWay door port way → (left : LeavesWay serves first way end) → end.has_failed ≡ false
    → IsServedWay serves first door port left.1.along.0 (record_of end) left.0
one_served serves first door port way end fresh left well =
    let it = left.1.along.1 in
    record {
      served = it.served;
      legal = left.1.more.legal;
      door_is = it.place.0 ∙ fresh.door_is;
      port_is = it.place.1 ∙ fresh.port_is;
      links_are = links_told way.returned left.1.along.0 end.way.returned fresh.returned it.returned;
    }

-- ---- the ways of a door

-- where a way told how many links it had, they are as many as these
abbrev AreAsMany : Option ℕ → List LinkRecord → Type 0
AreAsMany told links = IfSome told (λ n. n ≡ length links)

pub record AreWaysServed (serves : PlainPass → LinkRecord → PlainPass → Type 0) (first : PlainPass) (door : Door) (port : ℕ)
    (ways : List PlainWay) (ends : List PlainEnd) : Type 0 where
  pub links : List (List LinkRecord)
  pub each : AreServedWays serves first door port links (map record_of ends)
  pub as_many : AllZip AreAsMany (map (λ way. way.links_left) ways) links
  pub counts : min (sum_by (λ end. end.connections) ends) most ≡ min (sum_by (λ ls. length ls) links) most
  pub number : length links ≡ length ways
  pub ends_are : length ends ≡ length ways

none_of_either : (a b : Bool) → (a || b) ≡ false → (a ≡ false) × (b ≡ false)
none_of_either true b is = absurd (true≢false is)
none_of_either false b is = (refl, is)

ways_served : (serves : PlainPass → LinkRecord → PlainPass → Type 0) (first : PlainPass) (door : Door) (port : ℕ) (ways : List PlainWay)
    (ends : List PlainEnd) → All (IsNewWay door port) ways → AllZip (IfLeaves serves first) ways (map (λ end. Some end) ends)
    → list_any (λ (end : PlainEnd). end.has_failed) ends ≡ false → AreWaysServed serves first door port ways ends
ways_served serves first door port [] (end ∷ ends) fresh zip well = elim zip [ ]
ways_served serves first door port (way ∷ ways) [] fresh zip well = elim zip [ ]
ways_served serves first door port [] [] fresh zip well = record { links = []; each = tt; as_many = tt; counts = refl; number = refl; ends_are = refl }
ways_served serves first door port (way ∷ ways) (end ∷ ends) fresh zip well =
    let wells = none_of_either end.has_failed (list_any (λ (e : PlainEnd). e.has_failed) ends) well in
    let it = ways_served serves first door port ways ends (All-tail (IsNewWay door port) way ways fresh) zip.1 wells.1 in
    let new = All-head (IsNewWay door port) way ways fresh in
    let left : LeavesWay serves first way end = zip.0 in
    record {
      links = left.1.along.0 ∷ it.links;
      each = ((left.0, one_served serves first door port way end new left wells.0), it.each);
      as_many = (all_were_served end.has_failed way end.way left.1.along.0 wells.0 left.1.along.1.end, it.as_many);
      counts =
          let mine = sum_by-cons (λ (e : PlainEnd). e.connections) end ends in
          let theirs = sum_by-cons (λ (ls : List LinkRecord). length ls) left.1.along.0 it.links in
          let one = left.1.along.1.number in
          let rest = it.counts in
          omega (arith, mine, theirs, one, rest);
      number = ap (λ n. suc n) it.number;
      ends_are = ap (λ n. suc n) it.ends_are;
    }

-- the ways had as many links as these
head_is : (x y : Option ℕ) (xs ys : List (Option ℕ)) → (x ∷ xs) ≡ (y ∷ ys) → x ≡ y
head_is x y xs ys is = grind (arith, is)

tail_is : (x y : Option ℕ) (xs ys : List (Option ℕ)) → (x ∷ xs) ≡ (y ∷ ys) → xs ≡ ys
tail_is x y xs ys is = grind (arith, is)

all_numbers : (numbers : List (Option ℕ)) (links : List (List LinkRecord)) (front : List ℕ) → AllZip AreAsMany numbers links
    → numbers ≡ map (λ n. Some n) front → front ≡ map (λ ls. length ls) links
all_numbers [] (ls ∷ links) front each is = elim each [ ]
all_numbers (number ∷ numbers) [] front each is = elim each [ ]
all_numbers [] [] [] each is = refl
all_numbers [] [] (n ∷ front) each is = grind (arith, is)
all_numbers (number ∷ numbers) (ls ∷ links) [] each is = grind (arith, is)
all_numbers (number ∷ numbers) (ls ∷ links) (n ∷ front) each is =
    let here : n ≡ length ls = subst (λ told. AreAsMany told ls) (head_is number (Some n) numbers (map (λ k. Some k) front) is) each.0 in
    ap (λ k. k ∷ front) here ∙ ap (λ ks. length ls ∷ ks)
    (all_numbers numbers links front each.1 (tail_is number (Some n) numbers (map (λ k. Some k) front) is))

all_came : (ways : List PlainWay) (links : List (List LinkRecord)) (told mid after : Option (List ℕ))
    → AllZip AreAsMany (map (λ way. way.links_left) ways) links
    → IfSome told (IsFrontGiven ways mid) → after ≡ mid → IfSome told (AreAllOf links after)
all_came ways links None mid after as_many front same = tt
all_came ways links (Some numbers) mid after as_many front same = (
  front.rest,
  front.numbers_are ∙ ap (λ ns. ns ++ front.rest) (all_numbers (map (λ way. way.links_left) ways) links front.front as_many front.front_is),
  same ∙ front.rest_is,
)

-- ---- both doors

worked_more : (xs ys : List (Option PlainEnd)) → worked_ends (xs ++ ys) ≡ worked_ends xs ++ worked_ends ys
worked_more [] ys = refl
worked_more (None ∷ xs) ys = worked_more xs ys
worked_more (Some x ∷ xs) ys = ap (λ es. x ∷ es) (worked_more xs ys)

none_of : {A : Type 0} (p : A → Bool) (xs ys : List A) → list_any p (xs ++ ys) ≡ false → (list_any p xs ≡ false) × (list_any p ys ≡ false)
none_of p [] ys is = (refl, is)
none_of p (x ∷ xs) ys is =
    let both = none_of_either (p x) (list_any p (xs ++ ys)) is in
    let rest = none_of p xs ys both.1 in
    (ap (λ b. b || list_any p xs) both.0 ∙ rest.0, rest.1)

records_more : (xs ys : List PlainEnd) → map record_of (xs ++ ys) ≡ map record_of xs ++ map record_of ys
records_more [] ys = refl
records_more (x ∷ xs) ys = ap (λ rs. record_of x ∷ rs) (records_more xs ys)

lent_again : (before after : Option ℕ) (n : ℕ) → more_by n before ≡ more_by n after → after ≡ before
lent_again None None n is = refl
lent_again (Some a) (Some b) n is = grind (arith, is)
lent_again None (Some b) n is = grind (arith, is)
lent_again (Some a) None n is = grind (arith, is)

lent_sum : (told : Option ℕ) (m n : ℕ) → more_by n (more_by m told) ≡ more_by (m + n) told
lent_sum None m n = refl
lent_sum (Some k) m n = ap (λ j. Some j) (omega arith)

pub both_served : (book : Book) (rooms : Rooms) (policy : PlainPolicy) (is_day : ℕ → Type 0) (http line workers : ℕ) (old mid late new : PlainGate)
    (at_http at_line : List PlainWay) (http_ends line_ends : List (Option PlainEnd)) (count : ℕ)
    → HasGiven Http http old at_http mid → HasGiven Line line mid at_line late
    → length at_http ≡ workers → length at_line ≡ workers
    → AllZip (IfLeaves (λ before end after. HasServedConnection (among_others before.rooms policy is_day) before end after) (pass_of_none book rooms)) at_http http_ends
    → AllZip (IfLeaves (λ before end after. HasServedLine policy.registry before end after) (pass_of_none book rooms)) at_line line_ends
    → AreTakenBack late (http_ends ++ line_ends) new (record { connections = count; has_failed = false; any_back = false })
    → IsServed rooms policy is_day http line workers old new count
both_served book rooms policy is_day http line workers old mid late new at_http at_line http_ends line_ends count gave_http gave_line http_many line_many
    http_left line_left taken =
    let first = pass_of_none book rooms in
    let back = none_of came_back http_ends line_ends (sym taken.any_back) in
    let hs = worked_ends http_ends in
    let ls = worked_ends line_ends in
    let all = worked_more http_ends line_ends in
    let well = none_of (λ (end : PlainEnd). end.has_failed) hs ls
    (sym (taken.has_failed ∙ ap (λ (es : List PlainEnd). list_any (λ end. end.has_failed) es) all)) in
    let h = ways_served (λ before end after. HasServedConnection (among_others before.rooms policy is_day) before end after) first Http http at_http hs
    gave_http.fresh (subst (λ es. AllZip (IfLeaves (λ before end after. HasServedConnection (among_others before.rooms policy is_day) before end after) first) at_http es)
    (all_worked http_ends back.0) http_left) well.0 in
    let l = ways_served (λ before end after. HasServedLine policy.registry before end after) first Line line at_line ls
    gave_line.fresh (subst (λ es. AllZip (IfLeaves (λ before end after. HasServedLine policy.registry before end after) first) at_line es)
    (all_worked line_ends back.1) line_left) well.1 in
    let http_other : Http ≢ Line = λ is. grind (arith, is) in
    let line_other : Line ≢ Http = λ is. grind (arith, is) in
    let total = sum_by-append (λ (e : PlainEnd). e.connections) hs ls in
    let links = sum_by-append (λ (xs : List LinkRecord). length xs) h.links l.links in
    let at_h = h.counts in
    let at_l = l.counts in
    let counted : min (sum_by (λ (e : PlainEnd). e.connections) (hs ++ ls)) most ≡ min (sum_by (λ (xs : List LinkRecord). length xs) (h.links ++ l.links)) most =
    omega (arith, total, links, at_h, at_l) in
    let many : length (worked_ends (http_ends ++ line_ends)) ≡ length at_http + length at_line =
    ap (λ (es : List PlainEnd). length es) all ∙ length-append hs ls ∙ ap (λ n. n + length ls) h.ends_are ∙ ap (λ n. length at_http + n) l.ends_are in
    record {
      book = book;
      http_links = h.links;
      http_ways = map record_of hs;
      line_links = l.links;
      line_ways = map record_of ls;
      at_http = record {
        each = h.each;
        number = h.number ∙ http_many;
        given = (taken.full Http).0 ∙ (gave_line.other Http http_other).1 ∙ gave_http.given ∙ ap (λ n. old.given Http + n) http_many;
        all = all_came at_http h.links (old.to_come Http) (mid.to_come Http) (new.to_come Http) h.as_many gave_http.to_come
            ((taken.full Http).1 ∙ (gave_line.other Http http_other).0);
      };
      at_line = record {
        each = l.each;
        number = l.number ∙ line_many;
        given = (taken.full Line).0 ∙ gave_line.given ∙ ap (λ n. n + length at_line) (gave_http.other Line line_other).1 ∙ ap (λ n. old.given Line + n) line_many;
        all = all_came at_line l.links (old.to_come Line) (late.to_come Line) (new.to_come Line) l.as_many
            (subst (λ told. IfSome told (IsFrontGiven at_line (late.to_come Line))) (gave_http.other Line line_other).0 gave_line.to_come)
            (taken.full Line).1;
      };
      returned = taken.returned ∙ ap (λ told. with_more told (map record_of (worked_ends (http_ends ++ line_ends)))) (gave_line.returned ∙ gave_http.returned)
          ∙ ap (λ (es : List PlainEnd). with_more old.returned (map record_of es)) all ∙ ap (λ rs. with_more old.returned rs) (records_more hs ls);
      lent = lent_again old.lent new.lent (length at_http + length at_line)
          (sym (lent_sum old.lent (length at_http) (length at_line)) ∙ ap (λ told. more_by (length at_line) told) (sym gave_http.lent) ∙ sym gave_line.lent
          ∙ taken.lent ∙ ap (λ n. more_by n new.lent) many);
      faults = ((taken.well refl) ∙ gave_line.faults) ∙ gave_http.faults;
      number = taken.connections ∙ ap (λ (es : List PlainEnd). min (sum_by (λ e. e.connections) es) most) all ∙ counted;
    }

-- ---- results

-- what is taken back of the ways of both doors is a service
pub all_served : {D : Type 0} (end_of : D → PlainEnd) (book : Book) (rooms : Rooms) (policy : PlainPolicy) (is_day : ℕ → Type 0) (http line workers : ℕ)
    (old mid late new : PlainGate) (at_http at_line : List PlainWay) (outs : List (Outcome D)) (r : Result ℕ ServeFault)
    → AreLeft end_of (λ before end after. HasServedConnection (among_others before.rooms policy is_day) before end after)
    (λ before end after. HasServedLine policy.registry before end after) (pass_of_none book rooms) at_http at_line outs
    → HasGiven Http http old at_http mid → HasGiven Line line mid at_line late
    → length at_http ≡ workers → length at_line ≡ workers
    → IfOk r (λ count. AreTakenBack late (map (end_by end_of) outs) new (record { connections = count; has_failed = false; any_back = false }))
    → IfOk r (λ count. IsServed rooms policy is_day http line workers old new count)
all_served end_of book rooms policy is_day http line workers old mid late new at_http at_line outs (Err fault) left gave_http gave_line http_many line_many
    taken = taken
all_served end_of book rooms policy is_day http line workers old mid late new at_http at_line outs (Ok count) left gave_http gave_line http_many line_many
    taken =
    both_served book rooms policy is_day http line workers old mid late new at_http at_line left.http_ends left.line_ends count gave_http gave_line
    http_many line_many left.http_left left.line_left
    (subst (λ ends. AreTakenBack late ends new (record { connections = count; has_failed = false; any_back = false })) left.joined taken)

pub ok_of : (r : Result ℕ ServeFault) → r ≢ Err GateFault → r ≢ Err Spawn → r ≢ Err NoMemory → IsOk r
ok_of (Ok x) a b c = refl
ok_of (Err GateFault) a b c = absurd (a refl)
ok_of (Err Spawn) a b c = absurd (b refl)
ok_of (Err NoMemory) a b c = absurd (c refl)

pub length_by : {H W P : Type 0} (make : H → W) (way_of : H → PlainWay) (pass_of : H → P) (Good : H → Type 0) (door : Door) (port : ℕ)
    (old : PlainGate) (passes : List P) (duties : List W) (new : PlainGate) (n : ℕ)
    → (it : AreDuties make way_of pass_of Good door port old passes [] duties new) → length passes ≡ n → length (map way_of it.parts) ≡ n
length_by make way_of pass_of Good door port old passes duties new n it many =
    length-map it.parts way_of ∙ sym (length-map it.parts pass_of) ∙ ap (λ ps. length ps) (sym (append-nil (map pass_of it.parts)) ∙ it.passes_are) ∙ many

-- the first passes of a book without entries
pub passes_of_none : (book : Book) (rooms : Rooms) (b : PlainBook) (passes : List PlainPass) → b.book ≡ book → b.rooms ≡ rooms → b.entries ≡ []
    → All (λ p. p ≡ first_pass b) passes → All (λ p. p ≡ pass_of_none book rooms) passes
passes_of_none book rooms b passes same_book same_rooms none all =
    let same : first_pass b ≡ pass_of_none book rooms =
    ap (λ x. record { book = x; rooms = b.rooms; entries = b.entries; shuts = 0 }) same_book
    ∙ ap (λ x. record { book = book; rooms = x; entries = b.entries; shuts = 0 }) same_rooms
    ∙ ap (λ x. record { book = book; rooms = rooms; entries = x; shuts = 0 }) none in
    All-weaker (λ p. p ≡ first_pass b) (λ p. p ≡ pass_of_none book rooms) (λ p first. first ∙ same) passes all
