-- What the tests of sameness tell: that the two are equal.
use Rattle.std.proofs.Common.{◌≡◌, ℕ, zero, suc, Bool, true, false, ◌&&◌, ◌==◌, nat_eq, List, Option, None, Some, refl, sym, ◌∙◌, ap}
use Rattle.std.specs.Option.{option_eq}
use Rattle.std.specs.Str.{bytes_eq}
use Rattle.std.proofs.lemmas.Bool.{and_parts, and_from, eqb-true, eq-eqb, both_ways}
use Rattle.std.proofs.lemmas.Slice.Eq.{bytes_eq-Decides, slice_eq-Decides}
use Rattle.num_range.specs.declared.space.Space.{Space}
use Rattle.num_range.specs.declared.space.Space.TheVariants.{Asn, Ipv4, Ipv6}
use Rattle.num_range.specs.Range.{PlainRange}
use Rattle.reg_entry.specs.declared.card.Card.{Card}
use Rattle.reg_entry.specs.declared.card.Status.{Status}
use Rattle.reg_entry.specs.declared.card.Status.TheVariants.{Available, Reserved, Quarantine, Allocated, Assigned}
use Rattle.reg_entry.specs.declared.holder.Holder.{Holder}
use Rattle.reg_entry.specs.declared.kind.Kind.{Kind}
use Rattle.reg_entry.specs.declared.kind.Kind.TheVariants.{Lir, EndUser}
use Rattle.reg_entry.specs.declared.object.Object.{Object}
use Rattle.reg_entry.specs.declared.object.Object.TheVariants.{Org, Block, Sub, Cut}
use Rattle.reg_entry.specs.declared.object.Key.{Key}
use Rattle.reg_entry.specs.declared.object.Key.TheVariants.{Org as OrgKey, Block as BlockKey, Sub as SubKey, Cut as CutKey}
use Rattle.reg_entry.specs.Card.{status_rank, same_status, same_card}
use Rattle.reg_entry.specs.Servers.{hosts_eq}
use Rattle.reg_entry.specs.Ranges.{space_rank, same_space, same_range}
use Rattle.reg_entry.specs.Objects.{same_key, same_kind, same_holder, same_object}

-- ---- spaces and ranges

unfoldable pub space_of : ℕ → Space
space_of zero = Asn
space_of (suc zero) = Ipv4
space_of (suc (suc n)) = Ipv6

pub space_of_rank : (s : Space) → space_of (space_rank s) ≡ s
unfolding space_of
space_of_rank Asn = refl
space_of_rank Ipv4 = refl
space_of_rank Ipv6 = refl

pub same_space-true : (s t : Space) → same_space s t ≡ true → s ≡ t
same_space-true s t e = sym (space_of_rank s) ∙ ap space_of (eqb-true (space_rank s) (space_rank t) e) ∙ space_of_rank t

pub same_space-refl : (s : Space) → same_space s s ≡ true
same_space-refl s = eq-eqb (space_rank s) (space_rank s) refl

unfoldable pub as_range : Space → ℕ → ℕ → PlainRange
as_range space first last = record { space = space; first = first; last = last }

pub same_range-true : (r s : PlainRange) → same_range r s ≡ true → r ≡ s
unfolding as_range
same_range-true r s e =
    let p = and_parts (same_space r.space s.space && (r.first == s.first)) (r.last == s.last) e in
    let q = and_parts (same_space r.space s.space) (r.first == s.first) p.0 in
    ap (λ x. as_range x r.first r.last) (same_space-true r.space s.space q.0)
    ∙ ap (λ x. as_range s.space x r.last) (eqb-true r.first s.first q.1)
    ∙ ap (λ x. as_range s.space s.first x) (eqb-true r.last s.last p.1)

pub same_range-refl : (r : PlainRange) → same_range r r ≡ true
same_range-refl r =
    and_from (same_space r.space r.space && (r.first == r.first)) (r.last == r.last)
    (and_from (same_space r.space r.space) (r.first == r.first) (same_space-refl r.space) (eq-eqb r.first r.first refl))
    (eq-eqb r.last r.last refl)

-- ---- cards

status_at : ℕ → Status
status_at zero = Available
status_at (suc zero) = Reserved
status_at (suc (suc zero)) = Quarantine
status_at (suc (suc (suc zero))) = Allocated
status_at (suc (suc (suc (suc n)))) = Assigned

status_at_rank : (s : Status) → status_at (status_rank s) ≡ s
unfolding status_at
status_at_rank Available = refl
status_at_rank Reserved = refl
status_at_rank Quarantine = refl
status_at_rank Allocated = refl
status_at_rank Assigned = refl

pub same_status-true : (s t : Status) → same_status s t ≡ true → s ≡ t
same_status-true s t e = sym (status_at_rank s) ∙ ap status_at (eqb-true (status_rank s) (status_rank t) e) ∙ status_at_rank t

pub same_status-refl : (s : Status) → same_status s s ≡ true
same_status-refl s = eq-eqb (status_rank s) (status_rank s) refl

pub option_eq-true : {A : Type 0} (E : A → A → Bool) → ((a b : A) → E a b ≡ true → a ≡ b) → (a b : Option A) → option_eq E a b ≡ true → a ≡ b
option_eq-true E h None None e = refl
option_eq-true E h None (Some y) e = absurd (both_ways false refl e)
option_eq-true E h (Some x) None e = absurd (both_ways false refl e)
option_eq-true E h (Some x) (Some y) e = ap (λ a. Some a) (h x y e)

pub option_eq-refl : {A : Type 0} (E : A → A → Bool) → ((a : A) → E a a ≡ true) → (a : Option A) → option_eq E a a ≡ true
option_eq-refl E h None = refl
option_eq-refl E h (Some x) = h x

as_card : Status → Option ℕ → ℕ → ℕ → Card
as_card status holder day until = record { status = status; holder = holder; day = day; until = until }

pub same_card-true : (a b : Card) → same_card a b ≡ true → a ≡ b
unfolding as_card
same_card-true a b e =
    let p = and_parts (same_status a.status b.status && option_eq nat_eq a.holder b.holder && (a.day == b.day)) (a.until == b.until) e in
    let q = and_parts (same_status a.status b.status && option_eq nat_eq a.holder b.holder) (a.day == b.day) p.0 in
    let r = and_parts (same_status a.status b.status) (option_eq nat_eq a.holder b.holder) q.0 in
    ap (λ x. as_card x a.holder a.day a.until) (same_status-true a.status b.status r.0)
    ∙ ap (λ x. as_card b.status x a.day a.until) (option_eq-true nat_eq eqb-true a.holder b.holder r.1)
    ∙ ap (λ x. as_card b.status b.holder x a.until) (eqb-true a.day b.day q.1)
    ∙ ap (λ x. as_card b.status b.holder b.day x) (eqb-true a.until b.until p.1)

pub same_card-refl : (c : Card) → same_card c c ≡ true
same_card-refl c =
    and_from (same_status c.status c.status && option_eq nat_eq c.holder c.holder && (c.day == c.day)) (c.until == c.until)
    (and_from (same_status c.status c.status && option_eq nat_eq c.holder c.holder) (c.day == c.day)
    (and_from (same_status c.status c.status) (option_eq nat_eq c.holder c.holder) (same_status-refl c.status)
    (option_eq-refl nat_eq (λ n. eq-eqb n n refl) c.holder))
    (eq-eqb c.day c.day refl))
    (eq-eqb c.until c.until refl)

-- ---- bytes and hosts

pub bytes_eq-true : (a b : List ℕ) → bytes_eq a b ≡ true → a ≡ b
bytes_eq-true a b = (bytes_eq-Decides a b).0

pub bytes_eq-refl : (a : List ℕ) → bytes_eq a a ≡ true
bytes_eq-refl a = (bytes_eq-Decides a a).1 refl

pub hosts_eq-true : (a b : List (List ℕ)) → hosts_eq a b ≡ true → a ≡ b
hosts_eq-true a b = (slice_eq-Decides bytes_eq-Decides a b (hosts_eq a b) refl).0

-- ---- keys and objects

pub same_key-true : (a b : Key) → same_key a b ≡ true → a ≡ b
same_key-true (OrgKey a) (OrgKey b) e = ap (λ x. OrgKey x) (bytes_eq-true a b e)
same_key-true (BlockKey a) (BlockKey b) e = ap (λ x. BlockKey x) (same_range-true a b e)
same_key-true (SubKey a) (SubKey b) e = ap (λ x. SubKey x) (same_range-true a b e)
same_key-true (CutKey a) (CutKey b) e = ap (λ x. CutKey x) (same_range-true a b e)
same_key-true a b e = absurd (both_ways false refl e)

pub same_key-refl : (a : Key) → same_key a a ≡ true
same_key-refl (OrgKey a) = bytes_eq-refl a
same_key-refl (BlockKey a) = same_range-refl a
same_key-refl (SubKey a) = same_range-refl a
same_key-refl (CutKey a) = same_range-refl a

pub same_kind-true : (a b : Kind) → same_kind a b ≡ true → a ≡ b
same_kind-true Lir Lir e = refl
same_kind-true Lir EndUser e = absurd (both_ways false refl e)
same_kind-true EndUser Lir e = absurd (both_ways false refl e)
same_kind-true EndUser EndUser e = refl

as_holder : List ℕ → Kind → List ℕ → List ℕ → List ℕ → Holder
as_holder handle kind cc name email = record { handle = handle; kind = kind; cc = cc; name = name; email = email }

pub same_holder-true : (a b : Holder) → same_holder a b ≡ true → a ≡ b
unfolding as_holder
same_holder-true a b e =
    let p = and_parts (bytes_eq a.handle b.handle && same_kind a.kind b.kind && bytes_eq a.cc b.cc && bytes_eq a.name b.name) (bytes_eq a.email b.email) e in
    let q = and_parts (bytes_eq a.handle b.handle && same_kind a.kind b.kind && bytes_eq a.cc b.cc) (bytes_eq a.name b.name) p.0 in
    let r = and_parts (bytes_eq a.handle b.handle && same_kind a.kind b.kind) (bytes_eq a.cc b.cc) q.0 in
    let s = and_parts (bytes_eq a.handle b.handle) (same_kind a.kind b.kind) r.0 in
    ap (λ x. as_holder x a.kind a.cc a.name a.email) (bytes_eq-true a.handle b.handle s.0)
    ∙ ap (λ x. as_holder b.handle x a.cc a.name a.email) (same_kind-true a.kind b.kind s.1)
    ∙ ap (λ x. as_holder b.handle b.kind x a.name a.email) (bytes_eq-true a.cc b.cc r.1)
    ∙ ap (λ x. as_holder b.handle b.kind b.cc x a.email) (bytes_eq-true a.name b.name q.1)
    ∙ ap (λ x. as_holder b.handle b.kind b.cc b.name x) (bytes_eq-true a.email b.email p.1)

pub same_object-true : (a b : Object) → same_object a b ≡ true → a ≡ b
same_object-true (Org a d) (Org b e) t =
    let p = and_parts (same_holder a b) (d == e) t in
    ap (λ x. Org x d) (same_holder-true a b p.0) ∙ ap (λ x. Org b x) (eqb-true d e p.1)
same_object-true (Block a s h d u) (Block b t g e v) is =
    let p = and_parts (same_range a b && same_status s t && option_eq bytes_eq h g && (d == e)) (u == v) is in
    let q = and_parts (same_range a b && same_status s t && option_eq bytes_eq h g) (d == e) p.0 in
    let r = and_parts (same_range a b && same_status s t) (option_eq bytes_eq h g) q.0 in
    let k = and_parts (same_range a b) (same_status s t) r.0 in
    ap (λ x. Block x s h d u) (same_range-true a b k.0)
    ∙ ap (λ x. Block b x h d u) (same_status-true s t k.1)
    ∙ ap (λ x. Block b t x d u) (option_eq-true bytes_eq bytes_eq-true h g r.1)
    ∙ ap (λ x. Block b t g x u) (eqb-true d e q.1)
    ∙ ap (λ x. Block b t g e x) (eqb-true u v p.1)
same_object-true (Sub a h d) (Sub b g e) t =
    let p = and_parts (same_range a b && bytes_eq h g) (d == e) t in
    let q = and_parts (same_range a b) (bytes_eq h g) p.0 in
    ap (λ x. Sub x h d) (same_range-true a b q.0) ∙ ap (λ x. Sub b x d) (bytes_eq-true h g q.1) ∙ ap (λ x. Sub b g x) (eqb-true d e p.1)
same_object-true (Cut a s) (Cut b t) is =
    let p = and_parts (same_range a b) (hosts_eq s t) is in
    ap (λ x. Cut x s) (same_range-true a b p.0) ∙ ap (λ x. Cut b x) (hosts_eq-true s t p.1)
same_object-true a b t = absurd (both_ways false refl t)
