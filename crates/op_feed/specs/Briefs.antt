-- What is noted of operations, and the operations that it stands for.
use Rattle.std.specs.Prelude.{◌≡◌, ℕ, ◌+◌, ◌-◌, ◌<◌, ◌≤◌, List, [], ◌∷◌, Option, None, Some, length, map, slice_get}
use Rattle.std.specs.Option.{option_map_or}
use Rattle.num_range.specs.Range.{PlainRange}
use Rattle.num_range.specs.declared.space.Space.TheVariants.{Asn}
use Rattle.reg_entry.specs.declared.holder.Holder.{Holder}
use Rattle.reg_entry.specs.declared.object.Act.{Act}
use Rattle.reg_entry.specs.declared.object.Object.{Object}
use Rattle.reg_entry.specs.declared.object.Object.TheVariants.{Block, Sub, Cut}
use Rattle.reg_entry.specs.Objects.{org_of}
use Rattle.reg_entry.specs.Op.{PlainOp}
use Rattle.reg_entry.specs.Operations.{numbered}
use Rattle.op_feed.specs.declared.noted.Brief.{Brief}
use Rattle.op_feed.specs.declared.noted.Brief.TheVariants.{Block as BriefBlock, Sub as BriefSub, Org as BriefOrg, Cut as BriefCut}
use Rattle.op_feed.specs.declared.noted.Noted.{Noted}

-- an object where none stands
abbrev pub no_object : Object
no_object = Sub (record { space = Asn; first = 0; last = 0 }) [] 0

abbrev pub cut_of : PlainRange × List (List ℕ) → Object
cut_of c = Cut c.0 c.1

-- The object of which this is noted. Of the holders and of the cuts that stand apart these are there, from these numbers on.
abbrev pub object_of : ℕ → List (Holder × ℕ) → ℕ → List (PlainRange × List (List ℕ)) → Brief → Object
object_of first_org orgs first_cut cuts (BriefBlock range status handle day until) = Block range status handle day until
object_of first_org orgs first_cut cuts (BriefSub range handle day) = Sub range handle day
object_of first_org orgs first_cut cuts (BriefOrg number) = option_map_or org_of (slice_get orgs (number - first_org)) no_object
object_of first_org orgs first_cut cuts (BriefCut number) = option_map_or cut_of (slice_get cuts (number - first_cut)) no_object

abbrev pub change_noted : (Brief → Object) → Noted → Act × Object
change_noted object n = (n.act, object n.brief)

-- the operations of which these are noted, up to a serial; of so many holders and cuts that stood apart these are the last
abbrev pub kept_of : ℕ → List Noted → ℕ → List (Holder × ℕ) → ℕ → List (PlainRange × List (List ℕ)) → List PlainOp
kept_of serial ns org_count orgs cut_count cuts =
    numbered (serial - length ns) (map (change_noted (object_of (org_count - length orgs) orgs (cut_count - length cuts) cuts)) ns)

-- where the object stands apart, it has one of the numbers from the first on and below the second
abbrev pub IsAmong : ℕ → ℕ → ℕ → ℕ → Brief → Type 0
IsAmong first_org orgs first_cut cuts (BriefBlock range status handle day until) = Unit {0}
IsAmong first_org orgs first_cut cuts (BriefSub range handle day) = Unit {0}
IsAmong first_org orgs first_cut cuts (BriefOrg number) = (first_org ≤ number) × (number < orgs)
IsAmong first_org orgs first_cut cuts (BriefCut number) = (first_cut ≤ number) × (number < cuts)

-- the number among the holders that stand apart
abbrev pub org_number : Brief → Option ℕ
org_number (BriefBlock range status handle day until) = None
org_number (BriefSub range handle day) = None
org_number (BriefOrg number) = Some number
org_number (BriefCut number) = None

-- the number among the cuts that stand apart
abbrev pub cut_number : Brief → Option ℕ
cut_number (BriefBlock range status handle day until) = None
cut_number (BriefSub range handle day) = None
cut_number (BriefOrg number) = None
cut_number (BriefCut number) = Some number

abbrev pub next_number : ℕ → Option ℕ → ℕ
next_number next None = next
next_number next (Some number) = next + 1

abbrev pub IsNextNumber : ℕ → Option ℕ → Type 0
IsNextNumber next None = Unit {0}
IsNextNumber next (Some number) = number ≡ next

-- the numbers of what stands apart count up from the first number to before the second
abbrev pub CountUp : (Brief → Option ℕ) → ℕ → ℕ → List Noted → Type 0
CountUp number next until [] = next ≡ until
CountUp number next until (n ∷ ns) =
    IsNextNumber next (number n.brief) × CountUp number (next_number next (number n.brief)) until ns

-- of so many that stood apart the last are there, and what is noted is one of them
pub record StandApart (number : Brief → Option ℕ) (serial : ℕ) (ns : List Noted) (window count last room : ℕ) : Type 0 where
  pub rooms : room ≡ window
  pub fewer : count ≤ serial
  pub held : last ≤ count
  pub first : ℕ
  pub counted : CountUp number first count ns
  pub there : count - last ≤ first

-- no more is noted than there is room for, and what stands apart is there
pub record IsWindow (serial : ℕ) (ns : List Noted) (window org_count : ℕ) (orgs : List (Holder × ℕ)) (org_room cut_count : ℕ)
    (cuts : List (PlainRange × List (List ℕ))) (cut_room : ℕ) : Type 0 where
  pub few : length ns ≤ serial
  pub kept : length ns ≤ window
  pub holders : StandApart org_number serial ns window org_count (length orgs) org_room
  pub blocks : StandApart cut_number serial ns window cut_count (length cuts) cut_room
