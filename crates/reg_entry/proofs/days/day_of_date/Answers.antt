use Rattle.std.proofs.Common.{◌≡◌, ℕ, ◌<◌, ℤ, pos, FitsSigned, w8, ◌∙◌, false, refl, arith}
use Rattle.std.proofs.lemmas.Bool.{both_ways}
use mir.Syntax.{w16}
use mir.Val.{to_z, of_z}
use Rattle.std.proofs.lemmas.Int.{to_z-of_z}
use Rattle.jiff_core.proofs.SignedLemmas.{signed_arith}
use Rattle.reg_entry.proofs.Calendar.{read_date, ymd_as, unread_date}
use Rattle.reg_entry.proofs.days.day_of_date.Goals as goal

year_is : (z : ℤ) (n : ℕ) → z ≡ pos n → n < 10000 → to_z w16 (of_z w16 z) ≡ pos n
year_is z n e h = let fits : FitsSigned w16 z = omega (arith, signed_arith) in to_z-of_z w16 z fits ∙ e

part_is : (z : ℤ) (n : ℕ) → z ≡ pos n → n < 100 → to_z w8 (of_z w8 z) ≡ pos n
part_is z n e h = let fits : FitsSigned w8 z = omega (arith, signed_arith) in to_z-of_z w8 z fits ∙ e

pub returns-in-Ok-clause-some : goal.returns-in-Ok-clause-some
returns-in-Ok-clause-some c =
    (read_date c.day_after_first.result c.in-Ok.date c.args.year c.args.month c.args.day c.day_after_first.ensures.some c.day_after_first.ensures.day
    (ymd_as c.in-Ok.date _ _ _ c.args.year c.args.month c.args.day (year_is _ _ c.signed_year-y.ensures c.requires.year)
    (part_is _ _ c.signed_part-m.ensures c.requires.month) (part_is _ _ c.signed_part-d.ensures c.requires.day) c.in-Ok.ensures.value)).0

pub returns-in-Ok-clause-day : goal.returns-in-Ok-clause-day
returns-in-Ok-clause-day c =
    (read_date c.day_after_first.result c.in-Ok.date c.args.year c.args.month c.args.day c.day_after_first.ensures.some c.day_after_first.ensures.day
    (ymd_as c.in-Ok.date _ _ _ c.args.year c.args.month c.args.day (year_is _ _ c.signed_year-y.ensures c.requires.year)
    (part_is _ _ c.signed_part-m.ensures c.requires.month) (part_is _ _ c.signed_part-d.ensures c.requires.day) c.in-Ok.ensures.value)).1

pub returns-in-Err-clause-some : goal.returns-in-Err-clause-some
returns-in-Err-clause-some c = (
  λ h. absurd (both_ways false refl h),
  λ w. absurd (unread_date false _ _ _ c.args.year c.args.month c.args.day (year_is _ _ c.signed_year-y.ensures c.requires.year)
      (part_is _ _ c.signed_part-m.ensures c.requires.month) (part_is _ _ c.signed_part-d.ensures c.requires.day) c.in-Err.ensures.succeeds.1 refl w),
)
